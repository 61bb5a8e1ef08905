-- `from` meets its contract: the number of false blocks, and then the outcome.
use mathlib.Core.List.{List, ◌∷◌}
use Prim.Native.Nat.{ℕ}
use Rattle.lookup.specs.declared.Outcome.{Outcome}
use Rattle.lookup.specs.InCode.{outcome_said}
use Rattle.face.proofs.HandsLaws.{hands_same}
use Rattle.face.proofs.answers.AnswerFromLookupAnswer.from.Goals as goal

found_said : ℕ → Outcome → List ℕ
found_said falses o = 0 ∷ falses ∷ outcome_said o

pub returns-in-NoMatch : goal.returns-in-NoMatch
unfolding found_said outcome_said
returns-in-NoMatch c = hands_same (found_said c.args.answer.falses) c.in-NoMatch.is c.carrying.ensures

pub returns-in-Match : goal.returns-in-Match
unfolding found_said outcome_said
returns-in-Match c = hands_same (found_said c.args.answer.falses) c.in-Match.is c.matched.ensures
