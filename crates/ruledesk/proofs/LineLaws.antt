-- The text of an answer in 01's numbers is the text of what the code's types hold.
-- Assumes nothing.
use mathlib.Core.Path.{◌≡◌, refl}
use mathlib.Core.List.{List, ◌∷◌, ◌++◌}
use Prim.Native.Nat.{ℕ, suc}
use native.Mathlib.Omega.{arith}
use borrow.Author.Tests.{ne_eqb}
use Rattle.rules.specs.declared.Action.{Action}
use Rattle.rules.specs.declared.Action.TheVariants.{Hold, Deliver}
use Rattle.rules.specs.declared.Refusal.{Refusal}
use Rattle.rules.specs.declared.Refusal.TheVariants.{RaggedTable, TooManyRules, LongPrefix, StrayBit, UnknownAction, SpareBytes, ShortArea, NotAHeader, DamagedArea, ShortList, NotAnOrder, ShortOutput, NotAllowed, StrayPort}
use Rattle.rules.specs.Refusal.{said, number_of, place_of}
use Rattle.rules.proofs.SaidLaws.{numbered}
use Rattle.lookup.specs.declared.Outcome.TheVariants.{Match}
use Rattle.lookup.specs.Said.{action_values}
use Rattle.lookup.specs.InCode.{outcome_said}
use Rattle.ruledesk.specs.Text.{codes, decimal}
use Rattle.ruledesk.specs.Lines.{place_text, refused_text, action_text, outcome_text, answer_text}
use Rattle.ruledesk.specs.InCode.{place_told, action_told}

pub match_text : (place : ℕ) (a : Action) → outcome_text (outcome_said (Match place a)) ≡ codes "match " ++ (decimal place ++ action_told a)
unfolding outcome_text outcome_said action_values action_text action_told
match_text place Hold = refl
match_text place (Deliver feed) = refl

pub refused_told : (r : Refusal) → refused_text (said r) ≡ codes "refused " ++ (decimal (number_of r) ++ place_told (place_of r))
unfolding refused_text place_text said number_of place_of place_told
refused_told RaggedTable = refl
refused_told TooManyRules = refl
refused_told (LongPrefix place) = refl
refused_told (StrayBit place) = refl
refused_told (UnknownAction place) = refl
refused_told (SpareBytes place) = refl
refused_told ShortArea = refl
refused_told NotAHeader = refl
refused_told DamagedArea = refl
refused_told ShortList = refl
refused_told NotAnOrder = refl
refused_told ShortOutput = refl
refused_told (NotAllowed c) = refl
refused_told (StrayPort place) = refl

answer_other : (n : ℕ) (values : List ℕ) → answer_text (suc n ∷ values) ≡ refused_text (suc n ∷ values)
unfolding answer_text
answer_other n values = rw (ne_eqb (suc n) 0 (λ e. omega (arith, e))) refl

-- the line of a lookup that is refused is the refusal's
pub refused_text_lem : (r : Refusal) → answer_text (said r) ≡ refused_text (said r)
refused_text_lem r = rw (numbered r).2 (answer_other (numbered r).0 (numbered r).1)
