-- Demand 3 through demand 2: after an allowed move, a header looked up over an index of the moved table, as the output holds it, gets the
-- action that it gets over an index of the first table, or none where it gets none there.
-- Assumes nothing.
use Rattle.lookup.specs.declared.Answer.{Answer}
use Rattle.rules.specs.declared.Refusal.{Refusal}
use Rattle.std.specs.Prelude.{Result, Ok}
use mathlib.Core.Path.{◌≡◌, sym, ap, ◌∙◌}
use mathlib.Core.Logic.{◌↔◌}
use mathlib.Core.List.{List}
use Prim.Native.Nat.{ℕ}
use lib.ListN.{length, take}
use Rattle.rules.specs.declared.Action.{Action}
use Rattle.rules.specs.Rule.{Rule}
use Rattle.rules.specs.Table.{rules_of}
use Rattle.rules.specs.Header.{header_values}
use Rattle.rules.proofs.MatchLaws.{rules_size}
use Rattle.overlap.specs.Judge as judge
use Rattle.overlap.proofs.MoveLaws.{move_same_answer}
use Rattle.overlap.proofs.TableMoves.{moved_rules}
use Rattle.desk.specs.LookCall.{Looks}
use Rattle.desk.specs.JudgeCall.{Judges}
use Rattle.desk.specs.Terms.{IsHeader, IsTable, IsIndex, Gets, Unmatched}
use Rattle.desk.proofs.Demand2.{gets_answer, unmatched_answer}
use Rattle.desk.proofs.Demand3.{judged_moved, judge_accepted}

module _ {table order output after old new header : List ℕ} {before later : Result Answer Refusal} (t : IsTable table) (j : Judges table order output (Ok tt) after)
    (h : IsHeader header) (x : IsIndex table old) (l : Looks table old header before)
    (y : IsIndex (take (length table) after) new) (k : Looks (take (length table) after) new header later) where
  abbrev there : List ℕ
  there = take (length table) after

  moved_table_lem : IsTable there
  moved_table_lem = judge_accepted t j

  same_answer : judge.answer_of (rules_of there) (header_values header) ≡ judge.answer_of (rules_of table) (header_values header)
  same_answer =
      let m = judged_moved table order output after j in
      ap (λ (rs : List Rule). judge.answer_of rs (header_values header)) (ap rules_of m.written ∙ moved_rules table order m.ordered)
      ∙ move_same_answer (rules_of table) order (rw (rules_size table) m.ordered) m.allowed (header_values header)

  pub moved_same_action : (action : Action) → Gets before action ↔ Gets later action
  moved_same_action action =
      let first = gets_answer t x h l action in
      let second = gets_answer moved_table_lem y h k action in
      (λ g. second.1 (same_answer ∙ first.0 g), λ g. first.1 (sym same_answer ∙ second.0 g))

  pub moved_same_none : Unmatched before ↔ Unmatched later
  moved_same_none =
      let first = unmatched_answer t x h l in
      let second = unmatched_answer moved_table_lem y h k in
      (λ u. second.1 (same_answer ∙ first.0 u), λ u. first.1 (sym same_answer ∙ second.0 u))
