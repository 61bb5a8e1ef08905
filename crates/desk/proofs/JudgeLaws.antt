-- The ways to satisfy the statement of `judge`: a refused table, no order, a short output, a pair that stands in the way, and the moved
-- table written.
-- Assumes nothing.
use mathlib.Core.Path.{◌≡◌, refl, sym, ap, ◌∙◌}
use mathlib.Core.Bool.{true, false}
use mathlib.Core.List.{List, [], ◌∷◌, ◌++◌}
use Rattle.std.specs.Prelude.{Option, None, Some, Ok, Err}
use Prim.Native.Nat.{ℕ, ◌≤◌, ◌<◌}
use lib.ListN.{length, drop}
use borrow.Author.Tests.{lt-ltb, le-ltb}
use Rattle.rules.specs.declared.Crossing.{Crossing}
use Rattle.rules.specs.declared.Refusal.{Refusal}
use Rattle.rules.specs.declared.Refusal.TheVariants.{NotAnOrder, ShortOutput, NotAllowed}
use Rattle.rules.specs.Header.{header_bytes}
use Rattle.rules.specs.Refusal.{told, said, first_refusal}
use Rattle.rules.specs.Rule.{Rule}
use Rattle.rules.specs.Table.{rule_count, rules_of, verdict, Accepted}
use Rattle.rules.proofs.SaidLaws.{refused_first}
use Rattle.overlap.specs.Pairs.{Pair}
use Rattle.overlap.specs.Order.{is_order, moved_table}
use Rattle.overlap.specs.Judge.{crossing}
use Rattle.overlap.specs.Obstacle.{pair_told, found_told, crossing_told}
use Rattle.desk.specs.JudgeCall.{order_said, output_said, crossing_said, judge_said, judge_left, Judges}
use Rattle.desk.proofs.LentLaws.{lent_refused, done_written}

-- ---- what refusal 13 says

-- what is said, from what is told
said_of : List ℕ → List ℕ
said_of [] = 0 ∷ []
said_of (i ∷ []) = 0 ∷ []
said_of (i ∷ j ∷ vs) = 13 ∷ i ∷ j ∷ header_bytes vs

told_said : (rules : List Rule) (o : Option Pair) → crossing_said rules o ≡ said_of (found_told rules o)
unfolding crossing_said said_of found_told pair_told
told_said rules None = refl
told_said rules (Some p) = refl

crossing_said_lem : (c : Crossing) → said_of (crossing_told c) ≡ said (NotAllowed c)
unfolding said_of crossing_told said
crossing_said_lem c = refl

-- ---- the ways

module _ (table order output : List ℕ) where
  -- what the call writes where it is done
  abbrev written : List ℕ
  written = moved_table table order ++ drop (length table) output

  -- what is told of the pair that stands in the way
  abbrev pub crossed : List ℕ
  crossed = found_told (rules_of table) (crossing (rules_of table) order)

  abbrev last : List ℕ
  last = crossing_said (rules_of table) (crossing (rules_of table) order)

  -- where a refusal is said, the output stays
  refuses : (r : Refusal) → judge_said table order output ≡ said r → Judges table order output (Err r) output
  unfolding told judge_left
  refuses r e =
      let w = lent_refused r (judge_said table order output) written output e in
      record { answer = w.0; lent = w.1 }

  pub refused_judges : (r : Refusal) → said r ≡ verdict table → Judges table order output (Err r) output
  unfolding judge_said
  refused_judges r e =
      let rest = first_refusal (order_said table order) (first_refusal (output_said table output) last) in
      refuses r (ap (λ (vs : List ℕ). first_refusal vs rest) (sym e) ∙ refused_first r rest)

  module _ (ok : Accepted table) where
    past_table : judge_said table order output ≡ first_refusal (order_said table order) (first_refusal (output_said table output) last)
    unfolding judge_said first_refusal
    past_table = ap (λ (vs : List ℕ). first_refusal vs (first_refusal (order_said table order) (first_refusal (output_said table output) last))) ok

    pub no_order_judges : is_order (rule_count table) order ≡ false → Judges table order output (Err NotAnOrder) output
    unfolding order_said first_refusal said
    no_order_judges e = refuses NotAnOrder (past_table ∙ rw e)

    module _ (ordered : is_order (rule_count table) order ≡ true) where
      pub past_order : judge_said table order output ≡ first_refusal (output_said table output) last
      unfolding order_said first_refusal
      past_order = past_table ∙ rw ordered

      pub short_judges : length output < length table → Judges table order output (Err ShortOutput) output
      unfolding output_said first_refusal said
      short_judges h = refuses ShortOutput (past_order ∙ rw (lt-ltb (length output) (length table) h))

      module _ (room : length table ≤ length output) where
        pub past_output : judge_said table order output ≡ last
        unfolding output_said first_refusal
        past_output = past_order ∙ rw (le-ltb (length output) (length table) room)

        says_crossed : judge_said table order output ≡ said_of crossed
        says_crossed = past_output ∙ told_said (rules_of table) (crossing (rules_of table) order)

        pub crossed_judges : (c : Crossing) → crossing_told c ≡ crossed → Judges table order output (Err (NotAllowed c)) output
        crossed_judges c e = refuses (NotAllowed c) (says_crossed ∙ ap said_of (sym e) ∙ crossing_said_lem c)

        pub allowed_judges : [] ≡ crossed → Judges table order output (Ok tt) written
        unfolding told judge_left said_of
        allowed_judges e =
            let done : judge_said table order output ≡ 0 ∷ [] = says_crossed ∙ ap said_of (sym e) in
            record { answer = sym done; lent = sym (done_written (judge_said table order output) written output [] done) }
