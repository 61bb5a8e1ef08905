-- Judging a proposed order, and writing the moved table where it is allowed.
-- Assumes nothing.
use Rattle.rules.specs.declared.Refusal.{Refusal}
use Rattle.std.specs.Prelude.{◌≡◌, cond, List, [], ◌∷◌, ◌++◌, ℕ, ltb, length, drop, Result, Option, None, Some}
use Rattle.rules.specs.Rule.{Rule}
use Rattle.rules.specs.Match.{rule_at}
use Rattle.rules.specs.Overlap.{lowest_shared}
use Rattle.rules.specs.Header.{header_bytes}
use Rattle.rules.specs.Refusal.{checked_said, first_refusal}
use Rattle.rules.specs.Table.{rule_count, rules_of, verdict}
use Rattle.overlap.specs.Pairs.{Pair}
use Rattle.overlap.specs.Order.{is_order, moved_table}
use Rattle.overlap.specs.Judge.{crossing}
use Rattle.desk.specs.Lent.{lent_after}

-- an answer in 01's numbers: done, or a refusal
abbrev pub judged_said : Result Unit Refusal → List ℕ
judged_said = checked_said

-- 11: "order's length is not the rule count, or an entry is repeated or too large"
unfoldable pub order_said : List ℕ → List ℕ → List ℕ
order_said table order = cond (is_order (rule_count table) order) (0 ∷ []) (11 ∷ [])

-- 12: "output shorter than the table"
unfoldable pub output_said : List ℕ → List ℕ → List ℕ
output_said table output = cond (ltb (length output) (length table)) (12 ∷ []) (0 ∷ [])

-- 13: "the answer names the first pair by old places .. and their lowest shared header"
unfoldable pub crossing_said : List Rule → Option Pair → List ℕ
crossing_said rules None = 0 ∷ []
crossing_said rules (Some p) = 13 ∷ p.lower ∷ p.higher ∷ header_bytes (lowest_shared (rule_at rules p.lower) (rule_at rules p.higher))

-- "Moves: 1, 2, rules, 11, 12, 13."
unfoldable pub judge_said : List ℕ → List ℕ → List ℕ → List ℕ
judge_said table order output =
    first_refusal (verdict table)
    (first_refusal (order_said table order)
    (first_refusal (output_said table output)
    (crossing_said (rules_of table) (crossing (rules_of table) order))))

-- the output afterwards: "the moved table is written to a lent output", and "bytes beyond the table stay"
unfoldable pub judge_left : List ℕ → List ℕ → List ℕ → List ℕ
judge_left table order output = lent_after (judge_said table order output) (moved_table table order ++ drop (length table) output) output

-- what `judge` answers and leaves, for any table, any order and any output
pub record Judges (table order output : List ℕ) (r : Result Unit Refusal) (after : List ℕ) : Type 0 where
  pub answer : judged_said r ≡ judge_said table order output
  pub lent : after ≡ judge_left table order output
