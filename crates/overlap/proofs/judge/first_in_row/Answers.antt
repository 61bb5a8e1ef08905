-- `first_in_row` meets its contract: the first of the row's pairs that is overtaken.
use mathlib.Core.Path.{◌≡◌, ap, ◌∙◌}
use mathlib.Core.Bool.{true, false}
use mathlib.Core.List.{List}
use Prim.Native.Nat.{ℕ, ◌+◌}
use native.Mathlib.Omega.{arith}
use Rattle.std.proofs.Common.{None, Some, rules, tests}
use Rattle.std.proofs.iter.runs.Sources.{ranges}
use Rattle.std.proofs.lemmas.Iterator.{first_from_Range}
use Rattle.rules.specs.Table.{rule_count, rules_of}
use Rattle.overlap.specs.Obstacle.{overtaken_by, obstacle_told}
use Rattle.overlap.proofs.ObstacleLaws.{found_in_row}
use Rattle.overlap.proofs.judge.first_in_row.Goals as goal

-- what the search asks of a higher place
module _ (table places : List ℕ) (lower : ℕ) where
  abbrev Passes : ℕ → Type 0
  Passes higher = overtaken_by (rules_of table) places lower higher ≡ true

  abbrev Fails : ℕ → Type 0
  Fails higher = overtaken_by (rules_of table) places lower higher ≡ false

pub crossing_at-requires : goal.crossing_at-requires
crossing_at-requires c = search (rules, ranges)

pub returns-in_err-higher : goal.returns-in_err-higher
unfolding obstacle_told
returns-in_err-higher c =
    ap obstacle_told c.from_residual.ensures
    ∙ found_in_row (rules_of c.args.table.bytes.now) c.args.places.now (rule_count c.args.table.bytes.now) c.args.lower (c.args.lower + 1) (omega arith) None
    (rw c.len.ensures.0 at
    (first_from_Range _ _ _ None (Passes c.args.table.bytes.now c.args.places.now c.args.lower) (Fails c.args.table.bytes.now c.args.places.now c.args.lower) c.in_err-higher.ensures.ran (λ x q k. search (rules, tests)) (λ x q k. search (rules, tests))))

pub returns : goal.returns
unfolding obstacle_told
returns c =
    c.crossing_at.ensures
    ∙ found_in_row (rules_of c.args.table.bytes.now) c.args.places.now (rule_count c.args.table.bytes.now) c.args.lower (c.args.lower + 1) (omega arith) (Some c.in_ok-higher.higher)
    (rw c.len.ensures.0 at
    (first_from_Range _ _ _ (Some c.in_ok-higher.higher) (Passes c.args.table.bytes.now c.args.places.now c.args.lower) (Fails c.args.table.bytes.now c.args.places.now c.args.lower) c.in_ok-higher.ensures.ran (λ x q k. search (rules, tests)) (λ x q k. search (rules, tests))))
