-- The steps of the code: one row of pairs, and the table that a checked order leaves.
-- Assumes nothing.
use Rattle.std.specs.Prelude.{◌≡◌, true, List, ℕ, ◌+◌, ◌-◌, ◌<◌, get_or}
use Rattle.rules.specs.Table.{rule_count, rules_of}
use Rattle.overlap.specs.Pairs.{Pair, row, triangle, keep, listed, on_pair}
use Rattle.overlap.specs.Order.{is_order, new_place}

-- the listed pairs of place i with each of the n places from j on
abbrev pub listed_row : List ℕ → ℕ → ℕ → ℕ → List Pair
listed_row table i j n = keep (on_pair listed (rules_of table)) (row i j n)

-- the listed pairs of place i with the higher places
abbrev pub listed_with : List ℕ → ℕ → List Pair
listed_with table i = listed_row table i (i + 1) (rule_count table - (i + 1))

-- the listed pairs from place i on
abbrev pub listed_from : List ℕ → ℕ → List Pair
listed_from table i = keep (on_pair listed (rules_of table)) (triangle i (rule_count table - i))

-- a table holds the new place of each old one of an order
pub record Inverts (rules : ℕ) (order : List ℕ) (places : List ℕ) : Type 0 where
  pub valid : is_order rules order ≡ true
  pub new : (i : ℕ) → i < rules → get_or places i 0 ≡ new_place order i
