-- Proposed orders: when a list of numbers is an order, the tables that it makes, and the orders made from others.
-- Assumes nothing.
use Rattle.std.specs.Prelude.{Bool, true, not, ◌&&◌, ℕ, eqb, ltb, length, get_or}
use mathlib.Core.List.{List, [], ◌∷◌, map, flatten}
use Rattle.std.specs.Option.{unwrap_or}
use Rattle.bits.specs.Tests.{any, up_from, lowest}
use Rattle.rules.specs.Rule.{Rule}
use Rattle.rules.specs.Match.{rule_at}
use Rattle.rules.specs.Table.{record_at}

-- a number is in a list
unfoldable pub member : ℕ → List ℕ → Bool
member x ys = any (λ y. eqb y x) ys

-- no entry is "repeated or too large"
unfoldable pub apart_below : ℕ → List ℕ → Bool
apart_below n [] = true
apart_below n (x ∷ xs) = ltb x n && (not (member x xs) && apart_below n xs)

-- an order of n places; otherwise 11: "order's length is not the rule count, or an entry is repeated or too large"
unfoldable pub is_order : ℕ → List ℕ → Bool
is_order n order = eqb (length order) n && apart_below n order

-- "a list of 16-bit old places in their new order": the old place of what goes to new place k
abbrev pub old_place : List ℕ → ℕ → ℕ
old_place order k = get_or order k 0

-- the new place of what stood at old place i; the order's length where i is not in it
unfoldable pub new_place : List ℕ → ℕ → ℕ
new_place order i = unwrap_or (lowest (λ k. eqb (old_place order k) i) (length order)) (length order)

-- the rules in their new order
unfoldable pub moved : List Rule → List ℕ → List Rule
moved rules order = map (rule_at rules) order

-- "the moved table": the records, one after another in their new order
unfoldable pub moved_table : List ℕ → List ℕ → List ℕ
moved_table table order = flatten (map (record_at table) order)

-- ---- orders made from others

-- "the order left in place"
unfoldable pub in_place : ℕ → List ℕ
in_place n = up_from 0 n

-- the order that takes a table moved by `order` back
unfoldable pub way_back : ℕ → List ℕ → List ℕ
way_back n order = map (new_place order) (in_place n)

-- two moves in a row as one: the second order takes its old places from the table that the first made
unfoldable pub and_then : List ℕ → List ℕ → List ℕ
and_then first second = map (old_place first) second
