-- Listing the pairs of rules that share a header while neither covers the other.
-- Assumes nothing.
use Rattle.rules.specs.declared.Refusal.{Refusal}
use Rattle.std.specs.Prelude.{◌≡◌, List, [], ◌∷◌, ◌++◌, ℕ, ◌*◌, length, drop, Result}
use Rattle.rules.specs.Refusal.{told, first_refusal}
use Rattle.rules.specs.Table.{rules_of, verdict}
use Rattle.overlap.specs.Pairs.{pairs_of, entries}
use Rattle.desk.specs.Lent.{room_said, lent_after}

-- an answer in 01's numbers: done, with "the number of pairs", or a refusal
abbrev pub paired_said : Result ℕ Refusal → List ℕ
paired_said = told (λ count. count ∷ [])

abbrev pub pair_count : List ℕ → ℕ
pair_count table = length (pairs_of (rules_of table))

-- "Pairs: 1, 2, rules, 10." 10: "list shorter than twice the number of pairs"
unfoldable pub pairs_said : List ℕ → List ℕ → List ℕ
pairs_said table list = first_refusal (verdict table) (room_said 10 (2 * pair_count table) list (pair_count table))

-- the list afterwards: "16-bit numbers, two per pair", and "later entries of the lent list keep their values"
unfoldable pub pairs_left : List ℕ → List ℕ → List ℕ
pairs_left table list = lent_after (pairs_said table list) (entries (pairs_of (rules_of table)) ++ drop (2 * pair_count table) list) list

-- what `pairs` answers and leaves, for any table and any list
pub record Pairs (table list : List ℕ) (r : Result ℕ Refusal) (after : List ℕ) : Type 0 where
  pub answer : paired_said r ≡ pairs_said table list
  pub lent : after ≡ pairs_left table list
