-- Pairs of places, and the list of pairs (01: "Pairs and moves").
-- Assumes nothing.
use Rattle.std.specs.Prelude.{Bool, true, false, not, ◌&&◌, List, [], ◌∷◌, ◌++◌, ℕ, zero, suc, length, Option, None, Some}
use Rattle.rules.specs.Rule.{Rule}
use Rattle.rules.specs.Match.{rule_at}
use Rattle.rules.specs.Overlap.{share, covers}

-- two places
pub record Pair : Type 0 where
  pub lower : ℕ
  pub higher : ℕ

-- place i with each of the n places from j on
unfoldable pub row : ℕ → ℕ → ℕ → List Pair
row i j zero = []
row i j (suc n) = record { lower = i; higher = j } ∷ row i (suc j) n

-- all pairs of the n places from k on, "sorted by the lower and then the higher place"
unfoldable pub triangle : ℕ → ℕ → List Pair
triangle k zero = []
triangle k (suc n) = row k (suc k) n ++ triangle (suc k) n

module _ {A : Type 0} where
  -- those of a list that pass a test, in their order
  unfoldable pub keep : (A → Bool) → List A → List A
  keep test [] = []
  keep test (x ∷ xs) = elim (test x) [ true ↦ x ∷ keep test xs | false ↦ keep test xs ]

  -- the first of a list that passes a test
  unfoldable pub first_of : (A → Bool) → List A → Option A
  first_of test [] = None
  first_of test (x ∷ xs) = elim (test x) [ true ↦ Some x | false ↦ first_of test xs ]

-- "A listed pair shares a header and neither covers the other, whatever the actions."
unfoldable pub listed : Rule → Rule → Bool
listed a b = share a b && (not (covers a b) && not (covers b a))

-- a test of two rules, at a pair's places
unfoldable pub on_pair : (Rule → Rule → Bool) → List Rule → Pair → Bool
on_pair test rules p = test (rule_at rules p.lower) (rule_at rules p.higher)

-- the listed pairs of a table's rules
unfoldable pub pairs_of : List Rule → List Pair
pairs_of rules = keep (on_pair listed rules) (triangle 0 (length rules))

-- "The list is 16-bit numbers, two per pair, lower place first"
unfoldable pub entries : List Pair → List ℕ
entries [] = []
entries (p ∷ ps) = p.lower ∷ p.higher ∷ entries ps
