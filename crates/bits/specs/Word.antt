-- A word as a set of places: place j stands at bit 2^j. Vectors of such words, and one level of aggregation over them.
-- Assumes nothing.
use Rattle.std.specs.Prelude.{Bool, true, false, not, List, [], ◌∷◌, map, ℕ, zero, suc, ◌+◌, ◌-◌, ◌*◌, ◌/◌, ◌%◌, ◌^◌, eqb, take, drop}
use Rattle.std.specs.Int.Bits.{bit_and}

abbrev pub digit : Bool → ℕ
digit true = 1
digit false = 0

-- the word whose bit 2^j is set exactly when the test at j holds
unfoldable pub word_of : List Bool → ℕ
word_of [] = 0
word_of (b ∷ bs) = word_of bs * 2 + digit b

-- n words of `size` places each: place i is bit 2^(i mod size) of word i / size
unfoldable pub pack : ℕ → ℕ → List Bool → List ℕ
pack size zero bs = []
pack size (suc n) bs = word_of (take size bs) ∷ pack size n (drop size bs)

-- bit 2^b of a word
unfoldable pub bit : ℕ → ℕ → Bool
bit word b = eqb (word / 2 ^ b % 2) 1

abbrev pub nonzero : ℕ → Bool
nonzero n = not (eqb n 0)

-- one level of aggregation, to n words: place b is set exactly when word b is not zero
unfoldable pub aggregate : ℕ → ℕ → List ℕ → List ℕ
aggregate size n words = pack size n (map nonzero words)

-- the places that are set in each of the words, of `size` places
unfoldable pub and_all : ℕ → List ℕ → ℕ
and_all size [] = 2 ^ size - 1
and_all size (w ∷ ws) = bit_and w (and_all size ws)
