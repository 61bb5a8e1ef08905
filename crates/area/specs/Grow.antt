-- Growing the records of a path in an area.
-- Assumes nothing.
use Rattle.std.specs.Prelude.{cond, List, ◌++◌, ℕ, ◌+◌, ◌-◌, ◌*◌, ◌/◌, ◌%◌, ◌^◌, ◌≤◌, ◌<◌, eqb, length, get_or, set, take, drop, replicate}
use Rattle.std.specs.Int.Bits.{bit_or}
use Rattle.std.specs.Coded.{le_prop, Π_prop, →_prop}
use Rattle.bits.specs.Path.{bit_of}
use Rattle.area.specs.Shape.{record_words, vector_start}
use Rattle.area.specs.Upto.{upto}

-- an area with zeros from `start` up to, not including, `end`
unfoldable pub zeroed : ℕ → ℕ → List ℕ → List ℕ
zeroed start end a = take start a ++ (replicate (end - start) 0 ++ drop end a)

-- the area, the record reached, and the number of the next record to be made
pub record State : Type 0 where
  pub area : List ℕ
  pub at : ℕ
  pub next : ℕ

-- a state by its parts
abbrev pub mk : List ℕ → ℕ → ℕ → State
mk a t n = record { area = a; at = t; next = n }

-- record n is made as the child of record t for bit b
unfoldable pub made : ℕ → List ℕ → ℕ → ℕ → State
made b a t n = mk (zeroed (record_words * n) (record_words * n + record_words) (set a (record_words * t + b) n)) n (n + 1)

-- the word of the record reached for bit b
abbrev pub kid : ℕ → State → ℕ
kid b s = get_or s.area (record_words * s.at + b) 0

-- one step down by bit b
unfoldable pub down : ℕ → State → State
down b s = cond (eqb (kid b s) 0) (made b s.area s.at s.next) (mk s.area (kid b s) s.next)

-- n steps down by the top bits of v
unfoldable pub walked : ℕ → ℕ → ℕ → State → State
walked w v n s = upto (λ j. down (bit_of w v j)) n s

-- rule i's bit in the vector of record t
unfoldable pub with_bit : ℕ → ℕ → List ℕ → List ℕ
with_bit t i a = set a (record_words * t + vector_start + i / 32) (bit_or (get_or a (record_words * t + vector_start + i / 32) 0) (2 ^ (i % 32)))

-- down by the top n bits of v, and rule i's bit in the record reached
unfoldable pub inserted : ℕ → ℕ → ℕ → ℕ → State → State
inserted w v n i s = mk (with_bit (walked w v n s).at i (walked w v n s).area) (walked w v n s).at (walked w v n s).next

-- ---- what an area must be for these steps

-- each child word of the first n records is below n
unfoldable pub Kids : List ℕ → ℕ → Type 0
Kids a n = (k b : ℕ) → k < n → b < 2 → get_or a (record_words * k + b) 0 < n

-- which holds in one way only, as a fact beside fields must
pub Kids-prop : (a : List ℕ) (n : ℕ) → IsProp (Kids a n)
unfolding Kids
Kids-prop a n = Π_prop (λ k. Π_prop (λ b. →_prop (→_prop le_prop)))

-- the roots and all records so far lie in the area and lead to one another alone, and the walk stands at one of them
pub record Ready (s : State) : Type 0 where
  pub roots : 5 ≤ s.next
  pub inside : s.at < s.next
  pub whole : record_words * s.next ≤ length s.area
  pub kids : Kids s.area s.next

-- an area of m words has room for what a step or a walk makes
pub record Roomy (s : State) (m : ℕ) : Type 0 where
  pub room : record_words * s.next ≤ m
  pub small : s.next ≤ 2 ^ 32
