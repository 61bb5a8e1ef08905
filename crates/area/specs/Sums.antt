-- The aggregates of an area's records.
-- Assumes nothing.
use Rattle.std.specs.Prelude.{cond, List, ℕ, ◌+◌, ◌*◌, ◌^◌, eqb, get_or, set}
use Rattle.std.specs.Int.Bits.{bit_or}
use Rattle.area.specs.Shape.{blocks, record_words, aggregate_start, vector_start}
use Rattle.area.specs.Upto.{upto}

-- `sum` with bit w set where the word is not zero
unfoldable pub marked : ℕ → ℕ → ℕ → ℕ
marked word w sum = cond (eqb word 0) sum (bit_or sum (2 ^ w))

-- the aggregate of the n words of an area from `at` on
unfoldable pub sum_at : List ℕ → ℕ → ℕ → ℕ
sum_at a at n = upto (λ w sum. marked (get_or a (at + w) 0) w sum) n 0

-- each of the first n records gets its aggregate
unfoldable pub summed : ℕ → List ℕ → List ℕ
summed n a = upto (λ k x. set x (record_words * k + aggregate_start) (sum_at x (record_words * k + vector_start) blocks)) n a
