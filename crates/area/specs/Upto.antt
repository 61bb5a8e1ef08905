-- A loop that counts up: the state after its first n turns, where turn j makes `step j s` of s.
-- Assumes nothing.
use Rattle.std.specs.Prelude.{ℕ, zero, suc}

module _ {S : Type 0} (step : ℕ → S → S) where
  unfoldable pub upto : ℕ → S → S
  upto zero s = s
  upto (suc n) s = step n (upto n s)
