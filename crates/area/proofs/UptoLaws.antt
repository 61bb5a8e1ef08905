-- Laws of a loop that counts up.
-- Assumes nothing.
use mathlib.Core.Path.{◌≡◌}
use Prim.Native.Nat.{ℕ, zero, suc, ◌+◌, ◌<◌}
use native.Mathlib.Nat.{le_refl, le-suc, le_trans}
use native.Mathlib.Numerals.{add-one}
use Rattle.area.specs.Upto.{upto}

module _ {S : Type 0} (step : ℕ → S → S) where
  pub upto_none : (s : S) → upto step 0 s ≡ s
  unfolding upto
  upto_none s = mathlib.Core.Path.refl

  pub upto_more : (n : ℕ) (s : S) → upto step (n + 1) s ≡ step n (upto step n s)
  unfolding upto
  upto_more n s = rw add-one

  -- what each turn below n keeps, n turns keep
  pub upto_keeps : (P : S → Type 0) (n : ℕ) (s : S) → ((j : ℕ) (t : S) → j < n → P t → P (step j t)) → P s → P (upto step n s)
  unfolding upto
  upto_keeps P zero s k p = p
  upto_keeps P (suc n) s k p = k n (upto step n s) (le_refl _) (upto_keeps P n s (λ j t h. k j t (le_trans h (le-suc n))) p)
