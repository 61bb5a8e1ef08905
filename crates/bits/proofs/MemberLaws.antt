-- The members of a list are what stands at its places.
-- Assumes nothing.
use mathlib.Core.Path.{◌≡◌, refl, sym}
use mathlib.Core.Logic.{⊎_elim}
use mathlib.Core.List.Memᴰ
use mathlib.Core.List.{List, [], ◌∷◌, Memᴰ}
use Prim.Native.Nat.{ℕ, zero, suc, ◌<◌}
use native.Mathlib.Omega.{arith}
use lib.ListN.{length, get_or}

module _ {A : Type 0} (d : A) where
  pub place_member : (xs : List A) (k : ℕ) → k < length xs → Memᴰ (get_or xs k d) xs
  place_member [] k h = absurd (omega arith)
  place_member (x ∷ xs) zero h = Memᴰ.head refl
  place_member (x ∷ xs) (suc k) h = Memᴰ.tail (place_member xs k (omega arith))

  pub member_place : {x : A} (xs : List A) → Memᴰ x xs → (k : ℕ) × (k < length xs) × (get_or xs k d ≡ x)
  member_place {x} [] m = absurd (Memᴰ.not-nil m)
  member_place {x} (y ∷ ys) m =
      ⊎_elim (λ (e : x ≡ y). (zero, omega arith, sym e))
      (λ n. let later = member_place {x = x} ys n in (suc later.0, omega (arith, later.1), later.2))
      (Memᴰ.cases_cons m)
