-- Tests over lists and over places.
-- Assumes nothing.
use Rattle.std.specs.Prelude.{Bool, true, false, ◌&&◌, ◌||◌, List, [], ◌∷◌, ℕ, zero, suc, Option, None, Some}

module _ {A : Type 0} where
  -- some element passes
  unfoldable pub any : (A → Bool) → List A → Bool
  any test [] = false
  any test (x ∷ xs) = test x || any test xs

  -- every element passes
  unfoldable pub all : (A → Bool) → List A → Bool
  all test [] = true
  all test (x ∷ xs) = test x && all test xs

module _ {A B : Type 0} where
  -- the two lists are equally long, and what stands at each place of the one and of the other passes
  unfoldable pub each : (A → B → Bool) → List A → List B → Bool
  each test [] [] = true
  each test [] (y ∷ ys) = false
  each test (x ∷ xs) [] = false
  each test (x ∷ xs) (y ∷ ys) = test x y && each test xs ys

-- n numbers, counted up from k
unfoldable pub up_from : ℕ → ℕ → List ℕ
up_from k zero = []
up_from k (suc n) = k ∷ up_from (suc k) n

-- the lowest place below n that passes
unfoldable pub lowest : (ℕ → Bool) → ℕ → Option ℕ
lowest test zero = None
lowest test (suc n) = elim (lowest test n) [ Some p ↦ Some p | None ↦ elim (test n) [ true ↦ Some n | false ↦ None ] ]

-- how many places below n pass
unfoldable pub count : (ℕ → Bool) → ℕ → ℕ
count test zero = zero
count test (suc n) = elim (test n) [ true ↦ suc (count test n) | false ↦ count test n ]
