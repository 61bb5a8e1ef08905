-- Stores into a list: a store into a part of a list, and what a store leaves true of every element.
-- Assumes nothing.
use mathlib.Core.Path.{◌≡◌, sym, ap, ◌∙◌}
use mathlib.Core.Logic.{⊎_elim}
use mathlib.Core.List.{List, [], ◌∷◌}
use Prim.Native.Nat.{ℕ, zero, suc, ◌+◌, ◌<◌}
use native.Mathlib.Omega.{arith}
use lib.ListN.{length, get_or, set}
use lib.Seq.{get_or-set_same, get_or-set_other}
use Rattle.bits.proofs.ListLaws.{alike}

module _ {A : Type 0} where
  -- ---- one store

  -- what holds of an element and of what is stored somewhere holds of the element after the store
  pub either_way : (P : A → Type 0) (l : List A) (i : ℕ) (x : A) (k : ℕ) (d : A) → P x → P (get_or l k d) → P (get_or (set l i x) k d)
  either_way P [] i x k d p q = q
  either_way P (y ∷ l) zero x zero d p q = p
  either_way P (y ∷ l) zero x (suc k) d p q = q
  either_way P (y ∷ l) (suc i) x zero d p q = q
  either_way P (y ∷ l) (suc i) x (suc k) d p q = either_way P l i x k d p q

  -- where a list's elements from `at` on are those of another, they still are after a store into both
  pub set_part : (l part : List A) (at n i : ℕ) (x d : A) → at + i < length l → i < length part → ((v : ℕ) → v < n → get_or l (at + v) d ≡ get_or part v d)
      → (v : ℕ) → v < n → get_or (set l (at + i) x) (at + v) d ≡ get_or (set part i x) v d
  set_part l part at n i x d hl hp same v h =
      ⊎_elim
      (λ (e : v ≡ i).
      ap (λ (j : ℕ). get_or (set l (at + i) x) (at + j) d) e
      ∙ get_or-set_same l (at + i) x d hl
      ∙ sym (ap (λ (j : ℕ). get_or (set part i x) j d) e ∙ get_or-set_same part i x d hp))
      (λ (ne : v ≡ i → ⊥).
      get_or-set_other l (at + i) (at + v) x d (λ e. ne (omega arith))
      ∙ same v h
      ∙ sym (get_or-set_other part i v x d ne))
      (alike v i)
