-- Rows of one length, one after the other: how long they are together, what stands in each, and a list that is cut into rows.
-- Assumes nothing.
use mathlib.Core.Path.{◌≡◌, sym, ap, ◌∙◌}
use mathlib.Core.List.{List, [], ◌∷◌, ◌++◌, map, flatten, append_assoc}
use Prim.Native.Nat.{ℕ, zero, suc, ◌+◌, ◌*◌, ◌<◌}
use native.Mathlib.Nat.{zero-mul, suc-mul, add_comm}
use native.Mathlib.Omega.{arith}
use lib.ListN.{length, get_or, take, drop, length-append}
use lib.Seq.{take_at, take-add, drop-drop, drop-append-add, get_or-take, get_or-drop}
use Rattle.bits.specs.Tests.{up_from}

-- each row has R elements
abbrev pub Rows : {A : Type 0} → ℕ → List (List A) → Type 0
Rows R rs = (i : ℕ) → i < length rs → length (get_or rs i []) ≡ R

module _ {A : Type 0} (R : ℕ) where
  pub length_rows : (rs : List (List A)) → Rows R rs → length (flatten rs) ≡ length rs * R
  unfolding flatten
  length_rows [] wide = sym (zero-mul R)
  length_rows (r ∷ rs) wide =
      let rest = length_rows rs (λ i h. wide (suc i) (omega arith)) in
      omega (arith, length-append r (flatten rs), wide 0 (omega arith), suc-mul (length rs) R)

  -- row n, whatever follows the rows
  pub row_at : (rs : List (List A)) → Rows R rs → (n : ℕ) → n < length rs → (rest : List A) → take R (drop (n * R) (flatten rs ++ rest)) ≡ get_or rs n []
  unfolding flatten
  row_at [] wide n h rest = absurd (omega arith)
  row_at (r ∷ rs) wide zero h rest =
      ap (λ (k : ℕ). take R (drop k ((r ++ flatten rs) ++ rest))) (zero-mul R)
      ∙ ap (take R) (append_assoc r (flatten rs) rest)
      ∙ take_at r (flatten rs ++ rest) R (wide 0 h)
  row_at (r ∷ rs) wide (suc n) h rest =
      let past : suc n * R ≡ length r + n * R = omega (arith, suc-mul n R, wide 0 (omega arith)) in
      ap (λ (k : ℕ). take R (drop k ((r ++ flatten rs) ++ rest))) past
      ∙ ap (λ (l : List A). take R (drop (length r + n * R) l)) (append_assoc r (flatten rs) rest)
      ∙ ap (take R) (drop-append-add r (flatten rs ++ rest) (n * R))
      ∙ row_at rs (λ i l. wide (suc i) (omega arith)) n (omega arith) rest

  -- an element of row n of a list
  pub in_row : (l : List A) (n : ℕ) (r : List A) → take R (drop (n * R) l) ≡ r → (j : ℕ) (d : A) → j < R → get_or l (n * R + j) d ≡ get_or r j d
  in_row l n r e j d h = sym (get_or-drop (n * R) l j d) ∙ sym (get_or-take R (drop (n * R) l) j d h) ∙ ap (λ (m : List A). get_or m j d) e

  -- the rows of a list, from row k on, are its elements from there on
  pub rows_of : (l : List A) (k n : ℕ) → flatten (map (λ i. take R (drop (i * R) l)) (up_from k n)) ≡ take (n * R) (drop (k * R) l)
  unfolding flatten up_from
  rows_of l k zero = ap (λ (m : ℕ). take m (drop (k * R) l)) (sym (zero-mul R))
  rows_of l k (suc n) =
      let rest = drop (k * R) l in
      ap (λ (r : List A). take R rest ++ r)
      (rows_of l (suc k) n
      ∙ ap (λ (m : ℕ). take (n * R) (drop m l)) (suc-mul k R)
      ∙ ap (take (n * R)) (sym (drop-drop R (k * R) l)))
      ∙ sym (take-add R (n * R) rest)
      ∙ ap (λ (m : ℕ). take m rest) (add_comm R (n * R) ∙ sym (suc-mul n R))
