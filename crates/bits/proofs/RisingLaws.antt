-- Rising lists of numbers: one more at the end, and that those with the same members are equally long.
-- Assumes nothing.
use mathlib.Core.Path.{◌≡◌, refl, ap, ◌∙◌}
use mathlib.Core.Logic.{⊎_elim}
use mathlib.Core.List.Memᴰ
use mathlib.Core.List.{List, [], ◌∷◌, ◌++◌, Memᴰ}
use Prim.Native.Nat.{ℕ, suc, ◌≤◌, ◌<◌}
use native.Mathlib.Omega.{arith}
use lib.ListN.{length, get_or, length-append, get_or-append}
use lib.Seq.{get_or-append_seam}
use Rattle.bits.proofs.TestLaws.{equal}
use Rattle.bits.proofs.MemberLaws.{place_member, member_place}

-- each after all lower ones
abbrev pub Rising : List ℕ → Type 0
Rising l = (i j : ℕ) → i < j → j < length l → get_or l i 0 < get_or l j 0

-- one more at the end, above all others
pub rising_snoc : (l : List ℕ) (n : ℕ) → Rising l → ((j : ℕ) → Memᴰ j l → j < n) → Rising (l ++ (n ∷ []))
rising_snoc l n r below i j h inside =
    let size = length-append l (n ∷ []) in
    let low : i < length l = omega arith in
    let first = get_or-append l (n ∷ []) 0 i low in
    ⊎_elim
    (λ (e : j ≡ length l).
    let last : get_or (l ++ (n ∷ [])) j 0 ≡ n = ap (λ (k : ℕ). get_or (l ++ (n ∷ [])) k 0) e ∙ get_or-append_seam l n [] 0 in
    omega (arith, below (get_or l i 0) (place_member 0 l i low)))
    (λ (g : j < length l). omega (arith, get_or-append l (n ∷ []) 0 j g, r i j h g))
    (equal j (length l) (omega arith))

-- ---- the first, and the rest

module _ (x : ℕ) (l : List ℕ) (r : Rising (x ∷ l)) where
  rising_rest : Rising l
  rising_rest i j h inside = r (suc i) (suc j) (omega arith) (omega arith)

  rising_first : (y : ℕ) → Memᴰ y l → x < y
  rising_first y m = let at = member_place 0 l m in omega (arith, r 0 (suc at.0) (omega arith) (omega (arith, at.1)), at.2)

-- a rising list whose members another has is not longer
rising_few : (l m : List ℕ) → Rising l → Rising m → ((j : ℕ) → Memᴰ j l → Memᴰ j m) → length l ≤ length m
rising_few [] m r s within = omega arith
rising_few (x ∷ l) [] r s within = absurd (Memᴰ.not-nil (within x (Memᴰ.head refl)))
rising_few (x ∷ l) (y ∷ m) r s within =
    ⊎_elim
    (λ (same : x ≡ y).
    let rest = rising_few l m (rising_rest x l r) (rising_rest y m s) (λ j here. later j (omega (arith, rising_first x l r j here)) (Memᴰ.tail here)) in
    omega arith)
    (λ above.
    let high = rising_first y m s x above in
    let rest = rising_few (x ∷ l) m r (rising_rest y m s)
    (λ j here. later j (⊎_elim (λ (e : j ≡ x). omega arith) (λ n. omega (arith, rising_first x l r j n)) (Memᴰ.cases_cons here)) here) in
    omega arith)
    (Memᴰ.cases_cons (within x (Memᴰ.head refl)))
  where
    later : (j : ℕ) → y < j → Memᴰ j (x ∷ l) → Memᴰ j m
    later j h here = ⊎_elim (λ (e : j ≡ y). absurd (omega arith)) (λ n. n) (Memᴰ.cases_cons (within j here))

pub rising_size : (l m : List ℕ) → Rising l → Rising m → ((j : ℕ) → Memᴰ j l → Memᴰ j m) → ((j : ℕ) → Memᴰ j m → Memᴰ j l) → length l ≡ length m
rising_size l m r s there back = omega (arith, rising_few l m r s there, rising_few m l s r back)
