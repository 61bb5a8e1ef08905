-- The list of all pairs of places: every pair is in it, nothing else is, and it is strictly sorted by the lower and then the higher place.
-- Assumes nothing.
use mathlib.Core.Path.{◌≡◌, sym, ap}
use mathlib.Core.Logic.{◌↔◌, inl, inr, ⊎_elim}
use mathlib.Core.List.Memᴰ
use mathlib.Core.List.{Memᴰ}
use Prim.Native.Nat.{ℕ, zero, suc, ◌+◌, ◌≤◌, ◌<◌}
use native.Mathlib.Omega.{arith}
use Rattle.bits.proofs.TestLaws.{equal}
use Rattle.overlap.specs.Pairs.{Pair, row, triangle}
use Rattle.overlap.proofs.SortedLaws.{pair, Sorted, append_sorted}

-- ---- the pairs of one place

record InRow (i j n : ℕ) (p : Pair) : Type 0 where
  is : p.lower ≡ i
  from : j ≤ p.higher
  to : p.higher < j + n

row_has : (i j n : ℕ) (p : Pair) → InRow i j n p → Memᴰ p (row i j n)
unfolding row
row_has i j zero p r = absurd (omega arith)
row_has i j (suc n) p r =
    ⊎_elim
    (λ (e : j ≡ p.higher). Memᴰ.head (λ k. pair (r.is k) (sym e k)))
    (λ (g : j < p.higher). Memᴰ.tail (row_has i (suc j) n p (record { is = r.is; from = g; to = omega arith })))
    (equal j p.higher r.from)

row_only : (i j n : ℕ) (p : Pair) → Memᴰ p (row i j n) → InRow i j n p
unfolding row
row_only i j zero p m = absurd (Memᴰ.not-nil m)
row_only i j (suc n) p m =
    ⊎_elim
    (λ (e : p ≡ pair i j).
    let a : p.lower ≡ i = ap (λ (q : Pair). q.lower) e in
    let b : p.higher ≡ j = ap (λ (q : Pair). q.higher) e in
    record { is = a; from = omega arith; to = omega arith })
    (λ (later : Memᴰ p (row i (suc j) n)).
    let r = row_only i (suc j) n p later in
    record { is = r.is; from = omega arith; to = omega arith })
    (Memᴰ.cases_cons m)

row_sorted : (i j n : ℕ) → Sorted (row i j n)
unfolding row
row_sorted i j zero = tt
row_sorted i j (suc n) = (λ q m. let r = row_only i (suc j) n q m in inr (omega arith, omega arith), row_sorted i (suc j) n)

-- ---- all pairs of n places

-- a pair of two of the n places from k on, lower place first
record Inside (k n : ℕ) (p : Pair) : Type 0 where
  from : k ≤ p.lower
  rises : p.lower < p.higher
  to : p.higher < k + n

inside_has : (k n : ℕ) (p : Pair) → Inside k n p → Memᴰ p (triangle k n)
unfolding triangle
inside_has k zero p h = absurd (omega arith)
inside_has k (suc n) p h =
    ⊎_elim
    (λ (e : k ≡ p.lower).
    Memᴰ.append_left (triangle (suc k) n) (row_has k (suc k) n p (record { is = sym e; from = omega arith; to = omega arith })))
    (λ (g : k < p.lower).
    Memᴰ.append_right (row k (suc k) n) (inside_has (suc k) n p (record { from = g; rises = h.rises; to = omega arith })))
    (equal k p.lower h.from)

inside_only : (k n : ℕ) (p : Pair) → Memᴰ p (triangle k n) → Inside k n p
unfolding triangle
inside_only k zero p m = absurd (Memᴰ.not-nil m)
inside_only k (suc n) p m =
    ⊎_elim
    (λ here. let r = row_only k (suc k) n p here in record { from = omega arith; rises = omega arith; to = omega arith })
    (λ later. let r = inside_only (suc k) n p later in record { from = omega arith; rises = r.rises; to = omega arith })
    (Memᴰ.append_cases (row k (suc k) n) m)

pub triangle_sorted : (k n : ℕ) → Sorted (triangle k n)
unfolding triangle
triangle_sorted k zero = tt
triangle_sorted k (suc n) =
    append_sorted (row k (suc k) n) (triangle (suc k) n) (row_sorted k (suc k) n) (triangle_sorted (suc k) n)
    (λ p q m l. let r = row_only k (suc k) n p m in let s = inside_only (suc k) n q l in inl (omega arith))

-- a pair of two of n places
pub record Within (n : ℕ) (p : Pair) : Type 0 where
  pub rises : p.lower < p.higher
  pub inside : p.higher < n

pub triangle_exact : (n : ℕ) (p : Pair) → Memᴰ p (triangle 0 n) ↔ Within n p
triangle_exact n p = (
  λ m. let h = inside_only 0 n p m in record { rises = h.rises; inside = omega arith },
  λ w. inside_has 0 n p (record { from = omega arith; rises = w.rises; to = omega arith }),
)
