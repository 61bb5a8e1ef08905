-- Pairs in order, "sorted by the lower and then the higher place": which of two stands first, and lists in which each pair stands before all
-- that follow. Sorted lists with the same members are one list.
-- Assumes nothing.
use mathlib.Core.Path.{◌≡◌, refl, sym, ap₂, subst, ◌∙◌}
use mathlib.Core.Logic.{◌⊎◌, inl, inr, ⊎_elim}
use mathlib.Core.List.Memᴰ
use mathlib.Core.List.{List, [], ◌∷◌, ◌++◌, Memᴰ}
use Prim.Native.Nat.{ℕ, zero, suc, ◌<◌}
use native.Mathlib.Omega.{arith}
use lib.ListN.{length, get_or}
use Rattle.bits.proofs.MemberLaws.{place_member, member_place}
use Rattle.bits.proofs.TestLaws.{three}
use Rattle.overlap.specs.Pairs.{Pair}

abbrev pub pair : ℕ → ℕ → Pair
pair i j = record { lower = i; higher = j }

-- ---- which of two pairs stands first

abbrev pub Before : Pair → Pair → Type 0
Before p q = (p.lower < q.lower) ⊎ ((p.lower ≡ q.lower) × (p.higher < q.higher))

pub before_apart : (p q : Pair) → Before p q → Before q p → ⊥
before_apart p q (inl h) (inl g) = omega arith
before_apart p q (inl h) (inr g) = omega arith
before_apart p q (inr h) (inl g) = omega arith
before_apart p q (inr h) (inr g) = omega arith

-- no pair stands before itself
pub before_once : (p q : Pair) → Before p q → p ≡ q → ⊥
before_once p q b e = before_apart p p (rw (← e) at b) (rw (← e) at b)

pub before_or : (p q : Pair) → Before p q ⊎ (p ≡ q) ⊎ Before q p
before_or p q = ⊎_elim (λ h. inl (inl h)) (⊎_elim level (λ h. inr (inr (inl h)))) (three p.lower q.lower)
  where
    level : p.lower ≡ q.lower → Before p q ⊎ (p ≡ q) ⊎ Before q p
    level e =
        ⊎_elim (λ h. inl (inr (e, h)))
        (⊎_elim (λ f. inr (inl (λ k. pair (e k) (f k)))) (λ h. inr (inr (inr (sym e, h)))))
        (three p.higher q.higher)

-- ---- sorted lists

-- each pair stands before all that follow: the list is in order, and no pair stands in it twice
abbrev pub Sorted : List Pair → Type 0
Sorted [] = Unit {0}
Sorted (p ∷ ps) = ((q : Pair) → Memᴰ q ps → Before p q) × Sorted ps

pub append_sorted : (ps qs : List Pair) → Sorted ps → Sorted qs → ((p q : Pair) → Memᴰ p ps → Memᴰ q qs → Before p q) → Sorted (ps ++ qs)
append_sorted [] qs s t b = t
append_sorted (p ∷ ps) qs s t b = (
  λ q m. ⊎_elim (λ n. s.0 q n) (λ n. b p q (Memᴰ.head refl) n) (Memᴰ.append_cases ps m),
  append_sorted ps qs s.1 t (λ o q m n. b o q (Memᴰ.tail m) n),
)

-- a sorted list's members, by their places
pub sorted_at : (ps : List Pair) (d : Pair) → Sorted ps → (k l : ℕ) → k < l → l < length ps → Before (get_or ps k d) (get_or ps l d)
sorted_at [] d s k l g h = absurd (omega arith)
sorted_at (p ∷ ps) d s k zero g h = absurd (omega arith)
sorted_at (p ∷ ps) d s zero (suc l) g h = s.0 (get_or ps l d) (place_member d ps l (omega arith))
sorted_at (p ∷ ps) d s (suc k) (suc l) g h = sorted_at ps d s.1 k l (omega arith) (omega arith)

-- and the other way round
pub at_sorted : (ps : List Pair) (d : Pair) → ((k l : ℕ) → k < l → l < length ps → Before (get_or ps k d) (get_or ps l d)) → Sorted ps
at_sorted [] d before = tt
at_sorted (p ∷ ps) d before = (
  λ q m.
      let there = member_place d ps m in
      subst (Before p) there.2 (before 0 (suc there.0) (omega arith) (omega (arith, there.1))),
  at_sorted ps d (λ k l h g. before (suc k) (suc l) (omega arith) (omega arith)),
)

-- sorted lists with the same members are one list
heads : (p q : Pair) (ps qs : List Pair) → Sorted (p ∷ ps) → Sorted (q ∷ qs) → Memᴰ p (q ∷ qs) → Memᴰ q (p ∷ ps) → p ≡ q
heads p q ps qs s t m n =
    ⊎_elim (λ (e : p ≡ q). e)
    (λ a. ⊎_elim (λ (e : q ≡ p). sym e) (λ b. absurd (before_apart p q (s.0 q b) (t.0 p a))) (Memᴰ.cases_cons n))
    (Memᴰ.cases_cons m)

tails : (p q : Pair) (ps qs : List Pair) → p ≡ q → Sorted (p ∷ ps) → ((r : Pair) → Memᴰ r (p ∷ ps) → Memᴰ r (q ∷ qs))
    → (r : Pair) → Memᴰ r ps → Memᴰ r qs
tails p q ps qs e s f r m =
    ⊎_elim (λ (g : r ≡ q). absurd (before_once p r (s.0 r m) (e ∙ sym g))) (λ n. n) (Memᴰ.cases_cons (f r (Memᴰ.tail m)))

pub sorted_one : (ps qs : List Pair) → Sorted ps → Sorted qs → ((r : Pair) → Memᴰ r ps → Memᴰ r qs)
    → ((r : Pair) → Memᴰ r qs → Memᴰ r ps) → ps ≡ qs
sorted_one [] [] s t f g = refl
sorted_one [] (q ∷ qs) s t f g = absurd (Memᴰ.not-nil (g q (Memᴰ.head refl)))
sorted_one (p ∷ ps) [] s t f g = absurd (Memᴰ.not-nil (f p (Memᴰ.head refl)))
sorted_one (p ∷ ps) (q ∷ qs) s t f g =
    let e = heads p q ps qs s t (f p (Memᴰ.head refl)) (g q (Memᴰ.head refl)) in
    ap₂ ◌∷◌ e (sorted_one ps qs s.1 t.1 (tails p q ps qs e s f) (tails q p qs ps (sym e) t g))
