-- Numbers that are told apart: one more of them, what has a way back, and the pigeonhole law.
-- Assumes nothing.
use mathlib.Core.Path.{◌≡◌, sym, ap, ◌∙◌}
use mathlib.Core.Logic.{◌⊎◌, inl, inr, ⊎_elim}
use mathlib.Core.Bool.{cond}
use mathlib.Core.List.{List, ◌∷◌}
use Prim.Native.Nat.{ℕ, zero, suc, ◌≤◌, ◌<◌}
use native.Mathlib.Omega.{arith}
use lib.Dec.{eqb}
use lib.ListN.{get_or}
use borrow.Author.Tests.{eqb-true, eqb-false}
use Rattle.bits.proofs.TestLaws.{decided, three}

-- f at the places below m: each number is below n, and no two are the same
pub record Apart (m n : ℕ) (f : ℕ → ℕ) : Type 0 where
  pub small : (k : ℕ) → k < m → f k < n
  pub differ : (j k : ℕ) → j < k → k < m → f j ≡ f k → ⊥

pub apart_none : (n : ℕ) (f : ℕ → ℕ) → Apart 0 n f
apart_none n f = record { small = λ k h. absurd (omega arith); differ = λ j k g h. absurd (omega arith) }

-- one number more, in front
pub apart_cons : (m n x : ℕ) (xs : List ℕ) → x < n → ((k : ℕ) → k < m → get_or xs k 0 ≡ x → ⊥) → Apart m n (λ k. get_or xs k 0) → Apart (suc m) n (λ k. get_or (x ∷ xs) k 0)
apart_cons m n x xs s new a = record { small = small; differ = differ }
  where
    small : (k : ℕ) → k < suc m → get_or (x ∷ xs) k 0 < n
    small zero h = s
    small (suc k) h = a.small k (omega arith)

    differ : (j k : ℕ) → j < k → k < suc m → get_or (x ∷ xs) j 0 ≡ get_or (x ∷ xs) k 0 → ⊥
    differ j zero g h q = omega arith
    differ zero (suc k) g h q = new k (omega arith) (sym q)
    differ (suc j) (suc k) g h q = a.differ j k (omega arith) (omega arith) q

pub apart_one : (m n : ℕ) (f : ℕ → ℕ) → Apart m n f → (j k : ℕ) → j < m → k < m → f j ≡ f k → j ≡ k
apart_one m n f a j k hj hk e =
    ⊎_elim (λ g. absurd (a.differ j k g hk e)) (⊎_elim (λ q. q) (λ g. absurd (a.differ k j g hj (sym e)))) (three j k)

-- what has a way back is told apart
pub back_apart : (m n : ℕ) (f back : ℕ → ℕ) → ((k : ℕ) → k < m → f k < n) → ((k : ℕ) → k < m → back (f k) ≡ k) → Apart m n f
back_apart m n f back small undo = record {
  small = small;
  differ = λ j k g h e. omega (arith, undo j (omega arith), undo k h, ap back e);
}

-- ---- the pigeonhole law: numbers below n, none twice, are at most n

-- v in the place of n
abbrev instead : ℕ → ℕ → ℕ → ℕ
instead n v x = cond (eqb x n) v x

abbrev Instead : ℕ → ℕ → ℕ → Type 0
Instead n v x = ((x ≡ n) × (instead n v x ≡ v)) ⊎ ((x ≡ n → ⊥) × (instead n v x ≡ x))

instead_told : (n v x : ℕ) → Instead n v x
instead_told n v x = ⊎_elim (λ e. inl (eqb-true x n e, rw e)) (λ e. inr (eqb-false x n e, rw e)) (decided (eqb x n))

-- one number fewer, and one value fewer: where the largest value stands, the last number takes its place
lowered : (m n : ℕ) (f : ℕ → ℕ) → Apart (suc m) (suc n) f → Apart m n (λ k. instead n (f m) (f k))
lowered m n f a = record {
  small = λ k h. small k h (instead_told n (f m) (f k));
  differ = λ j k g h. differ j k g h (instead_told n (f m) (f j)) (instead_told n (f m) (f k));
}
  where
    below : (k : ℕ) → k < suc m → (f k ≡ n → ⊥) → f k < n
    below k h d = omega (arith, a.small k h)

    small : (k : ℕ) → k < m → Instead n (f m) (f k) → instead n (f m) (f k) < n
    small k h (inl t) = rw t.1 (below m (omega arith) (λ q. a.differ k m h (omega arith) (t.0 ∙ sym q)))
    small k h (inr t) = rw t.1 (below k (omega arith) t.0)

    differ : (j k : ℕ) → j < k → k < m → Instead n (f m) (f j) → Instead n (f m) (f k) → instead n (f m) (f j) ≡ instead n (f m) (f k) → ⊥
    differ j k g h (inl t) (inl u) q = a.differ j k g (omega arith) (t.0 ∙ sym u.0)
    differ j k g h (inl t) (inr u) q = a.differ k m h (omega arith) (sym u.1 ∙ sym q ∙ t.1)
    differ j k g h (inr t) (inl u) q = a.differ j m (omega arith) (omega arith) (sym t.1 ∙ q ∙ u.1)
    differ j k g h (inr t) (inr u) q = a.differ j k g (omega arith) (sym t.1 ∙ q ∙ u.1)

pub few : (m n : ℕ) (f : ℕ → ℕ) → Apart m n f → m ≤ n
few zero n f a = omega arith
few (suc m) zero f a = absurd (omega (arith, a.small 0 (omega arith)))
few (suc m) (suc n) f a = omega (arith, few m n (λ k. instead n (f m) (f k)) (lowered m n f a))
