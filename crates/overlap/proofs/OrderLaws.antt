-- Orders of n places: the test says what is meant, and the new place of an old one and the old place of a new one undo one another. That an
-- order leaves no place out is the pigeonhole law.
-- Assumes nothing.
use mathlib.Core.Path.{◌≡◌, refl, sym, ap, ◌∙◌}
use mathlib.Core.Logic.{◌↔◌, ⊎_elim}
use mathlib.Core.Bool.{true, false, not, ◌&&◌}
use mathlib.Core.List.{List, [], ◌∷◌}
use Rattle.std.specs.Prelude.{Option, None, Some}
use Rattle.std.specs.Option.{unwrap_or}
use Prim.Native.Nat.{ℕ, suc, ◌≤◌, ◌<◌}
use native.Mathlib.Omega.{arith}
use lib.Dec.{eqb, ltb}
use lib.ListN.{length}
use borrow.Author.Tests.{eqb-true, eq-eqb, eqb-false, ltb-true, lt-ltb, not-true}
use Rattle.bits.specs.Tests.{lowest}
use Rattle.bits.proofs.TestLaws.{clash, and_trues, and_both, equal, none_at, Told, lowest_told, refuted}
use Rattle.bits.proofs.EachLaws.{some_at}
use Rattle.bits.proofs.ApartLaws.{Apart, apart_none, apart_cons, apart_one, back_apart, few}
use Rattle.overlap.specs.Order.{member, apart_below, is_order, old_place, new_place}

-- ---- what the test of an order says

apart_all : (n : ℕ) (o : List ℕ) → apart_below n o ≡ true → Apart (length o) n (old_place o)
unfolding apart_below member
apart_all n [] e = apart_none n (old_place [])
apart_all n (x ∷ xs) e =
    let a = and_trues (ltb x n) (not (member x xs) && apart_below n xs) e in
    let b = and_trues (not (member x xs)) (apart_below n xs) a.1 in
    apart_cons (length xs) n x xs (ltb-true x n a.0)
    (λ k h. eqb-false (old_place xs k) x (none_at (λ y. eqb y x) xs 0 k (not-true (member x xs) b.0) h))
    (apart_all n xs b.1)

all_apart : (n : ℕ) (o : List ℕ) → Apart (length o) n (old_place o) → apart_below n o ≡ true
unfolding apart_below member
all_apart n [] a = refl
all_apart n (x ∷ xs) a =
    and_both (ltb x n) (not (member x xs) && apart_below n xs) (lt-ltb x n (a.small 0 (omega arith)))
    (and_both (not (member x xs)) (apart_below n xs) (ap not (refuted (member x xs) twice))
    (all_apart n xs (record {
      small = λ k h. a.small (suc k) (omega arith);
      differ = λ j k g h. a.differ (suc j) (suc k) (omega arith) (omega arith);
    })))
  where
    twice : member x xs ≡ true → ⊥
    twice e =
        let r = some_at (λ y. eqb y x) xs 0 e in
        a.differ 0 (suc r.0) (omega arith) (omega arith) (sym (eqb-true (old_place xs r.0) x r.2))

pub order_exact : (n : ℕ) (o : List ℕ) → (is_order n o ≡ true) ↔ ((length o ≡ n) × Apart n n (old_place o))
unfolding is_order
order_exact n o = (
  λ e.
      let b = and_trues (eqb (length o) n) (apart_below n o) e in
      let z = eqb-true (length o) n b.0 in
      (z, rw z at (apart_all n o b.1)),
  λ h.
      and_both (eqb (length o) n) (apart_below n o) (eq-eqb (length o) n h.0)
      (all_apart n o (rw h.0 h.1)),
)

-- what a loop over a list may find: each fault is one
pub order_size : (n : ℕ) (o : List ℕ) → (length o ≡ n → ⊥) → is_order n o ≡ false
order_size n o d = refuted (is_order n o) (λ e. d ((order_exact n o).0 e).0)

pub order_large : (n : ℕ) (o : List ℕ) (k : ℕ) → k < length o → n ≤ old_place o k → is_order n o ≡ false
order_large n o k h l = refuted (is_order n o) (λ e. let x = (order_exact n o).0 e in omega (arith, x.1.small k (omega arith)))

pub order_twice : (n : ℕ) (o : List ℕ) (j k : ℕ) → j < k → k < length o → old_place o j ≡ old_place o k → is_order n o ≡ false
order_twice n o j k g h q = refuted (is_order n o) (λ e. let x = (order_exact n o).0 e in x.1.differ j k g (omega arith) q)

-- ---- new places

-- the new place of a number that stands in the order holds it
new_held : (o : List ℕ) (i k : ℕ) → k < length o → old_place o k ≡ i → (new_place o i < length o) × (old_place o (new_place o i) ≡ i)
unfolding new_place
new_held o i k h e = go (lowest (λ k. eqb (old_place o k) i) (length o)) (lowest_told (λ k. eqb (old_place o k) i) (length o))
  where
    go : (p : Option ℕ) → Told (λ k. eqb (old_place o k) i) (length o) p
        → (unwrap_or p (length o) < length o) × (old_place o (unwrap_or p (length o)) ≡ i)
    go None t = clash (eq-eqb (old_place o k) i e) (t k h)
    go (Some p) t = (t.below, eqb-true (old_place o p) i t.passes)

-- and every number below n does stand there: one left out would be one more
full : (n : ℕ) (o : List ℕ) → Apart n n (old_place o) → (i : ℕ) → i < n → (k : ℕ) × (k < n) × (old_place o k ≡ i)
full n o a i h = go (lowest (λ k. eqb (old_place o k) i) n) (lowest_told (λ k. eqb (old_place o k) i) n)
  where
    go : (p : Option ℕ) → Told (λ k. eqb (old_place o k) i) n p → (k : ℕ) × (k < n) × (old_place o k ≡ i)
    go (Some k) t = (k, t.below, eqb-true (old_place o k) i t.passes)
    go None t = absurd (omega (arith, few (suc n) n (old_place (i ∷ o)) (apart_cons n n i o h (λ k l. eqb-false (old_place o k) i (t k l)) a)))

-- what an order is: old and new places undo one another
pub record Order (n : ℕ) (o : List ℕ) : Type 0 where
  pub size : length o ≡ n
  pub below : (k : ℕ) → k < n → old_place o k < n
  pub new_below : (i : ℕ) → i < n → new_place o i < n
  pub old_new : (i : ℕ) → i < n → old_place o (new_place o i) ≡ i
  pub new_old : (k : ℕ) → k < n → new_place o (old_place o k) ≡ k

apart_order : (n : ℕ) (o : List ℕ) → length o ≡ n → Apart n n (old_place o) → Order n o
apart_order n o z a = record {
  size = z;
  below = a.small;
  new_below = λ i h. (held i h).0;
  old_new = λ i h. (held i h).1;
  new_old = λ k h. let x = held (old_place o k) (a.small k h) in apart_one n n (old_place o) a (new_place o (old_place o k)) k x.0 h x.1;
}
  where
    held : (i : ℕ) → i < n → (new_place o i < n) × (old_place o (new_place o i) ≡ i)
    held i h =
        let f = full n o a i h in
        let x = new_held o i f.0 (omega arith) f.2 in
        (omega arith, x.1)

pub order : (n : ℕ) (o : List ℕ) → is_order n o ≡ true → Order n o
order n o e = let x = (order_exact n o).0 e in apart_order n o x.0 x.1

-- two places have two new places
pub new_apart : (n : ℕ) (o : List ℕ) → Order n o → (i j : ℕ) → i < j → j < n → new_place o i ≤ new_place o j → new_place o i < new_place o j
new_apart n o O i j h g l =
    ⊎_elim (λ (e : new_place o i ≡ new_place o j). absurd (omega (arith, ap (old_place o) e, O.old_new i (omega arith), O.old_new j g))) (λ s. s)
    (equal (new_place o i) (new_place o j) l)

-- ---- a way back is enough to know an order and its new places

module _ (n : ℕ) (o : List ℕ) (back : ℕ → ℕ) (undo : (k : ℕ) → k < n → back (old_place o k) ≡ k) where
  pub back_order : length o ≡ n → ((k : ℕ) → k < n → old_place o k < n) → is_order n o ≡ true
  back_order z small = (order_exact n o).1 (z, back_apart n n (old_place o) back small undo)

  pub back_new : is_order n o ≡ true → (i : ℕ) → i < n → new_place o i ≡ back i
  back_new e i h =
      let O = order n o e in
      sym (undo (new_place o i) (O.new_below i h)) ∙ ap back (O.old_new i h)
