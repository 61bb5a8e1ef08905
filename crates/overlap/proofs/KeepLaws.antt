-- What `keep` keeps of a list and what `first_of` finds: the members that pass, in two parts where the list is in two, and of a sorted list of
-- pairs a sorted list and the earliest pair.
-- Assumes nothing.
use mathlib.Core.Path.{◌≡◌, refl, sym, ap, ◌∙◌}
use mathlib.Core.Logic.{◌↔◌, ⊎_elim}
use mathlib.Core.Bool.{Bool, true, false}
use mathlib.Core.List.Memᴰ
use mathlib.Core.List.{List, [], ◌∷◌, ◌++◌, Memᴰ}
use Rattle.std.specs.Prelude.{Option, None, Some}
use Prim.Native.Nat.{◌≤◌}
use native.Mathlib.Omega.{arith}
use lib.ListN.{length}
use Rattle.std.proofs.lemmas.Option.{none-some}
use Rattle.bits.proofs.TestLaws.{decided, clash}
use Rattle.overlap.specs.Pairs.{Pair, keep, first_of}
use Rattle.overlap.proofs.SortedLaws.{Before, before_apart, before_once, before_or, Sorted}

-- ---- those that pass

module _ {A : Type 0} (test : A → Bool) where
  pub keep_here : (x : A) (xs : List A) → test x ≡ true → keep test (x ∷ xs) ≡ x ∷ keep test xs
  unfolding keep
  keep_here x xs e = rw (e, keep)

  pub keep_later : (x : A) (xs : List A) → test x ≡ false → keep test (x ∷ xs) ≡ keep test xs
  unfolding keep
  keep_later x xs e = rw (e, keep)

  keep_has : (x : A) (xs : List A) → Memᴰ x xs → test x ≡ true → Memᴰ x (keep test xs)
  keep_has x [] m e = absurd (Memᴰ.not-nil m)
  keep_has x (y ∷ ys) m e =
      ⊎_elim
      (λ t.
      rw (keep_here y ys t)
      (⊎_elim (λ (q : x ≡ y). Memᴰ.head q) (λ n. Memᴰ.tail (keep_has x ys n e)) (Memᴰ.cases_cons m)))
      (λ f.
      rw (keep_later y ys f)
      (⊎_elim (λ (q : x ≡ y). clash (ap test (sym q) ∙ e) f) (λ n. keep_has x ys n e) (Memᴰ.cases_cons m)))
      (decided (test y))

  keep_only : (x : A) (xs : List A) → Memᴰ x (keep test xs) → Memᴰ x xs × (test x ≡ true)
  unfolding keep
  keep_only x [] m = absurd (Memᴰ.not-nil m)
  keep_only x (y ∷ ys) m =
      ⊎_elim
      (λ t.
      ⊎_elim (λ (q : x ≡ y). (Memᴰ.head q, ap test q ∙ t)) (λ n. later (keep_only x ys n))
      (Memᴰ.cases_cons (rw (keep_here y ys t) at m)))
      (λ f. later (keep_only x ys (rw (keep_later y ys f) at m)))
      (decided (test y))
    where
      later : Memᴰ x ys × (test x ≡ true) → Memᴰ x (y ∷ ys) × (test x ≡ true)
      later r = (Memᴰ.tail r.0, r.1)

  pub keep_exact : (x : A) (xs : List A) → Memᴰ x (keep test xs) ↔ (Memᴰ x xs × (test x ≡ true))
  keep_exact x xs = (keep_only x xs, λ h. keep_has x xs h.0 h.1)

  pub keep_append : (xs ys : List A) → keep test (xs ++ ys) ≡ keep test xs ++ keep test ys
  unfolding keep
  keep_append [] ys = refl
  keep_append (x ∷ xs) ys =
      ⊎_elim
      (λ e. keep_here x (xs ++ ys) e ∙ ap (λ l. x ∷ l) (keep_append xs ys) ∙ sym (ap (λ l. l ++ keep test ys) (keep_here x xs e)))
      (λ e. keep_later x (xs ++ ys) e ∙ keep_append xs ys ∙ sym (ap (λ l. l ++ keep test ys) (keep_later x xs e)))
      (decided (test x))

  pub keep_few : (xs : List A) → length (keep test xs) ≤ length xs
  unfolding keep
  keep_few [] = omega arith
  keep_few (x ∷ xs) =
      ⊎_elim
      (λ e. omega (arith, ap length (keep_here x xs e), keep_few xs))
      (λ e. omega (arith, ap length (keep_later x xs e), keep_few xs))
      (decided (test x))

-- ---- the first that passes

module _ {A : Type 0} (test : A → Bool) where
  pub first_here : (x : A) (xs : List A) → test x ≡ true → first_of test (x ∷ xs) ≡ Some x
  unfolding first_of
  first_here x xs e = rw (e, first_of)

  pub first_later : (x : A) (xs : List A) → test x ≡ false → first_of test (x ∷ xs) ≡ first_of test xs
  unfolding first_of
  first_later x xs e = rw (e, first_of)

  -- of two lists
  pub first_left : (xs ys : List A) (x : A) → first_of test xs ≡ Some x → first_of test (xs ++ ys) ≡ Some x
  unfolding first_of
  first_left [] ys x e = absurd (none-some x e)
  first_left (z ∷ xs) ys x e =
      ⊎_elim
      (λ t. first_here z (xs ++ ys) t ∙ sym (first_here z xs t) ∙ e)
      (λ f. first_later z (xs ++ ys) f ∙ first_left xs ys x (sym (first_later z xs f) ∙ e))
      (decided (test z))

  pub first_right : (xs ys : List A) → first_of test xs ≡ None → first_of test (xs ++ ys) ≡ first_of test ys
  unfolding first_of
  first_right [] ys e = refl
  first_right (z ∷ xs) ys e =
      ⊎_elim
      (λ t. absurd (none-some z (sym e ∙ first_here z xs t)))
      (λ f. first_later z (xs ++ ys) f ∙ first_right xs ys (sym (first_later z xs f) ∙ e))
      (decided (test z))

-- tests that agree on a list find the same
pub first_same : {A : Type 0} (t u : A → Bool) (xs : List A) → ((x : A) → Memᴰ x xs → t x ≡ u x) → first_of t xs ≡ first_of u xs
unfolding first_of
first_same t u [] e = refl
first_same t u (x ∷ xs) e =
    let here = e x (Memᴰ.head refl) in
    let rest = first_same t u xs (λ y m. e y (Memᴰ.tail m)) in
    ⊎_elim
    (λ p. first_here t x xs p ∙ sym (first_here u x xs (sym here ∙ p)))
    (λ p. first_later t x xs p ∙ rest ∙ sym (first_later u x xs (sym here ∙ p)))
    (decided (t x))

-- ---- of sorted pairs

module _ (test : Pair → Bool) where
  pub keep_sorted : (ps : List Pair) → Sorted ps → Sorted (keep test ps)
  unfolding keep
  keep_sorted [] s = tt
  keep_sorted (p ∷ ps) s =
      ⊎_elim
      (λ t. rw (keep_here test p ps t) (λ q m. s.0 q ((keep_exact test q ps).0 m).0, keep_sorted ps s.1))
      (λ f. rw (keep_later test p ps f) (keep_sorted ps s.1))
      (decided (test p))

  -- p is in the list and passes, and none before it does
  pub record Earliest (ps : List Pair) (p : Pair) : Type 0 where
    pub in_list : Memᴰ p ps
    pub passes : test p ≡ true
    pub first : (q : Pair) → Memᴰ q ps → Before q p → test q ≡ false

  abbrev pub NonePasses : List Pair → Type 0
  NonePasses ps = (q : Pair) → Memᴰ q ps → test q ≡ false

  -- what `first_of` answered, as a fact
  abbrev pub FirstTold : List Pair → Option Pair → Type 0
  FirstTold ps None = NonePasses ps
  FirstTold ps (Some p) = Earliest ps p

  pub first_told_lem : (ps : List Pair) → Sorted ps → FirstTold ps (first_of test ps)
  unfolding first_of
  first_told_lem [] s = λ q m. absurd (Memᴰ.not-nil m)
  first_told_lem (p ∷ ps) s = step (test p) refl (first_of test ps) (first_told_lem ps s.1)
    where
      step : (b : Bool) → test p ≡ b → (o : Option Pair) → FirstTold ps o → FirstTold (p ∷ ps) (elim b [ true ↦ Some p | false ↦ o ])
      step true e o t = record {
        in_list = Memᴰ.head refl;
        passes = e;
        first = λ q m b.
            ⊎_elim (λ (same : q ≡ p). absurd (before_once q p b same)) (λ n. absurd (before_apart p q (s.0 q n) b)) (Memᴰ.cases_cons m);
      }
      step false e None t = λ q m. ⊎_elim (λ (same : q ≡ p). ap test same ∙ e) (λ n. t q n) (Memᴰ.cases_cons m)
      step false e (Some x) t = record {
        in_list = Memᴰ.tail t.in_list;
        passes = t.passes;
        first = λ q m b. ⊎_elim (λ (same : q ≡ p). ap test same ∙ e) (λ n. t.first q n b) (Memᴰ.cases_cons m);
      }

  -- the other way round: the facts fix the answer
  pub first_none : (ps : List Pair) → Sorted ps → NonePasses ps → first_of test ps ≡ None
  first_none ps s all = go (first_of test ps) (first_told_lem ps s)
    where
      go : (o : Option Pair) → FirstTold ps o → o ≡ None
      go None t = refl
      go (Some p) t = clash t.passes (all p t.in_list)

  pub first_some : (ps : List Pair) (p : Pair) → Sorted ps → Earliest ps p → first_of test ps ≡ Some p
  first_some ps p s is = go (first_of test ps) (first_told_lem ps s)
    where
      go : (o : Option Pair) → FirstTold ps o → o ≡ Some p
      go None t = clash is.passes (t p is.in_list)
      go (Some q) t =
          ⊎_elim (λ b. clash t.passes (is.first q t.in_list b))
          (⊎_elim (λ (e : q ≡ p). ap Some e) (λ b. clash is.passes (t.first p is.in_list b)))
          (before_or q p)
