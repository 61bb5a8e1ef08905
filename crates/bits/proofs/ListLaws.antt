-- Laws of lists: a test over a list that was joined, mapped or split by another test, a function over a part of a list, how a list ends,
-- its part from a start to its end, a test that follows from another, and a list of five elements.
-- Assumes nothing.
use mathlib.Core.Path.{◌≡◌, refl, sym, ap, ap₂, subst, ◌∙◌, fun_ext}
use mathlib.Core.Logic.{◌⊎◌, inl, inr, ⊎_elim}
use mathlib.Core.Bool.{Bool, true, false, ◌&&◌, ◌||◌, or-true, or_assoc}
use mathlib.Core.List.{List, [], ◌∷◌, ◌++◌, map, flatten, append_assoc, head-eq_of_cons-eq, tail-eq_of_cons-eq, concat-ne-nil, concat-eq-append, eq-nil-or-concat}
use Prim.Native.Nat.{ℕ, zero, suc, ◌-◌, ◌<◌}
use native.Mathlib.Omega.{arith}
use lib.Dec.{eqb}
use lib.ListN.{length, get_or, take, drop, length-drop, drop_of_length-le}
use lib.Seq.{take_all, drop-cons, drop-length}
use borrow.Author.Tests.{eqb-true, eqb-false}
use Rattle.bits.specs.Tests.{any, all}
use Rattle.bits.proofs.TestLaws.{decided, and_trues, and_both, or_falses, or_trues}

-- ---- one test, two numbers, one test or another

-- two numbers are equal or not
pub alike : (a b : ℕ) → (a ≡ b) ⊎ (a ≡ b → ⊥)
alike a b = ⊎_elim (λ e. inl (eqb-true a b e)) (λ e. inr (eqb-false a b e)) (decided (eqb a b))

pub or_left : (a b : Bool) → a ≡ true → (a || b) ≡ true
or_left a b h = ap (λ x. x || b) h

pub or_right : (a b : Bool) → b ≡ true → (a || b) ≡ true
or_right a b h = ap (λ x. a || x) h ∙ or-true a

-- ---- some element passes

module _ {A : Type 0} where
  pub any_append : (t : A → Bool) (l m : List A) → any t (l ++ m) ≡ (any t l || any t m)
  unfolding any
  any_append t [] m = refl
  any_append t (x ∷ l) m = ap (λ y. t x || y) (any_append t l m) ∙ sym (or_assoc (t x) (any t l) (any t m))

  pub any_ext : (t u : A → Bool) → ((x : A) → t x ≡ u x) → (l : List A) → any t l ≡ any u l
  any_ext t u e l = ap (λ s. any s l) (fun_ext e)

  pub any_none : (l : List A) → any (λ x. false) l ≡ false
  unfolding any
  any_none [] = refl
  any_none (x ∷ l) = any_none l

  -- a test that does not look at the element, and one that does
  pub any_and : (b : Bool) (t : A → Bool) (l : List A) → any (λ x. b && t x) l ≡ (b && any t l)
  any_and true t l = refl
  any_and false t l = any_none l

  -- two tests at once
  pub any_or : (t u : A → Bool) (l : List A) → any (λ x. t x || u x) l ≡ (any t l || any u l)
  unfolding any
  any_or t u [] = refl
  any_or t u (x ∷ l) = ap (λ y. t x || u x || y) (any_or t u l) ∙ between (t x) (u x) (any t l) (any u l)
    where
      between : (a b c d : Bool) → (a || b || (c || d)) ≡ (a || c || (b || d))
      between true b c d = refl
      between false true true d = refl
      between false true false d = refl
      between false false c d = refl

module _ {A B : Type 0} where
  pub any_map : (t : B → Bool) (g : A → B) (l : List A) → any t (map g l) ≡ any (λ x. t (g x)) l
  unfolding any
  any_map t g [] = refl
  any_map t g (x ∷ l) = ap (λ y. t (g x) || y) (any_map t g l)

-- ---- every element passes

module _ {A : Type 0} where
  pub all_ext : (t u : A → Bool) → ((x : A) → t x ≡ u x) → (l : List A) → all t l ≡ all u l
  all_ext t u e l = ap (λ s. all s l) (fun_ext e)

module _ {A B : Type 0} where
  pub all_map : (t : B → Bool) (g : A → B) (l : List A) → all t (map g l) ≡ all (λ x. t (g x)) l
  unfolding all
  all_map t g [] = refl
  all_map t g (x ∷ l) = ap (λ y. t (g x) && y) (all_map t g l)

-- ---- a function over a list

module _ {A B : Type 0} where
  pub map_ext : (g h : A → B) → ((x : A) → g x ≡ h x) → (l : List A) → map g l ≡ map h l
  map_ext g h e l = ap (λ f. map f l) (fun_ext e)

  -- two functions that agree where a test fails agree on a list in which no element passes it
  pub map_none : (t : A → Bool) (g h : A → B) → ((x : A) → t x ≡ false → g x ≡ h x) → (l : List A) → any t l ≡ false → map g l ≡ map h l
  unfolding any
  map_none t g h e [] n = refl
  map_none t g h e (x ∷ l) n =
      let s = or_falses (t x) (any t l) n in
      ap₂ (λ (y : B) (m : List B). y ∷ m) (e x s.0) (map_none t g h e l s.1)

-- so do two tests
pub any_same : {A : Type 0} (t u v : A → Bool) → ((x : A) → t x ≡ false → u x ≡ v x) → (l : List A) → any t l ≡ false → any u l ≡ any v l
any_same t u v e l n = sym (any_map (λ b. b) u l) ∙ ap (any (λ b. b)) (map_none t u v e l n) ∙ any_map (λ b. b) v l

module _ {A B : Type 0} where
  pub take_map : (g : A → B) (n : ℕ) (l : List A) → take n (map g l) ≡ map g (take n l)
  take_map g zero l = refl
  take_map g (suc n) [] = refl
  take_map g (suc n) (x ∷ l) = ap (λ (m : List B). g x ∷ m) (take_map g n l)

  pub drop_map : (g : A → B) (n : ℕ) (l : List A) → drop n (map g l) ≡ map g (drop n l)
  drop_map g zero l = refl
  drop_map g (suc n) [] = refl
  drop_map g (suc n) (x ∷ l) = drop_map g n l

pub flatten_append : {A : Type 0} (ls ms : List (List A)) → flatten (ls ++ ms) ≡ flatten ls ++ flatten ms
unfolding flatten
flatten_append [] ms = refl
flatten_append {A} (l ∷ ls) ms = ap (λ (r : List A). l ++ r) (flatten_append ls ms) ∙ sym (append_assoc l (flatten ls) (flatten ms))

-- ---- the end of a list

module _ {A : Type 0} where
  -- a list is empty, or ends in an element
  pub ending : (l : List A) → (l ≡ []) ⊎ ((q : List A) × (b : A) × (l ≡ q ++ (b ∷ [])))
  ending l = ⊎_elim inl (λ s. inr (s.0, s.1, s.2 ∙ concat-eq-append s.0 s.1)) (eq-nil-or-concat l)

  -- equal lists end alike
  pub snoc_same : (q r : List A) (b c : A) → q ++ (b ∷ []) ≡ r ++ (c ∷ []) → (q ≡ r) × (b ≡ c)
  snoc_same [] [] b c e = (refl, head-eq_of_cons-eq e)
  snoc_same [] (x ∷ r) b c e = absurd (concat-ne-nil c r (sym (tail-eq_of_cons-eq e)))
  snoc_same (a ∷ q) [] b c e = absurd (concat-ne-nil b q (tail-eq_of_cons-eq e))
  snoc_same (a ∷ q) (x ∷ r) b c e =
      let s = snoc_same q r b c (tail-eq_of_cons-eq e) in
      (ap₂ (λ (y : A) (m : List A). y ∷ m) (head-eq_of_cons-eq e) s.0, s.1)

-- ---- the part from a start to the end: what is lent, and what lies after it

module _ {A : Type 0} (a : ℕ) (l : List A) where
  pub part_from : take (length l - a) (drop a l) ≡ drop a l
  part_from = take_all (length l - a) (drop a l) (simp length-drop (omega arith))

  pub after_part : drop (length l - a) (drop a l) ≡ []
  after_part = drop_of_length-le (drop a l) {i = length l - a} (simp length-drop (omega arith))

-- ---- a test that follows from another

module _ {A : Type 0} (t u : A → Bool) (follows : (x : A) → t x ≡ true → u x ≡ true) where
  pub any_implied : (l : List A) → any t l ≡ true → any u l ≡ true
  unfolding any
  any_implied [] h = h
  any_implied (x ∷ l) h =
      ⊎_elim (λ e. or_left (u x) (any u l) (follows x e)) (λ e. or_right (u x) (any u l) (any_implied l e)) (or_trues (t x) (any t l) h)

  pub all_implied : (l : List A) → all t l ≡ true → all u l ≡ true
  unfolding all
  all_implied [] h = refl
  all_implied (x ∷ l) h =
      let s = and_trues (t x) (all t l) h in
      and_both (u x) (all u l) (follows x s.0) (all_implied l s.1)

pub and_implied : (a b : Bool) → (b ≡ true → a ≡ true) → (a && b) ≡ b
and_implied a true i = ap (λ x. x && true) (i refl)
and_implied true false i = refl
and_implied false false i = refl

-- ---- a list of five

module _ {A : Type 0} where
  pub five_elements : (z : A) (l : List A) → length l ≡ 5 → l ≡ get_or l 0 z ∷ get_or l 1 z ∷ get_or l 2 z ∷ get_or l 3 z ∷ get_or l 4 z ∷ []
  five_elements z l h =
      one 0 (omega arith)
      ∙ ap (λ (m : List A). get_or l 0 z ∷ m) (one 1 (omega arith)
      ∙ ap (λ (m : List A). get_or l 1 z ∷ m) (one 2 (omega arith)
      ∙ ap (λ (m : List A). get_or l 2 z ∷ m) (one 3 (omega arith)
      ∙ ap (λ (m : List A). get_or l 3 z ∷ m) (one 4 (omega arith)
      ∙ ap (λ (m : List A). get_or l 4 z ∷ m) (subst (λ (n : ℕ). drop n l ≡ []) h (drop-length l))))))
    where
      one : (j : ℕ) → j < 5 → drop j l ≡ get_or l j z ∷ drop (suc j) l
      one j s = drop-cons l j z (omega arith)
