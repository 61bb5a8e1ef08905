-- Laws of tests over whole lists. A test that holds at each place of two lists: one induction over three lists serves all.
-- Assumes nothing.
use mathlib.Core.Path.{◌≡◌, refl, sym, ap, ap₂, ◌∙◌}
use mathlib.Core.Logic.{⊎_elim}
use mathlib.Core.Bool.{Bool, true, false, ◌&&◌, false≢true}
use mathlib.Core.List.{List, [], ◌∷◌, ◌++◌, map, zip_with}
use Prim.Native.Nat.{ℕ, zero, suc, ◌+◌, ◌<◌}
use native.Mathlib.Nat.{zero-lt-suc, le_of_suc-le-suc, zero-add}
use native.Mathlib.Omega.{arith}
use lib.ListN.{length, get_or, length-map}
use lib.Seq.{ext_get_or}
use Rattle.bits.specs.Tests.{any, all, each, up_from}
use Rattle.bits.proofs.TestLaws.{clash, refuted, and_trues, and_both, or_trues}

-- the other way round
pub each_flip : {A B : Type 0} (p : A → B → Bool) (xs : List A) (ys : List B) → each p xs ys ≡ each (λ y x. p x y) ys xs
unfolding each
each_flip p [] [] = refl
each_flip p [] (y ∷ ys) = refl
each_flip p (x ∷ xs) [] = refl
each_flip p (x ∷ xs) (y ∷ ys) = ap (λ t. p x y && t) (each_flip p xs ys)

-- two lists that pass against a third: what holds at the end, and goes on through one more place of the three, holds of them
module _ {A B C : Type 0} (p : A → C → Bool) (q : B → C → Bool) (Fact : List A → List B → List C → Type 0)
    (end : Fact [] [] [])
    (more : (x : A) (y : B) (z : C) (xs : List A) (ys : List B) (zs : List C)
    → p x z ≡ true → q y z ≡ true → Fact xs ys zs → Fact (x ∷ xs) (y ∷ ys) (z ∷ zs)) where
  pub each_three : (xs : List A) (ys : List B) (zs : List C) → each p xs zs ≡ true → each q ys zs ≡ true → Fact xs ys zs
  unfolding each
  each_three [] [] [] e f = end
  each_three [] (y ∷ ys) [] e f = absurd (false≢true f)
  each_three (x ∷ xs) ys [] e f = absurd (false≢true e)
  each_three [] ys (z ∷ zs) e f = absurd (false≢true e)
  each_three (x ∷ xs) [] (z ∷ zs) e f = absurd (false≢true f)
  each_three (x ∷ xs) (y ∷ ys) (z ∷ zs) e f =
      let a = and_trues (p x z) (each p xs zs) e in
      let b = and_trues (q y z) (each q ys zs) f in
      more x y z xs ys zs a.0 b.0 (each_three xs ys zs a.1 b.1)

-- so the two pass against each other, where a law says so of one place
module _ {A B C : Type 0} (p : A → C → Bool) (q : B → C → Bool) (r : A → B → Bool)
    (law : (x : A) (y : B) (z : C) → p x z ≡ true → q y z ≡ true → r x y ≡ true) where
  pub each_both : (xs : List A) (ys : List B) (zs : List C) → each p xs zs ≡ true → each q ys zs ≡ true → each r xs ys ≡ true
  unfolding each
  each_both =
      each_three p q (λ xs ys zs. each r xs ys ≡ true) refl
      (λ x y z xs ys zs a b rest. and_both (r x y) (each r xs ys) (law x y z a b) rest)

-- and what the two make together passes against the third
module _ {A B C D : Type 0} (p : A → C → Bool) (q : B → C → Bool) (f : A → B → D) (r : D → C → Bool)
    (law : (x : A) (y : B) (z : C) → p x z ≡ true → q y z ≡ true → r (f x y) z ≡ true) where
  pub each_made : (xs : List A) (ys : List B) (zs : List C) → each p xs zs ≡ true → each q ys zs ≡ true → each r (zip_with f xs ys) zs ≡ true
  unfolding each zip_with
  each_made =
      each_three p q (λ xs ys zs. each r (zip_with f xs ys) zs ≡ true) refl
      (λ x y z xs ys zs a b rest. and_both (r (f x y) z) (each r (zip_with f xs ys) zs) (law x y z a b) rest)

-- two lists that pass against each other: each of them passes against what they make together
module _ {A B D : Type 0} (t : A → B → Bool) (f : A → B → D) (p : A → D → Bool) (q : B → D → Bool)
    (law : (x : A) (y : B) → t x y ≡ true → (p x (f x y) ≡ true) × (q y (f x y) ≡ true)) where
  pub each_makes : (xs : List A) (ys : List B) → each t xs ys ≡ true → (each p xs (zip_with f xs ys) ≡ true) × (each q ys (zip_with f xs ys) ≡ true)
  unfolding each zip_with
  each_makes [] [] e = (refl, refl)
  each_makes [] (y ∷ ys) e = absurd (false≢true e)
  each_makes (x ∷ xs) [] e = absurd (false≢true e)
  each_makes (x ∷ xs) (y ∷ ys) e =
      let b = and_trues (t x y) (each t xs ys) e in
      let here = law x y b.0 in
      let rest = each_makes xs ys b.1 in
      let z = f x y in
      let zs = zip_with f xs ys in
      (and_both (p x z) (each p xs zs) here.0 rest.0, and_both (q y z) (each q ys zs) here.1 rest.1)

-- ---- lists made from one list

module _ {A B : Type 0} where
  pub get_d_map : (g : A → B) (l : List A) (k : ℕ) (d : B) (e : A) → k < length l → get_or (map g l) k d ≡ g (get_or l k e)
  get_d_map g [] k d e h = absurd (omega arith)
  get_d_map g (x ∷ l) zero d e h = refl
  get_d_map g (x ∷ l) (suc k) d e h = get_d_map g l k d e (omega arith)

pub each_maps : {A B C : Type 0} (p : B → C → Bool) (g : A → B) (v : A → C) (l : List A) → each p (map g l) (map v l) ≡ all (λ x. p (g x) (v x)) l
unfolding each all
each_maps p g v [] = refl
each_maps p g v (x ∷ l) = ap (λ t. p (g x) (v x) && t) (each_maps p g v l)

-- two tests that agree at each place of a list agree on the list
pub all_same : {A : Type 0} (t u : A → Bool) (l : List A) (d : A) → ((k : ℕ) → k < length l → t (get_or l k d) ≡ u (get_or l k d)) → all t l ≡ all u l
unfolding all
all_same t u [] d e = refl
all_same t u (x ∷ l) d e = ap₂ (λ a b. a && b) (e 0 (zero-lt-suc (length l))) (all_same t u l d (λ k h. e (suc k) (omega arith)))

-- where h is f after g at every number below n, it is so at a list of such numbers
pub map_along : {A : Type 0} (f h : ℕ → A) (g : ℕ → ℕ) (n : ℕ) (l : List ℕ) → ((k : ℕ) → k < n → h k ≡ f (g k)) → ((k : ℕ) → k < length l → get_or l k 0 < n)
    → map h l ≡ map f (map g l)
map_along f h g n [] law below = refl
map_along f h g n (x ∷ l) law below =
    ap₂ ◌∷◌ (law x (below 0 (omega arith))) (map_along f h g n l law (λ k s. below (suc k) (omega arith)))

pub up_size : (k n : ℕ) → length (up_from k n) ≡ n
unfolding up_from
up_size k zero = refl
up_size k (suc n) = ap suc (up_size (suc k) n)

pub up_at : (k n i d : ℕ) → i < n → get_or (up_from k n) i d ≡ k + i
unfolding up_from
up_at k zero i d h = absurd (omega arith)
up_at k (suc n) zero d h = omega arith
up_at k (suc n) (suc i) d h = omega (arith, up_at (suc k) n i d (le_of_suc-le-suc h))

-- what stands at place k of a rule's list is the rule at k
pub tabled : {A : Type 0} (f : ℕ → A) (n k : ℕ) (d : A) → k < n → get_or (map f (up_from 0 n)) k d ≡ f k
tabled f n k d h = get_d_map f (up_from 0 n) k d 0 (rw (up_size 0 n) h) ∙ ap f (up_at 0 n k 0 h ∙ zero-add k)

-- where some element passes, one passes at a place
pub some_at : {A : Type 0} (test : A → Bool) (l : List A) (d : A) → any test l ≡ true → (k : ℕ) × (k < length l) × (test (get_or l k d) ≡ true)
unfolding any
some_at test [] d e = absurd (false≢true e)
some_at test (x ∷ l) d e =
    ⊎_elim
    (λ here. (0, omega arith, here))
    (λ later. let r = some_at test l d later in (suc r.0, omega arith, r.2))
    (or_trues (test x) (any test l) e)

-- where none passes at a place, none does
pub none_any : {A : Type 0} (test : A → Bool) (l : List A) (d : A) → ((k : ℕ) → k < length l → test (get_or l k d) ≡ false) → any test l ≡ false
none_any test l d fails = refuted (any test l) (λ e. let r = some_at test l d e in clash r.2 (fails r.0 r.1))

pub up_snoc : (k n : ℕ) → up_from k (suc n) ≡ up_from k n ++ ((k + n) ∷ [])
unfolding up_from
up_snoc k zero = ap {B = List ℕ} (λ (x : ℕ). x ∷ []) (omega arith)
up_snoc k (suc n) = ap (λ (l : List ℕ). k ∷ l) (up_snoc (suc k) n ∙ ap (λ (x : ℕ). up_from (suc k) n ++ (x ∷ [])) (omega arith))

-- ---- place by place

-- counted from one more
all_shift : (t : ℕ → Bool) (k n : ℕ) → all t (up_from (suc k) n) ≡ all (λ j. t (suc j)) (up_from k n)
unfolding all up_from
all_shift t k zero = refl
all_shift t k (suc n) = ap (λ x. t (suc k) && x) (all_shift t (suc k) n)

pub all_agree : (t u : ℕ → Bool) (k n : ℕ) → ((j : ℕ) → j < k + n → t j ≡ u j) → all t (up_from k n) ≡ all u (up_from k n)
unfolding all up_from
all_agree t u k zero e = refl
all_agree t u k (suc n) e = ap₂ (λ x y. x && y) (e k (omega arith)) (all_agree t u (suc k) n (λ j h. e j (omega arith)))

pub map_agree : {A B : Type 0} (t u : A → B) (l : List A) (d : A) → ((k : ℕ) → k < length l → t (get_or l k d) ≡ u (get_or l k d)) → map t l ≡ map u l
map_agree t u [] d e = refl
map_agree {B} t u (x ∷ l) d e = ap₂ (λ (y : B) (m : List B). y ∷ m) (e 0 (omega arith)) (map_agree t u l d (λ k h. e (suc k) (omega arith)))

pub each_places : {A B : Type 0} (p : A → B → Bool) (xs : List A) (ys : List B) (d : A) (e : B) → length xs ≡ length ys
    → each p xs ys ≡ all (λ f. p (get_or xs f d) (get_or ys f e)) (up_from 0 (length ys))
unfolding each all up_from
each_places p [] [] d e h = refl
each_places p [] (y ∷ ys) d e h = absurd (omega arith)
each_places p (x ∷ xs) [] d e h = absurd (omega arith)
each_places p (x ∷ xs) (y ∷ ys) d e h =
    ap (λ t. p x y && t)
    (each_places p xs ys d e (omega arith) ∙ sym (all_shift (λ f. p (get_or (x ∷ xs) f d) (get_or (y ∷ ys) f e)) 0 (length ys)))

-- a list is what stands at its places
pub by_places : {A : Type 0} (l : List A) (d : A) → map (λ k. get_or l k d) (up_from 0 (length l)) ≡ l
by_places l d =
    let n = length l in
    let size = length-map (up_from 0 n) (λ k. get_or l k d) ∙ up_size 0 n in
    ext_get_or d (map (λ k. get_or l k d) (up_from 0 n)) l size (λ i h. tabled (λ k. get_or l k d) n i d (omega (arith, size)))
