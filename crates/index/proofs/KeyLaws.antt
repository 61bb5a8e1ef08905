-- Keys: when two are the same, where a key stands in a list, and that its place is where it stands.
-- Assumes nothing.
use mathlib.Core.Path.{◌≡◌, refl, sym, ap, ap₂, subst, ◌∙◌}
use mathlib.Core.Logic.{◌⊎◌, inl, inr, ⊎_elim}
use mathlib.Core.Bool.{Bool, true, false, ◌||◌, false≢true}
use mathlib.Core.List.{List, [], ◌∷◌, ◌++◌, concat-ne-nil}
use Prim.Native.Nat.{ℕ, zero, suc, ◌+◌, ◌<◌}
use native.Mathlib.Nat.{add-zero, zero-add}
use native.Mathlib.Omega.{arith}
use lib.Dec.{eqb}
use lib.ListN.{length, get_or, length-append, get_or-append}
use lib.Seq.{get_or-append_seam}
use borrow.Author.Tests.{eqb-true, eq-eqb}
use Rattle.bits.specs.Path.{Path, same_path}
use Rattle.bits.specs.Tests.{any}
use Rattle.bits.proofs.TestLaws.{decided, and_trues, and_both, or_falses, equal, refuted}
use Rattle.bits.proofs.ListLaws.{or_left, or_right, any_append, ending, snoc_same}
use Rattle.bits.proofs.SamePathLaws.{same_path_eq, same_path_refl}
use Rattle.index.specs.Key.{Key, at, same_key, has_record, place_from}

-- what a list of keys gives at a place that it does not have
abbrev pub no_key : Key
no_key = at 0 []

-- the key whose path goes on from k's by r
abbrev pub beyond : Key → Path → Key
beyond k r = at k.field (k.path ++ r)

-- the key one bit further
abbrev pub further : Key → Bool → Key
further k b = beyond k (b ∷ [])

-- ---- equal keys

pub same_key_eq : (k l : Key) → same_key k l ≡ true → k ≡ l
unfolding same_key
same_key_eq k l e =
    let s = and_trues (eqb k.field l.field) (same_path k.path l.path) e in
    ap₂ at (eqb-true k.field l.field s.0) (same_path_eq k.path l.path s.1)

pub same_key_refl : (k : Key) → same_key k k ≡ true
unfolding same_key
same_key_refl k =
    and_both (eqb k.field k.field) (same_path k.path k.path) (eq-eqb k.field k.field refl) (same_path_refl k.path)

pub same_key_ne : (k l : Key) → (k ≡ l → ⊥) → same_key k l ≡ false
same_key_ne k l ne = refuted (same_key k l) (λ e. ne (same_key_eq k l e))

-- a path that goes on is another
pub longer : (k : Key) (b : Bool) (r : Path) → beyond k (b ∷ r) ≡ k → ⊥
longer k b r e = omega (arith, length-append k.path (b ∷ r), ap (λ (l : Key). length l.path) e)

-- keys that are the same one bit further were the same before
pub further_same : (k l : Key) (b c : Bool) → further k b ≡ further l c → (k ≡ l) × (b ≡ c)
further_same k l b c e =
    let s = snoc_same k.path l.path b c (ap (λ (m : Key). m.path) e) in
    (ap₂ at (ap (λ (m : Key). m.field) e) s.0, s.1)

pub further_root : (k : Key) (b : Bool) (f : ℕ) → further k b ≡ at f [] → ⊥
further_root k b f e = concat-ne-nil b k.path (ap (λ (l : Key). l.path) e)

-- a key is a root, or one bit further than another
pub root_or_further : (l : Key) → (l ≡ at l.field []) ⊎ ((k : Key) × (b : Bool) × (l ≡ further k b))
root_or_further l =
    ⊎_elim (λ e. inl (ap (at l.field) e)) (λ s. inr (at l.field s.0, s.1, ap (at l.field) s.2)) (ending l.path)

-- ---- a key in a list

-- it stands at place i
pub record Stands (ks : List Key) (i : ℕ) (k : Key) : Type 0 where
  pub inside : i < length ks
  pub there : get_or ks i no_key ≡ k

pub stands_later : (l : Key) (ks : List Key) (i : ℕ) (k : Key) → Stands ks i k → Stands (l ∷ ks) (suc i) k
stands_later l ks i k s = record { inside = omega arith; there = s.there }

pub stands_here : (ks : List Key) (i : ℕ) → i < length ks → Stands ks i (get_or ks i no_key)
stands_here ks i h = record { inside = h; there = refl }

pub stands_same : {ks : List Key} {i : ℕ} {k l : Key} → Stands ks i k → Stands ks i l → k ≡ l
stands_same s t = sym s.there ∙ t.there

pub stands_append : (ks more : List Key) (i : ℕ) (k : Key) → Stands ks i k → Stands (ks ++ more) i k
stands_append ks more i k s = record {
  inside = omega (arith, length-append ks more);
  there = get_or-append ks more no_key i s.inside ∙ s.there;
}

-- where one more key stands at the end, a key stood before or is that one
pub stands_snoc : (ks : List Key) (l : Key) (i : ℕ) (k : Key) → Stands (ks ++ (l ∷ [])) i k → Stands ks i k ⊎ ((i ≡ length ks) × (k ≡ l))
stands_snoc ks l i k s =
    ⊎_elim
    (λ (e : i ≡ length ks). inr (e, sym s.there ∙ rw e (get_or-append_seam ks l [] no_key)))
    (λ (h : i < length ks). inl (record { inside = h; there = sym (get_or-append ks (l ∷ []) no_key i h) ∙ s.there }))
    (equal i (length ks) (omega (arith, length-append ks (l ∷ []))))

pub stands_has_record : (ks : List Key) (i : ℕ) (k : Key) → Stands ks i k → has_record k ks ≡ true
unfolding has_record any
stands_has_record [] i k s = absurd (omega arith)
stands_has_record (l ∷ ks) zero k s = or_left (same_key k l) (has_record k ks) (rw s.there (same_key_refl k))
stands_has_record (l ∷ ks) (suc i) k s =
    or_right (same_key k l) (has_record k ks) (stands_has_record ks i k (record { inside = omega arith; there = s.there }))

pub has_record_append : (k : Key) (l m : List Key) → has_record k (l ++ m) ≡ (has_record k l || has_record k m)
unfolding has_record
has_record_append k l m = any_append (same_key k) l m

-- ---- its place

pub place_here : (n : ℕ) (k l : Key) (ks : List Key) → same_key k l ≡ true → place_from n k (l ∷ ks) ≡ n
unfolding place_from
place_here n k l ks e = rw (e, place_from)

pub place_later : (n : ℕ) (k l : Key) (ks : List Key) → same_key k l ≡ false → place_from n k (l ∷ ks) ≡ place_from (suc n) k ks
unfolding place_from
place_later n k l ks e = rw (e, place_from)

-- a key of the list stands at its place, whichever number the first place has
place_from_lem : (n : ℕ) (k : Key) (ks : List Key) → has_record k ks ≡ true → (i : ℕ) × (place_from n k ks ≡ n + i) × Stands ks i k
unfolding has_record any
place_from_lem n k [] e = absurd (false≢true e)
place_from_lem n k (l ∷ ks) e = step (decided (same_key k l)) (place_from_lem (suc n) k ks)
  where
    step : (same_key k l ≡ true) ⊎ (same_key k l ≡ false) → (has_record k ks ≡ true → (i : ℕ) × (place_from (suc n) k ks ≡ suc n + i) × Stands ks i k)
        → (i : ℕ) × (place_from n k (l ∷ ks) ≡ n + i) × Stands (l ∷ ks) i k
    step (inl s) later = (0, place_here n k l ks s ∙ sym (add-zero n), record { inside = omega arith; there = sym (same_key_eq k l s) })
    step (inr s) later =
        let m = later (rw s at e) in
        (suc m.0, place_later n k l ks s ∙ m.1 ∙ omega arith, stands_later l ks m.0 k m.2)

pub place_in : (k : Key) (ks : List Key) → has_record k ks ≡ true → Stands ks (place_from 0 k ks) k
place_in k ks e =
    let m = place_from_lem 0 k ks e in
    subst (λ (i : ℕ). Stands ks i k) (sym (m.1 ∙ zero-add m.0)) m.2

pub place_out : (k : Key) (n : ℕ) (ks : List Key) → has_record k ks ≡ false → place_from n k ks ≡ 0
unfolding has_record any place_from
place_out k n [] e = refl
place_out k n (l ∷ ks) e =
    let s = or_falses (same_key k l) (has_record k ks) e in
    place_later n k l ks s.0 ∙ place_out k (suc n) ks s.1
