-- The order of an index's keys: no key stands twice, a key's parent stands before it, and what is put in later comes behind.
-- Assumes nothing.
use mathlib.Core.Path.{◌≡◌, sym, ap, subst, ◌∙◌}
use mathlib.Core.Logic.{◌⊎◌, inl, inr, ⊎_elim}
use mathlib.Core.Bool.{Bool, true, false, false≢true}
use mathlib.Core.List.{List, [], ◌∷◌, ◌++◌, map, concat-ne-nil}
use Prim.Native.Nat.{ℕ, zero, suc, ◌+◌, ◌≤◌, ◌<◌}
use native.Mathlib.Nat.{add-zero}
use native.Mathlib.Omega.{arith}
use lib.ListN.{length}
use Rattle.bits.specs.Path.{Path}
use Rattle.bits.specs.Tests.{any}
use Rattle.bits.proofs.TestLaws.{decided, clash, or_falses}
use Rattle.bits.proofs.ListLaws.{or_right}
use Rattle.rules.specs.Rule.{Rule}
use Rattle.index.specs.Key.{Key, at, same_key, has_record, place_from, paths_in}
use Rattle.index.specs.Keys.{grown, grow, steps_from, insert, insert_all, rule_inserts, inserts, roots_from, keys}
use Rattle.index.proofs.KeyLaws.{further, same_key_refl, further_same, Stands, stands_append, stands_snoc, stands_has_record, place_here, place_later, place_in, place_out}
use Rattle.index.proofs.GrownLaws.{grown_old, grown_new, grown_keeps, insert_all_keeps, grow_at, grown_has_record, roots_at, Rooted, roots_rooted}
use Rattle.index.proofs.CountLaws.{length_roots}

-- ---- each key once

-- no key stands at two places
abbrev pub Once : List Key → Type 0
Once ks = (i j : ℕ) (k : Key) → Stands ks i k → Stands ks j k → i ≡ j

once_snoc : (ks : List Key) (k : Key) → has_record k ks ≡ false → Once ks → Once (ks ++ (k ∷ []))
once_snoc ks k new once i j l s t = both (stands_snoc ks k i l s) (stands_snoc ks k j l t)
  where
    old : (m : ℕ) → Stands ks m l → l ≡ k → ⊥
    old m u e = clash (rw e at (stands_has_record ks m l u)) new

    both : Stands ks i l ⊎ ((i ≡ length ks) × (l ≡ k)) → Stands ks j l ⊎ ((j ≡ length ks) × (l ≡ k)) → i ≡ j
    both (inl u) (inl v) = once i j l u v
    both (inl u) (inr v) = absurd (old i u v.1)
    both (inr u) (inl v) = absurd (old j v u.1)
    both (inr u) (inr v) = u.0 ∙ sym v.0

pub once_grown : (ks : List Key) (k : Key) → Once ks → Once (grown ks k)
once_grown = grown_keeps Once once_snoc

pub once_insert_all : (ks new : List Key) → Once ks → Once (insert_all ks new)
once_insert_all = insert_all_keeps Once once_snoc

-- what stands among the roots
root_stands : (f n i : ℕ) (k : Key) → Stands (roots_from f n) i k → k ≡ at (f + i) []
root_stands f n i k s = sym s.there ∙ (roots_at f n i (rw length_roots at s.inside)).there

pub keys_once : (n : ℕ) (rules : List Rule) → Once (keys n rules)
unfolding keys
keys_once n rules =
    once_insert_all (roots_from 0 n) (inserts n rules)
    (λ i j k s t. omega (arith, ap (λ (l : Key). l.field) (sym (root_stands 0 n i k s) ∙ root_stands 0 n j k t)))

-- the place of the key of record i is i
pub place_of : (ks : List Key) → Once ks → (i : ℕ) (k : Key) → Stands ks i k → place_from 0 k ks ≡ i
place_of ks once i k s = once (place_from 0 k ks) i k (place_in k ks (stands_has_record ks i k s)) s

-- ---- a record's parent stands before it

abbrev pub Parented : List Key → Type 0
Parented ks = (i : ℕ) (k : Key) (b : Bool) → Stands ks i (further k b) → (j : ℕ) × (j < i) × Stands ks j k

pub parented_grown : (ks : List Key) (k : Key) (b : Bool) → has_record k ks ≡ true → Parented ks → Parented (grown ks (further k b))
parented_grown ks k b parent P =
    ⊎_elim
    (λ e. rw (grown_old ks (further k b) e) P)
    (λ e. rw (grown_new ks (further k b) e) (λ i l c s. last i l c (stands_snoc ks (further k b) i (further l c) s)))
    (decided (has_record (further k b) ks))
  where
    last : (i : ℕ) (l : Key) (c : Bool) → Stands ks i (further l c) ⊎ ((i ≡ length ks) × (further l c ≡ further k b))
        → (j : ℕ) × (j < i) × Stands (ks ++ (further k b ∷ [])) j l
    last i l c (inl s) = let p = P i l c s in (p.0, p.1, stands_append ks (further k b ∷ []) p.0 l p.2)
    last i l c (inr s) =
        let p = place_in k ks parent in
        (place_from 0 k ks, omega arith, rw (further_same l k c b s.1).0 (stands_append ks (further k b ∷ []) (place_from 0 k ks) k p))

pub parented_grow : (k : Key) (p : Path) (ks : List Key) → has_record k ks ≡ true → Parented ks → Parented (grow ks (steps_from k.field k.path p))
unfolding grow steps_from
parented_grow k [] ks parent P = P
parented_grow k (b ∷ p) ks parent P =
    let l = further k b in
    parented_grow l p (grown ks l) (grown_has_record l ks l ∙ or_right (has_record l ks) (same_key l l) (same_key_refl l)) (parented_grown ks k b parent P)

-- the keys are of n fields
abbrev pub KeysWithin : ℕ → List Key → Type 0
KeysWithin n [] = Unit {0}
KeysWithin n (k ∷ ks) = (k.field < n) × KeysWithin n ks

pub rooted_insert : (n : ℕ) (ks : List Key) (k : Key) → Rooted n ks → Rooted n (insert ks k)
unfolding insert
rooted_insert n ks k rooted f h = grow_at f (at f []) ks (steps_from k.field [] k.path) (rooted f h)

pub parented_insert : (n : ℕ) (ks : List Key) (k : Key) → k.field < n → Rooted n ks → Parented ks → Parented (insert ks k)
unfolding insert
parented_insert n ks k h rooted =
    let root = at k.field [] in
    parented_grow root k.path ks (stands_has_record ks k.field root (rooted k.field h))

pub parented_insert_all : (n : ℕ) (ks new : List Key) → KeysWithin n new → Rooted n ks → Parented ks → Parented (insert_all ks new)
unfolding insert_all
parented_insert_all n ks [] w rooted P = P
parented_insert_all n ks (k ∷ new) w rooted P =
    parented_insert_all n (insert ks k) new w.1 (rooted_insert n ks k rooted) (parented_insert n ks k w.0 rooted P)

within_append : (n : ℕ) (l m : List Key) → KeysWithin n l → KeysWithin n m → KeysWithin n (l ++ m)
within_append n [] m w v = v
within_append n (k ∷ l) m w v = (w.0, within_append n l m w.1 v)

within_field : (n f : ℕ) → f < n → (ps : List Path) → KeysWithin n (map (at f) ps)
within_field n f h [] = tt
within_field n f h (p ∷ ps) = (h, within_field n f h ps)

within_rule : (n f m : ℕ) (r : Rule) → f + m ≤ n → KeysWithin n (rule_inserts f m r)
unfolding rule_inserts
within_rule n f zero r h = tt
within_rule n f (suc m) r h =
    within_append n (map (at f) (paths_in r f)) (rule_inserts (suc f) m r)
    (within_field n f (omega arith) (paths_in r f)) (within_rule n (suc f) m r (omega arith))

pub within_inserts : (n : ℕ) (rules : List Rule) → KeysWithin n (inserts n rules)
unfolding inserts
within_inserts n [] = tt
within_inserts n (r ∷ rules) =
    within_append n (rule_inserts 0 n r) (inserts n rules) (within_rule n 0 n r (omega arith)) (within_inserts n rules)

within_steps : (n f : ℕ) → f < n → (q p : Path) → KeysWithin n (steps_from f q p)
unfolding steps_from
within_steps n f h q [] = tt
within_steps n f h q (b ∷ p) = (h, within_steps n f h (q ++ (b ∷ [])) p)

within_grow : (n : ℕ) (ks new : List Key) → KeysWithin n ks → KeysWithin n new → KeysWithin n (grow ks new)
unfolding grow
within_grow n ks [] w v = w
within_grow n ks (k ∷ new) w v =
    within_grow n (grown ks k) new
    (⊎_elim (λ e. rw (grown_old ks k e) w) (λ e. rw (grown_new ks k e) (within_append n ks (k ∷ []) w (v.0, tt))) (decided (has_record k ks)))
    v.1

within_insert_all : (n : ℕ) (ks new : List Key) → KeysWithin n ks → KeysWithin n new → KeysWithin n (insert_all ks new)
unfolding insert_all insert
within_insert_all n ks [] w v = w
within_insert_all n ks (k ∷ new) w v = within_insert_all n (insert ks k) new (within_grow n ks (steps_from k.field [] k.path) w (within_steps n k.field v.0 [] k.path)) v.1

within_roots : (n f m : ℕ) → f + m ≤ n → KeysWithin n (roots_from f m)
unfolding roots_from
within_roots n f zero h = tt
within_roots n f (suc m) h = (omega arith, within_roots n (suc f) m (omega arith))

within_at : (n : ℕ) (ks : List Key) → KeysWithin n ks → (i : ℕ) (k : Key) → Stands ks i k → k.field < n
within_at n [] w i k s = absurd (omega (arith, s.inside))
within_at n (l ∷ ks) w zero k s = subst (λ (m : Key). m.field < n) s.there w.0
within_at n (l ∷ ks) w (suc i) k s = within_at n ks w.1 i k (record { inside = omega (arith, s.inside); there = s.there })

-- a record's key is of one of the fields
pub keys_field : (n : ℕ) (rules : List Rule) (i : ℕ) (k : Key) → Stands (keys n rules) i k → k.field < n
unfolding keys
keys_field n rules =
    within_at n (insert_all (roots_from 0 n) (inserts n rules))
    (within_insert_all n (roots_from 0 n) (inserts n rules) (within_roots n 0 n (omega arith)) (within_inserts n rules))

pub roots_parented : (n : ℕ) → Parented (roots_from 0 n)
roots_parented n i k b s = absurd (concat-ne-nil b k.path (ap (λ (l : Key). l.path) (root_stands 0 n i (further k b) s)))

pub keys_parented : (n : ℕ) (rules : List Rule) → Parented (keys n rules)
unfolding keys
keys_parented n rules = parented_insert_all n (roots_from 0 n) (inserts n rules) (within_inserts n rules) (roots_rooted n) (roots_parented n)

-- ---- one key more at the end

module _ (k : Key) where
  -- a key of the list keeps its place, whatever comes behind
  pub key_place_old : (n : ℕ) (ks more : List Key) → has_record k ks ≡ true → place_from n k (ks ++ more) ≡ place_from n k ks
  unfolding has_record any
  key_place_old n [] more e = absurd (false≢true e)
  key_place_old n (l ∷ ks) more e =
      ⊎_elim
      (λ s. place_here n k l (ks ++ more) s ∙ sym (place_here n k l ks s))
      (λ s. place_later n k l (ks ++ more) s ∙ key_place_old (suc n) ks more (rw s at e) ∙ sym (place_later n k l ks s))
      (decided (same_key k l))

  -- any other has the place that it has behind
  pub key_place_new : (n : ℕ) (ks more : List Key) → has_record k ks ≡ false → place_from n k (ks ++ more) ≡ place_from (n + length ks) k more
  unfolding has_record any
  key_place_new n [] more e = rw add-zero
  key_place_new n (l ∷ ks) more e =
      let s = or_falses (same_key k l) (has_record k ks) e in
      let sum : suc n + length ks ≡ n + suc (length ks) = omega arith in
      place_later n k l (ks ++ more) s.0 ∙ key_place_new (suc n) ks more s.1 ∙ ap (λ (m : ℕ). place_from m k more) sum

  pub place_snoc : (n : ℕ) (ks : List Key) → has_record k ks ≡ false → place_from n k (ks ++ (k ∷ [])) ≡ n + length ks
  place_snoc n ks e = key_place_new n ks (k ∷ []) e ∙ place_here (n + length ks) k k [] (same_key_refl k)

  pub place_other : (n : ℕ) (ks : List Key) (l : Key) → same_key k l ≡ false → place_from n k (ks ++ (l ∷ [])) ≡ place_from n k ks
  unfolding place_from
  place_other n ks l other =
      ⊎_elim (key_place_old n ks (l ∷ []))
      (λ e. key_place_new n ks (l ∷ []) e ∙ place_later (n + length ks) k l [] other ∙ sym (place_out k n ks e))
      (decided (has_record k ks))
