-- What growing adds to a list of keys: those that have no record yet, behind the others, so that the records that were there keep their numbers.
-- Assumes nothing.
use mathlib.Core.Path.{◌≡◌, refl, sym, ap, ◌∙◌}
use mathlib.Core.Logic.{⊎_elim}
use mathlib.Core.Bool.{true, false, ◌||◌, or-false, or_assoc}
use mathlib.Core.List.{List, [], ◌∷◌, ◌++◌, append-nil, append_assoc}
use Prim.Native.Nat.{ℕ, zero, suc, ◌+◌, ◌≤◌, ◌<◌}
use native.Mathlib.Nat.{add-zero, zero-add, le_refl}
use native.Mathlib.Omega.{arith}
use lib.ListN.{length, length-append}
use Rattle.bits.specs.Path.{Path}
use Rattle.bits.specs.Tests.{any}
use Rattle.bits.proofs.TestLaws.{decided}
use Rattle.bits.proofs.ListLaws.{or_left, any_append}
use Rattle.rules.specs.Rule.{Rule}
use Rattle.index.specs.Key.{Key, at, same_key, has_record}
use Rattle.index.specs.Keys.{grown, grow, steps_from, insert, insert_all, rule_inserts, inserts, roots_from, keys}
use Rattle.index.proofs.KeyLaws.{same_key_eq, Stands, stands_later, stands_append}

-- ---- what growing adds

pub grown_old : (ks : List Key) (k : Key) → has_record k ks ≡ true → grown ks k ≡ ks
unfolding grown
grown_old ks k e = rw (e, grown)

pub grown_new : (ks : List Key) (k : Key) → has_record k ks ≡ false → grown ks k ≡ ks ++ (k ∷ [])
unfolding grown
grown_new ks k e = rw (e, grown)

-- what holds of a list, and goes on through a new key at its end, holds of the list when it has grown
module _ (P : List Key → Type 0) (more : (ks : List Key) (k : Key) → has_record k ks ≡ false → P ks → P (ks ++ (k ∷ []))) where
  pub grown_keeps : (ks : List Key) (k : Key) → P ks → P (grown ks k)
  grown_keeps ks k p = ⊎_elim (λ e. rw (grown_old ks k e) p) (λ e. rw (grown_new ks k e) (more ks k e p)) (decided (has_record k ks))

  pub grow_keeps : (ks new : List Key) → P ks → P (grow ks new)
  unfolding grow
  grow_keeps ks [] p = p
  grow_keeps ks (k ∷ new) p = grow_keeps (grown ks k) new (grown_keeps ks k p)

  pub insert_all_keeps : (ks new : List Key) → P ks → P (insert_all ks new)
  unfolding insert_all insert
  insert_all_keeps ks [] p = p
  insert_all_keeps ks (k ∷ new) p = insert_all_keeps (insert ks k) new (grow_keeps ks (steps_from k.field [] k.path) p)

-- the records that were there keep their numbers
module _ (i : ℕ) (k : Key) where
  pub grow_at : (ks new : List Key) → Stands ks i k → Stands (grow ks new) i k
  grow_at = grow_keeps (λ ks. Stands ks i k) (λ ks l e. stands_append ks (l ∷ []) i k)

  pub insert_all_at : (ks new : List Key) → Stands ks i k → Stands (insert_all ks new) i k
  insert_all_at = insert_all_keeps (λ ks. Stands ks i k) (λ ks l e. stands_append ks (l ∷ []) i k)

-- one key more
pub grown_has_record : (k : Key) (ks : List Key) (l : Key) → has_record k (grown ks l) ≡ (has_record k ks || same_key k l)
grown_has_record k ks l = ⊎_elim old new (decided (has_record l ks))
  where
    new : has_record l ks ≡ false → has_record k (grown ks l) ≡ (has_record k ks || same_key k l)
    new e = rw (grown_new ks l e) (unfold has_record any in any_append (same_key k) ks (l ∷ []) ∙ ap (λ t. has_record k ks || t) (or-false (same_key k l)))

    old : has_record l ks ≡ true → has_record k (grown ks l) ≡ (has_record k ks || same_key k l)
    old e =
        rw (grown_old ks l e)
        (⊎_elim
        (λ s. let h : has_record k ks ≡ true = rw (same_key_eq k l s) e in h ∙ sym (or_left (has_record k ks) (same_key k l) h))
        (λ s. rw s (sym (or-false (has_record k ks))))
        (decided (same_key k l)))

pub grow_has_record : (k : Key) (ks new : List Key) → has_record k (grow ks new) ≡ (has_record k ks || has_record k new)
unfolding grow has_record any
grow_has_record k ks [] = sym (or-false (has_record k ks))
grow_has_record k ks (l ∷ new) =
    grow_has_record k (grown ks l) new
    ∙ ap (λ t. t || has_record k new) (grown_has_record k ks l)
    ∙ or_assoc (has_record k ks) (same_key k l) (has_record k new)

-- ---- more keys behind

pub grow_append : (ks l m : List Key) → grow ks (l ++ m) ≡ grow (grow ks l) m
unfolding grow
grow_append ks [] m = refl
grow_append ks (k ∷ l) m = grow_append (grown ks k) l m

pub steps_append : (f : ℕ) (q p r : Path) → steps_from f q (p ++ r) ≡ steps_from f q p ++ steps_from f (q ++ p) r
unfolding steps_from
steps_append f q [] r = ap (λ (o : Path). steps_from f o r) (sym (append-nil q))
steps_append f q (c ∷ p) r =
    ap (λ (l : List Key). at f (q ++ (c ∷ [])) ∷ l)
    (steps_append f (q ++ (c ∷ [])) p r ∙ ap (λ (o : Path). steps_from f (q ++ (c ∷ [])) p ++ steps_from f o r) (append_assoc q (c ∷ []) p))

pub insert_all_append : (ks l m : List Key) → insert_all ks (l ++ m) ≡ insert_all (insert_all ks l) m
unfolding insert_all
insert_all_append ks [] m = refl
insert_all_append ks (k ∷ l) m = insert_all_append (insert ks k) l m

pub inserts_append : (n : ℕ) (rules more : List Rule) → inserts n (rules ++ more) ≡ inserts n rules ++ inserts n more
unfolding inserts
inserts_append n [] more = refl
inserts_append n (r ∷ rules) more =
    rw (inserts_append n rules more) (sym (append_assoc (rule_inserts 0 n r) (inserts n rules) (inserts n more)))

-- no record is taken back
module _ (ks : List Key) where
  no_fewer : (l : List Key) (k : Key) → has_record k l ≡ false → length ks ≤ length l → length ks ≤ length (l ++ (k ∷ []))
  no_fewer l k e h = omega (arith, length-append l (k ∷ []))

  pub grow_le : (new : List Key) → length ks ≤ length (grow ks new)
  grow_le new = grow_keeps (λ l. length ks ≤ length l) no_fewer ks new (le_refl _)

  pub insert_le : (k : Key) → length ks ≤ length (insert ks k)
  unfolding insert
  insert_le k = grow_le (steps_from k.field [] k.path)

  pub insert_all_le : (new : List Key) → length ks ≤ length (insert_all ks new)
  insert_all_le new = insert_all_keeps (λ l. length ks ≤ length l) no_fewer ks new (le_refl _)

-- ---- the roots

pub roots_at : (f n i : ℕ) → i < n → Stands (roots_from f n) i (at (f + i) [])
unfolding roots_from
roots_at f zero i h = absurd (omega arith)
roots_at f (suc n) zero h = record { inside = omega arith; there = ap (λ (x : ℕ). at x []) (sym (add-zero f)) }
roots_at f (suc n) (suc i) h =
    let e : suc f + i ≡ f + suc i = omega arith in
    stands_later (at f []) (roots_from (suc f) n) i (at (f + suc i) []) (rw e at (roots_at (suc f) n i (omega arith)))

-- record f is the root of field f
abbrev pub Rooted : ℕ → List Key → Type 0
Rooted n ks = (f : ℕ) → f < n → Stands ks f (at f [])

pub roots_rooted : (n : ℕ) → Rooted n (roots_from 0 n)
roots_rooted n f h = rw zero-add at (roots_at 0 n f h)

pub keys_root : (n : ℕ) (rules : List Rule) → Rooted n (keys n rules)
unfolding keys
keys_root n rules f h = insert_all_at f (at f []) (roots_from 0 n) (inserts n rules) (roots_rooted n f h)
