-- The number of records is the number of fields, and each path's length less the longest leading part that it has in common with an earlier one.
-- Assumes nothing.
use mathlib.Core.Path.{◌≡◌, refl, sym, ap, ap₂, ◌∙◌}
use mathlib.Core.Logic.{⊎_elim}
use mathlib.Core.Bool.{Bool, true, false, ◌&&◌, ◌||◌, or-false}
use mathlib.Core.List.{List, [], ◌∷◌, ◌++◌}
use Prim.Native.Nat.{ℕ, zero, suc, ◌+◌, ◌-◌, max}
use native.Mathlib.Nat.{add-zero, add_assoc}
use native.Mathlib.Omega.{arith}
use lib.Dec.{eqb, leb, leb-suc-zero}
use lib.ListN.{length, length-append}
use lib.Seq.{append_snoc}
use borrow.Author.Tests.{leb-true, leb-false, le-leb}
use Rattle.bits.specs.Path.{Path, leads, common}
use Rattle.bits.specs.Tests.{any}
use Rattle.bits.proofs.TestLaws.{decided, same_test}
use Rattle.bits.proofs.ListLaws.{or_left, any_append}
use Rattle.bits.proofs.SamePathLaws.{leads_cons, leads_append, leads_common}
use Rattle.rules.specs.Rule.{Rule}
use Rattle.index.specs.Key.{Key, at, has_record}
use Rattle.index.specs.Keys.{grown, grow, steps_from, insert, insert_all, inserts, roots_from, keys}
use Rattle.index.specs.Need.{common_with, longest, fresh, records}
use Rattle.index.proofs.KeyLaws.{beyond, further, same_key_ne, longer}
use Rattle.index.proofs.GrownLaws.{grown_old, grown_new, grown_has_record}
use Rattle.index.proofs.ReachLaws.{Below, below_beyond, through, insert_all_has_record, roots_has_record}

-- ---- an earlier path goes through a leading part exactly when that is no longer than the longest common one

leb_max : (a b c : ℕ) → leb a (max b c) ≡ (leb a b || leb a c)
leb_max a b c =
    ⊎_elim
    (λ e. le-leb a (max b c) (omega (arith, leb-true a b e)) ∙ sym (or_left (leb a b) (leb a c) e))
    (λ e.
    rw e
    (same_test (leb a (max b c)) (leb a c)
    (λ h. le-leb a c (omega (arith, leb-false a b e, leb-true a (max b c) h)))
    (λ h. le-leb a (max b c) (omega (arith, leb-true a c h)))))
    (decided (leb a b))

module _ (k : Key) (b : Bool) (r : Path) (part : leads (b ∷ r) k.path ≡ true) where
  through_common : (l : Key) → through (at k.field (b ∷ r)) l ≡ leb (suc (length r)) (common_with k l)
  unfolding common_with
  through_common l = lies_in_field (eqb k.field l.field)
    where
      lies_in_field : (t : Bool) → (t && leads (b ∷ r) l.path) ≡ leb (suc (length r)) (elim t [ true ↦ common k.path l.path | false ↦ 0 ])
      lies_in_field true = leads_common (b ∷ r) k.path l.path part
      lies_in_field false = rw leb-suc-zero

  through_longest : (earlier : List Key) → any (through (at k.field (b ∷ r))) earlier ≡ leb (suc (length r)) (longest k earlier)
  unfolding longest any
  through_longest [] = rw leb-suc-zero
  through_longest (l ∷ ls) =
      ap₂ (λ s t. s || t) (through_common l) (through_longest ls) ∙ sym (leb_max (suc (length r)) (common_with k l) (longest k ls))

-- ---- what growing along a path adds

-- of the steps from k on along p the first d have records, and no others
abbrev Along : Key → Path → ℕ → List Key → Type 0
Along k p d ks = (b : Bool) (r : Path) → leads (b ∷ r) p ≡ true → has_record (beyond k (b ∷ r)) ks ≡ leb (suc (length r)) d

leb_less : (n d : ℕ) → leb (suc (suc n)) d ≡ leb (suc n) (d - 1)
leb_less n d =
    same_test (leb (suc (suc n)) d) (leb (suc n) (d - 1))
    (λ e. le-leb (suc n) (d - 1) (omega (arith, leb-true (suc (suc n)) d e)))
    (λ e. le-leb (suc (suc n)) d (omega (arith, leb-true (suc n) (d - 1) e)))

module _ (k : Key) (b : Bool) (p : Path) (d : ℕ) (ks : List Key) (along : Along k (b ∷ p) d ks) where
  -- the first step's record is none of a later step
  along_later : Along (further k b) p (d - 1) (grown ks (further k b))
  along_later c r h =
      grown_has_record (beyond (further k b) (c ∷ r)) ks (further k b)
      ∙ rw (same_key_ne (beyond (further k b) (c ∷ r)) (further k b) (longer (further k b) c r), append_snoc k.path b (c ∷ r))
      (or-false (has_record (beyond k (b ∷ c ∷ r)) ks) ∙ along b (c ∷ r) (leads_cons b (c ∷ r) p ∙ h) ∙ leb_less (length r) d)

  first_length : length (grown ks (further k b)) + (length p - (d - 1)) ≡ length ks + (suc (length p) - d)
  first_length =
      let first : has_record (further k b) ks ≡ leb 1 d = along b [] (leads_append (b ∷ []) p) in
      ⊎_elim
      (λ e. rw (grown_old ks (further k b) (first ∙ e)) (omega (arith, leb-true 1 d e)))
      (λ e. rw (grown_new ks (further k b) (first ∙ e)) (omega (arith, leb-false 1 d e, length-append ks (further k b ∷ []))))
      (decided (leb 1 d))

-- the other steps get one each
grow_length : (k : Key) (p : Path) (d : ℕ) (ks : List Key) → Along k p d ks
    → length (grow ks (steps_from k.field k.path p)) ≡ length ks + (length p - d)
unfolding grow steps_from
grow_length k [] d ks along = omega arith
grow_length k (b ∷ p) d ks along =
    grow_length (further k b) p (d - 1) (grown ks (further k b)) (along_later k b p d ks along) ∙ first_length k b p d ks along

-- ---- all that are put in

-- below the roots, the list has a record exactly where one of the paths put in goes through
abbrev pub Made : List Key → List Key → Type 0
Made ks earlier = (k : Key) → Below k → has_record k ks ≡ any (through k) earlier

pub roots_made : (n : ℕ) → Made (roots_from 0 n) []
unfolding any
roots_made n k below = roots_has_record k below 0 n

pub insert_all_made : (ks earlier new : List Key) → Made ks earlier → Made (insert_all ks new) (earlier ++ new)
insert_all_made ks earlier new made k below =
    insert_all_has_record k below ks new ∙ ap (λ t. t || any (through k) new) (made k below) ∙ sym (any_append (through k) earlier new)

pub insert_made : (ks earlier : List Key) (k : Key) → Made ks earlier → Made (insert ks k) (earlier ++ (k ∷ []))
unfolding insert_all
insert_made ks earlier k = insert_all_made ks earlier (k ∷ [])

pub insert_length : (ks earlier : List Key) (k : Key) → Made ks earlier → length (insert ks k) ≡ length ks + (length k.path - longest k earlier)
unfolding insert
insert_length ks earlier k made =
    let root = at k.field [] in
    grow_length root k.path (longest k earlier) ks
    (λ b r part. made (beyond root (b ∷ r)) (below_beyond root b r) ∙ through_longest k b r part earlier)

pub insert_all_length : (ks earlier new : List Key) → Made ks earlier → length (insert_all ks new) ≡ length ks + fresh earlier new
unfolding insert_all fresh
insert_all_length ks earlier [] made = sym (add-zero (length ks))
insert_all_length ks earlier (k ∷ new) made =
    insert_all_length (insert ks k) (earlier ++ (k ∷ [])) new (insert_made ks earlier k made)
    ∙ rw (insert_length ks earlier k made) (add_assoc (length ks) (length k.path - longest k earlier) (fresh (earlier ++ (k ∷ [])) new))

pub length_roots : (f n : ℕ) → length (roots_from f n) ≡ n
unfolding roots_from
length_roots f zero = refl
length_roots f (suc n) = ap suc (length_roots (suc f) n)

-- the records of the index are as many as 01 says are needed
pub records_law : (n : ℕ) (rules : List Rule) → length (keys n rules) ≡ records n rules
unfolding keys records
records_law n rules =
    insert_all_length (roots_from 0 n) [] (inserts n rules) (roots_made n) ∙ ap (λ (x : ℕ). x + fresh [] (inserts n rules)) (length_roots 0 n)
