-- There is a record for a path exactly when some rule's path goes through it; and where no record goes on, no rule's path does.
-- Assumes nothing.
use mathlib.Core.Path.{◌≡◌, refl, sym, ap, ap₂, ◌∙◌}
use mathlib.Core.Logic.{⊎_elim}
use mathlib.Core.Bool.{Bool, true, false, not, ◌&&◌, ◌||◌, or-false, or_assoc, and-true, and-false, and-not_self}
use mathlib.Core.List.{List, [], ◌∷◌, ◌++◌, map, append-nil}
use Prim.Native.Nat.{ℕ, zero, suc, ◌+◌, ◌≤◌, ◌<◌, zero-le}
use native.Mathlib.Omega.{arith}
use lib.Dec.{eqb}
use lib.Seq.{append_snoc}
use borrow.Author.Tests.{eq-eqb, ne_eqb}
use Rattle.bits.specs.Path.{Path, leads, same_path}
use Rattle.bits.specs.Tests.{any}
use Rattle.bits.proofs.TestLaws.{equal}
use Rattle.bits.proofs.ListLaws.{any_append, any_and, any_map, map_none, any_same}
use Rattle.bits.proofs.SamePathLaws.{same_path_eq, leads_append, leads_longer, leads_root, leads_snoc, leads_stop}
use Rattle.rules.specs.Rule.{Rule}
use Rattle.index.specs.Key.{Key, at, same_key, has_record, paths_in, hit}
use Rattle.index.specs.Keys.{steps_from, insert, insert_all, rule_inserts, inserts, roots_from, keys}
use Rattle.index.proofs.KeyLaws.{beyond, further}
use Rattle.index.proofs.GrownLaws.{grow_has_record}

-- ---- a record stands for each nonempty leading part of a path that was put in, and for no other

-- the key lies below its field's root
abbrev pub Below : Key → Type 0
Below k = leads k.path [] ≡ false

pub below_beyond : (k : Key) (b : Bool) (r : Path) → Below (beyond k (b ∷ r))
unfolding leads
below_beyond k b r = goes_on k.path
  where
    goes_on : (q : Path) → leads (q ++ b ∷ r) [] ≡ false
    goes_on [] = refl
    goes_on (a ∷ q) = refl

-- the path that l puts in goes through k
abbrev pub through : Key → Key → Bool
through k l = eqb k.field l.field && leads k.path l.path

-- what is equal to the next step leads on and does not lead back: so it can be told apart from the later steps
one_step : (s on back : Bool) → (s ≡ true → on ≡ true) → (s ≡ true → back ≡ false) → (s || (on && not (back || s))) ≡ (on && not back)
one_step true on back f g = sym (ap₂ (λ x y. x && not y) (f refl) (g refl))
one_step false on back f g = ap (λ t. on && not t) (or-false back)

-- the steps from q on along p are the leading parts of q ++ p that do not lead q
steps_from_lem : (f g : ℕ) (x q p : Path) → has_record (at f x) (steps_from g q p) ≡ (eqb f g && (leads x (q ++ p) && not (leads x q)))
unfolding has_record any steps_from same_key
steps_from_lem f g x q [] = rw (append-nil q, and-not_self (leads x q), and-false (eqb f g))
steps_from_lem f g x q (b ∷ p) =
    ap (λ t. (eqb f g && same_path x next) || t) (steps_from_lem f g x next p)
    ∙ rw (leads_snoc x q b, append_snoc q b p)
    (lies_in_field (eqb f g) (same_path x next) (leads x (q ++ b ∷ p) && not (leads x q || same_path x next)) (leads x (q ++ b ∷ p) && not (leads x q))
    (one_step (same_path x next) (leads x (q ++ b ∷ p)) (leads x q)
    (λ e. rw (same_path_eq x next e, ← append_snoc q b p) (leads_append next p))
    (λ e. rw (same_path_eq x next e) (leads_longer q b []))))
  where
    next : Path
    next = q ++ (b ∷ [])

    lies_in_field : (t here later both : Bool) → (here || later) ≡ both → ((t && here) || (t && later)) ≡ (t && both)
    lies_in_field true here later both e = e
    lies_in_field false here later both e = refl

module _ (k : Key) (below : Below k) where
  pub steps_has_record : (l : Key) → has_record k (steps_from l.field [] l.path) ≡ through k l
  steps_has_record l = steps_from_lem k.field l.field k.path [] l.path ∙ rw (below, and-true (leads k.path l.path))

  pub insert_has_record : (ks : List Key) (l : Key) → has_record k (insert ks l) ≡ (has_record k ks || through k l)
  unfolding insert
  insert_has_record ks l = grow_has_record k ks (steps_from l.field [] l.path) ∙ ap (λ t. has_record k ks || t) (steps_has_record l)

  pub insert_all_has_record : (ks new : List Key) → has_record k (insert_all ks new) ≡ (has_record k ks || any (through k) new)
  unfolding insert_all any
  insert_all_has_record ks [] = sym (or-false (has_record k ks))
  insert_all_has_record ks (l ∷ new) =
      insert_all_has_record (insert ks l) new
      ∙ ap (λ t. t || any (through k) new) (insert_has_record ks l)
      ∙ or_assoc (has_record k ks) (through k l) (any (through k) new)

  pub roots_has_record : (g n : ℕ) → has_record k (roots_from g n) ≡ false
  unfolding roots_from has_record any same_key
  roots_has_record g zero = refl
  roots_has_record g (suc n) = rw (← leads_root k.path, below, and-false (eqb k.field g)) (roots_has_record (suc g) n)

  pub keys_through : (n : ℕ) (rules : List Rule) → has_record k (keys n rules) ≡ any (through k) (inserts n rules)
  unfolding keys
  keys_through n rules =
      insert_all_has_record (roots_from 0 n) (inserts n rules) ∙ ap (λ t. t || any (through k) (inserts n rules)) (roots_has_record 0 n)

-- ---- of what a rule puts in, a test of one field's keys asks that field's paths alone

module _ (f : ℕ) (test : Path → Bool) where
  abbrev pub passes : Key → Bool
  passes l = eqb f l.field && test l.path

  rule_step : (r : Rule) (g n : ℕ) → any passes (rule_inserts g (suc n) r) ≡ ((eqb f g && any test (paths_in r g)) || any passes (rule_inserts (suc g) n r))
  unfolding rule_inserts
  rule_step r g n =
      any_append passes (map (at g) (paths_in r g)) (rule_inserts (suc g) n r)
      ∙ ap (λ t. t || any passes (rule_inserts (suc g) n r)) (any_map passes (at g) (paths_in r g) ∙ any_and (eqb f g) test (paths_in r g))

  rule_past : (r : Rule) (g n : ℕ) → f < g → any passes (rule_inserts g n r) ≡ false
  unfolding rule_inserts any
  rule_past r g zero h = refl
  rule_past r g (suc n) h = rule_step r g n ∙ rw (ne_eqb f g (λ e. omega arith)) (rule_past r (suc g) n (omega arith))

  pub rule_passes : (r : Rule) (g n : ℕ) → g ≤ f → f < g + n → any passes (rule_inserts g n r) ≡ any test (paths_in r f)
  rule_passes r g zero l h = absurd (omega arith)
  rule_passes r g (suc n) l h =
      rule_step r g n
      ∙ ⊎_elim
      (λ (e : g ≡ f). rw (e, eq-eqb f f refl, rule_past r (suc f) n (omega arith)) (or-false (any test (paths_in r f))))
      (λ (s : g < f). rw (ne_eqb f g (λ e. omega arith)) (rule_passes r (suc g) n s (omega arith)))
      (equal g f l)

-- some path of some rule goes through the key
abbrev pub reached : Key → List Rule → Bool
reached k rules = any (λ (r : Rule). any (leads k.path) (paths_in r k.field)) rules

inserts_through : (k : Key) (n : ℕ) (rules : List Rule) → k.field < n → any (through k) (inserts n rules) ≡ reached k rules
unfolding inserts any
inserts_through k n [] h = refl
inserts_through k n (r ∷ rules) h =
    any_append (through k) (rule_inserts 0 n r) (inserts n rules)
    ∙ ap₂ (λ s t. s || t) (rule_passes k.field (leads k.path) r 0 n zero-le (omega arith)) (inserts_through k n rules h)

-- ---- the records of an index

-- there is a record below a root exactly when some rule's path goes through it
pub keys_has_record : (k : Key) → Below k → (n : ℕ) (rules : List Rule) → k.field < n → has_record k (keys n rules) ≡ reached k rules
keys_has_record k below n rules h = keys_through k below n rules ∙ inserts_through k n rules h

-- where no record goes on from k by b, no rule's path does
pub keys_absent : (k : Key) (b : Bool) (n : ℕ) (rules : List Rule) → k.field < n
    → has_record (further k b) (keys n rules) ≡ false → reached (further k b) rules ≡ false
keys_absent k b n rules h e = sym (keys_has_record (further k b) (below_beyond k b []) n rules h) ∙ e

-- and then the rules that are hit at k are those that are hit anywhere beyond b
pub hits_stop : (k : Key) (b : Bool) (r : Path) (rules : List Rule) → reached (further k b) rules ≡ false
    → map (hit k) rules ≡ map (hit (beyond k (b ∷ r))) rules
unfolding hit
hits_stop k b r =
    let q = k.path in
    map_none (λ (s : Rule). any (leads (q ++ (b ∷ []))) (paths_in s k.field)) (hit k) (hit (beyond k (b ∷ r)))
    (λ s. any_same (leads (q ++ (b ∷ []))) (λ p. leads p q) (λ p. leads p (q ++ b ∷ r)) (λ p. leads_stop q p b r) (paths_in s k.field))
