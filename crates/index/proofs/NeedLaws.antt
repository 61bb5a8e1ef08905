-- Laws of the count: one path more, one rule more, and what a rule with one path in each field adds.
-- Assumes nothing.
use mathlib.Core.Path.{◌≡◌, refl, sym, ap, ap₂, ◌∙◌}
use mathlib.Core.Logic.{◌⊎◌, inl, inr, ⊎_elim}
use mathlib.Core.Bool.{Bool, true, false, beq}
use mathlib.Core.List.{List, [], ◌∷◌, ◌++◌, map, append_assoc, append-nil, map-append}
use Prim.Native.Nat.{ℕ, zero, suc, ◌+◌, ◌-◌, ◌≤◌, ◌<◌, max}
use native.Mathlib.Nat.{zero-max, max-zero, add-zero, add_assoc, zero-add}
use native.Mathlib.Numerals.{add-one}
use native.Mathlib.Omega.{arith}
use lib.Dec.{eqb}
use lib.ListN.{length, take}
use lib.Seq.{take-suc, take_all}
use borrow.Author.Tests.{eq-eqb, ne_eqb}
use Rattle.bits.specs.Path.{Path, common}
use Rattle.bits.specs.Tests.{up_from}
use Rattle.bits.proofs.TestLaws.{equal}
use Rattle.bits.proofs.EachLaws.{up_snoc}
use Rattle.bits.proofs.PathLaws.{length_prefix}
use Rattle.rules.specs.Field.{field_at, length_in}
use Rattle.rules.specs.Rule.{Rule, rule_of}
use Rattle.rules.specs.Table.{rule_count, record_at, rules_of, SoundRule}
use Rattle.rules.specs.Match.{no_rule, rule_at}
use Rattle.rules.proofs.RuleLaws.{length_fits}
use Rattle.rules.proofs.MatchLaws.{rules_size, rules_at}
use Rattle.index.specs.Key.{Key, at}
use Rattle.index.specs.Keys.{rule_inserts, inserts}
use Rattle.index.specs.Need.{common_with, longest, fresh, records}
use Rattle.index.specs.Steps.{path_of}
use Rattle.index.proofs.GrownLaws.{inserts_append}

-- ---- one path more

pub longest_append : (k : Key) (l m : List Key) → longest k (l ++ m) ≡ max (longest k l) (longest k m)
unfolding longest
longest_append k [] m = sym (zero-max (longest k m))
longest_append k (x ∷ l) m = ap (max (common_with k x)) (longest_append k l m) ∙ omega arith

pub fresh_append : (earlier l m : List Key) → fresh earlier (l ++ m) ≡ fresh earlier l + fresh (earlier ++ l) m
unfolding fresh
fresh_append earlier [] m = ap (λ (e : List Key). fresh e m) (sym (append-nil earlier)) ∙ sym (zero-add (fresh (earlier ++ []) m))
fresh_append earlier (k ∷ l) m =
    ap (λ (n : ℕ). (length k.path - longest k earlier) + n)
    (fresh_append (earlier ++ (k ∷ [])) l m ∙ ap (λ (e : List Key). fresh (earlier ++ (k ∷ [])) l + fresh e m) (append_assoc earlier (k ∷ []) l))
    ∙ sym (add_assoc (length k.path - longest k earlier) (fresh (earlier ++ (k ∷ [])) l) (fresh (earlier ++ k ∷ l) m))

pub fresh_snoc : (earlier l : List Key) (k : Key) → fresh earlier (l ++ (k ∷ [])) ≡ fresh earlier l + (length k.path - longest k (earlier ++ l))
unfolding fresh
fresh_snoc earlier l k = fresh_append earlier l (k ∷ []) ∙ ap (λ (n : ℕ). fresh earlier l + n) (add-zero (length k.path - longest k (earlier ++ l)))

-- ---- one path in each field, from field j on

module _ (q : ℕ → Path) where
  abbrev pub one_each : ℕ → ℕ → List Key
  one_each j n = map (λ h. at h (q h)) (up_from j n)

  pub each_more : (n : ℕ) → one_each 0 (n + 1) ≡ one_each 0 n ++ (at n (q n) ∷ [])
  each_more n =
      ap (one_each 0) (add-one n) ∙ ap (map (λ h. at h (q h))) (up_snoc 0 n) ∙ map-append (λ h. at h (q h)) (up_from 0 n) ((0 + n) ∷ [])
      ∙ ap (λ (h : ℕ). one_each 0 n ++ (at h (q h) ∷ [])) (zero-add n)

  -- another field has nothing in common with these
  pub longest_other : (f : ℕ) (p : Path) (j n : ℕ) → (f < j) ⊎ (j + n ≤ f) → longest (at f p) (one_each j n) ≡ 0
  unfolding longest up_from
  longest_other f p j zero h = refl
  longest_other f p j (suc n) h =
      ap₂ max (apart (⊎_elim (λ x e. omega arith) (λ x e. omega arith) h)) (longest_other f p (suc j) n (⊎_elim (λ x. inl (omega arith)) (λ x. inr (omega arith)) h))
    where
      apart : (f ≡ j → ⊥) → common_with (at f p) (at j (q j)) ≡ 0
      apart ne = unfold common_with in rw (common_with, ne_eqb f j ne)

  -- and the same field its own path
  pub longest_own : (f : ℕ) (p : Path) (j n : ℕ) → j ≤ f → f < j + n → longest (at f p) (one_each j n) ≡ common p (q f)
  unfolding longest up_from
  longest_own f p j zero l h = absurd (omega arith)
  longest_own f p j (suc n) l h =
      ⊎_elim
      (λ (e : j ≡ f). ap₂ max (here e) (longest_other f p (suc j) n (inl (omega arith))) ∙ max-zero (common p (q f)))
      (λ (g : j < f). ap₂ max (apart (λ e. omega arith)) (longest_own f p (suc j) n g (omega arith)) ∙ zero-max (common p (q f)))
      (equal j f l)
    where
      here : j ≡ f → common_with (at f p) (at j (q j)) ≡ common p (q f)
      here e = unfold common_with in rw (common_with, eq-eqb f j (sym e)) (ap (λ (h : ℕ). common p (q h)) e)

      apart : (f ≡ j → ⊥) → common_with (at f p) (at j (q j)) ≡ 0
      apart ne = unfold common_with in rw (common_with, ne_eqb f j ne)

-- ---- a rule of one prefix in each field

pub rule_paths : (bytes : List ℕ) → rule_inserts 0 5 (rule_of bytes) ≡ one_each (path_of bytes) 0 5
unfolding rule_inserts rule_of path_of up_from
rule_paths bytes = refl

pub inserts_snoc : (rules : List Rule) (r : Rule) → inserts 5 (rules ++ (r ∷ [])) ≡ inserts 5 rules ++ rule_inserts 0 5 r
unfolding inserts
inserts_snoc rules r = inserts_append 5 rules (r ∷ []) ∙ ap (λ (l : List Key). inserts 5 rules ++ l) (append-nil (rule_inserts 0 5 r))

module _ (table : List ℕ) (i : ℕ) (inside : i < rule_count table) where
  abbrev before : List Key
  before = inserts 5 (take i (rules_of table))

  path : ℕ → Path
  path = path_of (record_at table i)

  pub rule_inserts_lem : rule_inserts 0 5 (rule_at (rules_of table) i) ≡ one_each (path_of (record_at table i)) 0 5
  rule_inserts_lem = ap (rule_inserts 0 5) (rules_at table i inside) ∙ rule_paths (record_at table i)

  pub inserts_more : inserts 5 (take (i + 1) (rules_of table)) ≡ before ++ rule_inserts 0 5 (rule_at (rules_of table) i)
  inserts_more =
      let size = rules_size table in
      ap (λ (n : ℕ). inserts 5 (take n (rules_of table))) (add-one i)
      ∙ ap (inserts 5) (take-suc (rules_of table) i no_rule (rw size inside))
      ∙ inserts_snoc (take i (rules_of table)) (rule_at (rules_of table) i)

  -- the longest of one rule more
  pub longest_more : (f : ℕ) (p : Path) → f < 5
      → max (longest (at f p) before) (common p (path_of (record_at table i) f)) ≡ longest (at f p) (inserts 5 (take (i + 1) (rules_of table)))
  longest_more f p h =
      ap (max (longest (at f p) before)) (sym (ap (longest (at f p)) rule_inserts_lem ∙ longest_own (path_of (record_at table i)) f p 0 5 (omega arith) (omega arith)))
      ∙ sym (longest_append (at f p) before (rule_inserts 0 5 (rule_at (rules_of table) i)))
      ∙ ap (longest (at f p)) (sym inserts_more)

  -- what one field more of a rule adds
  pub field_adds : (f : ℕ) → f < 5
      → fresh before (one_each (path_of (record_at table i)) 0 f) + (length (path_of (record_at table i) f) - longest (at f (path_of (record_at table i) f)) before)
      ≡ fresh before (one_each (path_of (record_at table i)) 0 (f + 1))
  field_adds f h =
      let q = path_of (record_at table i) in
      let others : longest (at f (q f)) (before ++ one_each q 0 f) ≡ longest (at f (q f)) before =
      longest_append (at f (q f)) before (one_each q 0 f)
      ∙ ap (max (longest (at f (q f)) before)) (longest_other q f (q f) 0 f (inr (omega arith)))
      ∙ max-zero (longest (at f (q f)) before)
      in
      ap (λ (n : ℕ). fresh before (one_each q 0 f) + (length (q f) - n)) (sym others)
      ∙ sym (fresh_snoc before (one_each q 0 f) (at f (q f)))
      ∙ ap (fresh before) (sym (each_more q f))

  -- and one rule more
  pub records_more : records 5 (take i (rules_of table)) + fresh before (rule_inserts 0 5 (rule_at (rules_of table) i)) ≡ records 5 (take (i + 1) (rules_of table))
  unfolding records
  records_more =
      add_assoc 5 (fresh [] before) (fresh before (rule_inserts 0 5 (rule_at (rules_of table) i)))
      ∙ ap (λ (n : ℕ). 5 + n) (sym (fresh_append [] before (rule_inserts 0 5 (rule_at (rules_of table) i))) ∙ ap (fresh []) (sym inserts_more))

pub records_none : (table : List ℕ) → records 5 (take 0 (rules_of table)) ≡ 5
unfolding records fresh inserts
records_none table = refl

pub records_all : (table : List ℕ) → records 5 (take (rule_count table) (rules_of table)) ≡ records 5 (rules_of table)
records_all table = ap (records 5) (take_all (rule_count table) (rules_of table) (omega (arith, rules_size table)))

-- ---- how long

pub length_path : (bytes : List ℕ) → SoundRule bytes → (f : ℕ) → f < 5 → length (path_of bytes f) ≡ length_in bytes (field_at f)
unfolding path_of
length_path bytes s f h = length_prefix (field_at f).width _ (length_in bytes (field_at f)) (length_fits bytes s.faultless f h)

pub common_le : (p q : Path) → common p q ≤ length p
unfolding common
common_le [] q = omega arith
common_le (a ∷ p) [] = omega arith
common_le (a ∷ p) (b ∷ q) = either (beq a b) (common_le p q)
  where
    either : (t : Bool) → common p q ≤ length p → (elim t as (λ _. ℕ) [ true ↦ suc (common p q) | false ↦ 0 ]) ≤ suc (length p)
    either true h = omega arith
    either false h = omega arith

pub longest_le : (k : Key) (l : List Key) → longest k l ≤ length k.path
unfolding longest
longest_le k [] = omega arith
longest_le k (x ∷ l) = omega (arith, one, longest_le k l)
  where
    either : (t : Bool) → (elim t as (λ _. ℕ) [ true ↦ common k.path x.path | false ↦ 0 ]) ≤ length k.path
    either true = common_le k.path x.path
    either false = omega arith

    one : common_with k x ≤ length k.path
    one = unfold common_with in either (eqb k.field x.field)
