-- Laws of the verdict: what is said of one rule from its tests, one rule more, and what an accepted table is.
-- Assumes nothing.
use mathlib.Core.Path.{◌≡◌, refl, sym, ap, ◌∙◌}
use mathlib.Core.Bool.{Bool, true, false, not, cond, true≢false}
use mathlib.Core.List.{List, [], ◌∷◌, head-eq_of_cons-eq}
use Rattle.std.specs.Prelude.{Option, None, Some}
use Prim.Native.Nat.{ℕ, ◌+◌, ◌*◌, ◌%◌, ◌≤◌, ◌<◌}
use native.Mathlib.Omega.{arith}
use lib.Dec.{eqb, ltb}
use lib.ListN.{length, take, drop, length-take, length-drop}
use borrow.Author.Tests.{eqb-true, eqb-false, ltb-false, not-true, not-false, eq-eqb, le-ltb}
use Rattle.bits.specs.Number.{number_at}
use Rattle.bits.specs.Tests.{all, lowest}
use Rattle.bits.proofs.NumberLaws.{number_nonzero}
use Rattle.bits.proofs.TestLaws.{and_trues, lowest_told, lowest_none, Told, Never}
use Rattle.rules.specs.declared.Action.{Action}
use Rattle.rules.specs.Action.{action_in, is_unknown}
use Rattle.rules.specs.Table.{record_size, most_rules, rule_count, record_at, long_prefix, stray_bit, unknown_action, spare_bytes, stray_port, rule_tests, first_failed, fault, rule_said, faulty, place_said, rules_said, verdict, Accepted, SoundRule}
use Rattle.rules.proofs.ActionLaws.{known}
use Rattle.rules.proofs.FirstFailed.{none_failed}

-- ---- one rule, by its tests in their order

module _ (place : ℕ) (bytes : List ℕ) where
  pub said_long : long_prefix bytes ≡ true → rule_said place bytes ≡ 3 ∷ place ∷ []
  unfolding rule_said fault first_failed rule_tests
  said_long e = rw e

  pub said_stray : long_prefix bytes ≡ false → stray_bit bytes ≡ true → rule_said place bytes ≡ 4 ∷ place ∷ []
  unfolding rule_said fault first_failed rule_tests
  said_stray e f = rw (e, f)

  pub said_unknown : long_prefix bytes ≡ false → stray_bit bytes ≡ false → action_in bytes ≡ None → rule_said place bytes ≡ 5 ∷ place ∷ []
  unfolding rule_said fault first_failed rule_tests unknown_action is_unknown
  said_unknown e f g = rw (e, f, g)

  module _ (a : Action) (short : long_prefix bytes ≡ false) (clean : stray_bit bytes ≡ false) (known : action_in bytes ≡ Some a) where
    pub said_spare : spare_bytes bytes ≡ true → rule_said place bytes ≡ 6 ∷ place ∷ []
    unfolding rule_said fault first_failed rule_tests unknown_action is_unknown
    said_spare h = rw (short, clean, known, h)

    -- the last test decides
    pub said_port : spare_bytes bytes ≡ false → (stray : Bool) → stray_port bytes ≡ stray → rule_said place bytes ≡ cond stray (14 ∷ place ∷ []) (0 ∷ [])
    unfolding rule_said fault first_failed rule_tests unknown_action is_unknown
    said_port h true k = rw (short, clean, known, h, k)
    said_port h false k = rw (short, clean, known, h, k)

-- ---- a faultless record passes each test

pub record Faultless (bytes : List ℕ) : Type 0 where
  pub short : long_prefix bytes ≡ false
  pub clean : stray_bit bytes ≡ false
  pub known : unknown_action bytes ≡ false
  pub spare : spare_bytes bytes ≡ false
  pub carried : stray_port bytes ≡ false

pub faultless : (bytes : List ℕ) → fault bytes ≡ 0 → Faultless bytes
unfolding fault rule_tests all
faultless bytes e =
    let a = and_trues _ _ (none_failed rule_tests bytes refl e) in
    let b = and_trues _ _ a.1 in
    let d = and_trues _ _ b.1 in
    let f = and_trues _ _ d.1 in
    let g = and_trues _ _ f.1 in
    record {
      short = not-true _ a.0;
      clean = not-true _ b.0;
      known = not-true _ d.0;
      spare = not-true _ f.0;
      carried = not-true _ g.0;
    }

-- so its action is known
pub sound_known : (bytes : List ℕ) → fault bytes ≡ 0 → (a : Action) × (action_in bytes ≡ Some a)
unfolding unknown_action
sound_known bytes e = known (action_in bytes) (faultless bytes e).known

pub never_unknown : (bytes : List ℕ) → fault bytes ≡ 0 → action_in bytes ≡ None → ⊥
unfolding unknown_action is_unknown
never_unknown bytes e u = true≢false (sym (ap is_unknown u) ∙ (faultless bytes e).known)

-- the four spare bytes as one number
pub spare_number : (bytes : List ℕ) → not (eqb (number_at bytes 20 4) 0) ≡ spare_bytes bytes
unfolding spare_bytes number_at
spare_number bytes = number_nonzero (take 4 (drop 20 bytes))

-- ---- a whole record

pub length_record : (table : List ℕ) (place : ℕ) → (place + 1) * record_size ≤ length table → length (record_at table place) ≡ record_size
unfolding record_at
length_record table place h = rw (length-take, length-drop) (omega arith)

-- ---- a rule at fault, by the test

pub faulty_fault : (table : List ℕ) (place : ℕ) → faulty table place ≡ true → eqb (fault (record_at table place)) 0 ≡ false
unfolding faulty
faulty_fault table place e = not-true (eqb (fault (record_at table place)) 0) e

pub clean_fault : (table : List ℕ) (place : ℕ) → faulty table place ≡ false → eqb (fault (record_at table place)) 0 ≡ true
unfolding faulty
clean_fault table place e = not-false (eqb (fault (record_at table place)) 0) e

-- ---- accepted tables

-- whole records, not too many, and none at fault
pub record SoundTable (table : List ℕ) : Type 0 where
  pub whole : length table % record_size ≡ 0
  pub few : rule_count table ≤ most_rules
  pub faultless : (place : ℕ) → place < rule_count table → fault (record_at table place) ≡ 0

rules_sound : (table : List ℕ) (n : ℕ) → rules_said table n ≡ 0 ∷ [] → (place : ℕ) → place < n → fault (record_at table place) ≡ 0
unfolding rules_said place_said rule_said
rules_sound table n e = go (lowest (faulty table) n) (lowest_told (faulty table) n) e
  where
    go : (o : Option ℕ) → Told (faulty table) n o → place_said table o ≡ 0 ∷ [] → (place : ℕ) → place < n → fault (record_at table place) ≡ 0
    go None t q place h = eqb-true _ _ (clean_fault table place (t place h))
    go (Some p) t q place h =
        let bad = faulty_fault table p t.passes in
        let said : fault (record_at table p) ∷ p ∷ [] ≡ 0 ∷ [] = rw bad at q in
        absurd (eqb-false (fault (record_at table p)) 0 bad (head-eq_of_cons-eq said))

pub accepted_sound : (table : List ℕ) → Accepted table → SoundTable table
unfolding verdict
accepted_sound table e = go (eqb (length table % record_size) 0) refl (ltb most_rules (rule_count table)) refl e
  where
    go : (w : Bool) → eqb (length table % record_size) 0 ≡ w → (m : Bool) → ltb most_rules (rule_count table) ≡ m
        → cond (not w) (1 ∷ []) (cond m (2 ∷ []) (rules_said table (rule_count table))) ≡ 0 ∷ [] → SoundTable table
    go false p m q r = absurd (omega (arith, head-eq_of_cons-eq r))
    go true p true q r = absurd (omega (arith, head-eq_of_cons-eq r))
    go true p false q r = record {
      whole = eqb-true _ _ p;
      few = ltb-false _ _ q;
      faultless = rules_sound table (rule_count table) r;
    }

-- each of its records is whole and not at fault
pub accepted_record : (table : List ℕ) → Accepted table → (place : ℕ) → place < rule_count table → SoundRule (record_at table place)
accepted_record table e place h = record {
  whole = length_record table place (omega arith);
  faultless = (accepted_sound table e).faultless place h;
}

pub sound_accepted : (table : List ℕ) → SoundTable table → Accepted table
unfolding verdict rules_said place_said
sound_accepted table s =
    let clean : Never (faulty table) (rule_count table) = λ p h. unfold faulty in ap not (eq-eqb (fault (record_at table p)) 0 (s.faultless p h)) in
    rw (eq-eqb (length table % record_size) 0 s.whole, le-ltb most_rules (rule_count table) s.few)
    (ap (place_said table) (lowest_none (faulty table) (rule_count table) clean))
