-- What lookup says where it names a place, over any area at all: a match with the action of the table's record there, or 5 where that record
-- has none. The place depends on the area, the header and the table's length alone.
-- Assumes nothing.
use Rattle.rules.specs.Refusal.{told}
use Rattle.rules.specs.declared.Refusal.{Refusal}
use Rattle.lookup.specs.declared.Answer.{Answer}
use mathlib.Core.Path.{◌≡◌, refl, sym, ap, subst, ◌∙◌}
use mathlib.Core.Logic.{◌⊎◌, inl, inr, ⊎_elim}
use mathlib.Core.Bool.{Bool, true, false, not, cond}
use mathlib.Core.List.{List, [], ◌∷◌, head-eq_of_cons-eq}
use Rattle.std.specs.Prelude.{Option, None, Some, Result, Ok}
use Prim.Native.Nat.{ℕ, ◌/◌, ◌%◌, ◌<◌}
use native.Mathlib.Omega.{arith}
use lib.Dec.{eqb, ltb}
use lib.ListN.{length, get_or}
use borrow.Author.Tests.{ltb-true, lt-ltb}
use Rattle.rules.specs.declared.Action.{Action}
use Rattle.rules.specs.Action.{action_in}
use Rattle.rules.specs.Table.{record_size, most_rules, rule_count, record_at}
use Rattle.rules.specs.Header.{header_size, header_values}
use Rattle.area.specs.Shape.{desk_shape}
use Rattle.lookup.specs.declared.Outcome.TheVariants.{Match}
use Rattle.lookup.specs.Said.{match_said, no_match_said}
use Rattle.lookup.specs.Scan as scan
use Rattle.lookup.specs.Look.{header_keys, widths, lookup_steps, found_said, steps_said, least_words, look_said}
use Rattle.lookup.specs.InCode.{outcome_said, looked_said}
use Rattle.lookup.proofs.LookLaws.{look_steps, said_no_action}
use Rattle.lookup.proofs.LookedLaws.{looked_one, match_one}

-- ---- a place is named

-- what is said is a match, or 5
abbrev Names : List ℕ → Type 0
Names says = (get_or says 0 0 ≡ 5) ⊎ ((get_or says 0 0 ≡ 0) × (get_or says 2 0 ≡ 1))

-- another number that carries nothing does not
other_names : (n : ℕ) {says : List ℕ} → (n ≡ 5 → ⊥) → (n ≡ 0 → ⊥) → n ∷ [] ≡ says → Names says → ⊥
other_names n five zero e names =
    let here = ap (λ (l : List ℕ). get_or l 0 0) e in
    ⊎_elim (λ q. five (here ∙ q)) (λ q. zero (here ∙ q.0)) names

module _ (table area header : List ℕ) where
  abbrev steps : Option scan.Found
  steps = lookup_steps desk_shape area (header_keys widths (header_values header))

  -- the tests before the steps pass
  pub record Passed : Type 0 where
    pub right : eqb (length header) header_size ≡ true
    pub whole : eqb (length table % record_size) 0 ≡ true
    pub few : ltb most_rules (rule_count table) ≡ false
    pub enough : ltb (length area) least_words ≡ false

  -- and the steps find a place of the table
  pub record Resolved (says : List ℕ) : Type 0 where
    pub passed : Passed
    pub place : ℕ
    pub falses : ℕ
    pub found : steps ≡ Some (scan.found (Some place) falses)
    pub inside : ltb place (rule_count table) ≡ true
    pub is : match_said falses place (action_in (record_at table place)) ≡ says

  module _ (says : List ℕ) (names : Names says) where
    found_resolved : Passed → (falses k : ℕ) → steps ≡ Some (scan.found (Some k) falses) → (b : Bool) → ltb k (rule_count table) ≡ b
        → cond b (match_said falses k (action_in (record_at table k))) (9 ∷ []) ≡ says → Resolved says
    found_resolved passed falses k t false inside e = absurd (other_names 9 (λ n. omega arith) (λ n. omega arith) e names)
    found_resolved passed falses k t true inside e = record { passed = passed; place = k; falses = falses; found = t; inside = inside; is = e }

    steps_resolved : Passed → (o : Option scan.Found) → steps ≡ o → steps_said table o ≡ says → Resolved says
    unfolding steps_said found_said
    steps_resolved passed None t e = absurd (other_names 9 (λ n. omega arith) (λ n. omega arith) e names)
    steps_resolved passed (Some x) t e = go x.place refl e
      where
        go : (o : Option ℕ) → x.place ≡ o
            → (elim o as (λ _. List ℕ) [
              | None ↦ no_match_said x.falses
              | Some p ↦ cond (ltb p (rule_count table)) (match_said x.falses p (action_in (record_at table p))) (9 ∷ [])
            ]) ≡ says → Resolved says
        go None z q =
            unfold no_match_said in
            absurd (⊎_elim (λ n. omega (arith, ap (λ (l : List ℕ). get_or l 0 0) q, n)) (λ n. omega (arith, ap (λ (l : List ℕ). get_or l 2 0) q, n.1)) names)
        go (Some k) z q =
            found_resolved passed x.falses k (t ∙ ap (λ (o : Option ℕ). Some (scan.found o x.falses)) z) (ltb k (rule_count table)) refl q

    resolved : look_said table area header ≡ says → Resolved says
    unfolding look_said
    resolved =
        go (eqb (length header) header_size) refl (eqb (length table % record_size) 0) refl (ltb most_rules (rule_count table)) refl (ltb (length area) least_words) refl
      where
        go : (a : Bool) → eqb (length header) header_size ≡ a → (b : Bool) → eqb (length table % record_size) 0 ≡ b
            → (c : Bool) → ltb most_rules (rule_count table) ≡ c → (d : Bool) → ltb (length area) least_words ≡ d
            → cond (not a) (8 ∷ []) (cond (not b) (1 ∷ []) (cond c (2 ∷ []) (cond d (9 ∷ []) (steps_said table steps)))) ≡ says → Resolved says
        go false p b q c r d s e = absurd (other_names 8 (λ n. omega arith) (λ n. omega arith) e names)
        go true p false q c r d s e = absurd (other_names 1 (λ n. omega arith) (λ n. omega arith) e names)
        go true p true q true r d s e = absurd (other_names 2 (λ n. omega arith) (λ n. omega arith) e names)
        go true p true q false r true s e = absurd (other_names 9 (λ n. omega arith) (λ n. omega arith) e names)
        go true p true q false r false s e = steps_resolved (record { right = p; whole = q; few = r; enough = s }) steps refl e

-- ---- a match

abbrev matched : ℕ → ℕ → Action → Result Answer Refusal
matched falses place action = Ok (record { falses = falses; outcome = Match place action })

-- its place, and the action of the record there
record Carried (table area header : List ℕ) (place : ℕ) (action : Action) : Type 0 where
  falses : ℕ
  passed : Passed table area header
  found : steps table area header ≡ Some (scan.found (Some place) falses)
  inside : place < rule_count table
  known : action_in (record_at table place) ≡ Some action

carried : (table area header : List ℕ) (falses place : ℕ) (action : Action) → look_said table area header ≡ looked_said (matched falses place action)
    → Carried table area header place action
unfolding told outcome_said
carried table area header falses place action e = go (resolved table area header (looked_said (matched falses place action)) (inr (refl, refl)) e)
  where
    go : Resolved table area header (looked_said (matched falses place action)) → Carried table area header place action
    go r = by (action_in (record_at table r.place)) refl r.is
      where
        by : (d : Option Action) → action_in (record_at table r.place) ≡ d → match_said r.falses r.place d ≡ looked_said (matched falses place action)
            → Carried table area header place action
        by None q s = unfold match_said in absurd (omega (arith, head-eq_of_cons-eq s))
        by (Some a) q s =
            let same = match_one (looked_one (matched r.falses r.place a) (matched falses place action) (unfold match_said in s)) in
            record {
              falses = r.falses;
              passed = r.passed;
              found = r.found ∙ ap (λ (k : ℕ). Some (scan.found (Some k) r.falses)) same.0;
              inside = omega (arith, same.0, ltb-true r.place (rule_count table) r.inside);
              known = ap (λ (k : ℕ). action_in (record_at table k)) (sym same.0) ∙ q ∙ ap Some same.1;
            }

pub look_carries : (table area header : List ℕ) (falses place : ℕ) (action : Action) → look_said table area header ≡ looked_said (matched falses place action)
    → (place < rule_count table) × (action_in (record_at table place) ≡ Some action)
look_carries table area header falses place action e = let c = carried table area header falses place action e in (c.inside, c.known)

-- ---- 5

pub look_unknown : (table area header : List ℕ) (place : ℕ) → look_said table area header ≡ 5 ∷ place ∷ []
    → (place < rule_count table) × (action_in (record_at table place) ≡ None)
look_unknown table area header place e = go (resolved table area header (5 ∷ place ∷ []) (inl refl) e)
  where
    go : Resolved table area header (5 ∷ place ∷ []) → (place < rule_count table) × (action_in (record_at table place) ≡ None)
    go r = by (action_in (record_at table r.place)) refl r.is
      where
        by : (d : Option Action) → action_in (record_at table r.place) ≡ d → match_said r.falses r.place d ≡ 5 ∷ place ∷ []
            → (place < rule_count table) × (action_in (record_at table place) ≡ None)
        by (Some a) q s = unfold match_said in absurd (omega (arith, head-eq_of_cons-eq s))
        by None q s =
            let same : r.place ≡ place = unfold match_said in ap (λ (l : List ℕ). get_or l 1 0) s in
            (omega (arith, same, ltb-true r.place (rule_count table) r.inside), ap (λ (k : ℕ). action_in (record_at table k)) (sym same) ∙ q)

-- a table as long as another gets the other's place
pub unknown_there : (table other area header : List ℕ) (falses place : ℕ) (action : Action) → length other ≡ length table
    → look_said other area header ≡ looked_said (matched falses place action) → action_in (record_at table place) ≡ None
    → look_said table area header ≡ 5 ∷ place ∷ []
unfolding steps_said
unknown_there table other area header falses place action size e none_there =
    let c = carried other area header falses place action e in
    look_steps table area header c.passed.right (subst (λ (n : ℕ). eqb (n % record_size) 0 ≡ true) size c.passed.whole)
    (subst (λ (n : ℕ). ltb most_rules (n / record_size) ≡ false) size c.passed.few) c.passed.enough
    ∙ ap (steps_said table) c.found
    ∙ said_no_action table c.falses place (lt-ltb place (rule_count table) (omega (arith, c.inside, size))) none_there
