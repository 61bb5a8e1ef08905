-- Demand 2 through the calls: over an index that build left, unchanged since, lookup answers the lowest rule that fits, with its action,
-- or none exactly when none fits, and the false blocks that table and header fix.
-- Assumes nothing.
use Rattle.std.proofs.lemmas.Option.{none-some}
use Rattle.rules.specs.Refusal.{told}
use Rattle.rules.specs.declared.Refusal.{Refusal}
use mathlib.Core.Path.{◌≡◌, refl, sym, ap, subst, ◌∙◌}
use mathlib.Core.Logic.{◌↔◌}
use mathlib.Core.Bool.{false}
use mathlib.Core.List.{List}
use Rattle.std.specs.Prelude.{unwrap_or, Option, None, Some, Result, Ok}
use Rattle.std.specs.Option.{option_map}
use Prim.Native.Nat.{ℕ, ◌≤◌, ◌<◌}
use native.Mathlib.Omega.{arith}
use lib.ListN.{length, take}
use Rattle.bits.proofs.TestLaws.{Never, Told, refuted, clash}
use Rattle.rules.specs.declared.Action.{Action}
use Rattle.rules.specs.Action.{action_in}
use Rattle.rules.specs.Rule.{Rule, rule_of}
use Rattle.rules.specs.Table.{rule_count, record_at, rules_of}
use Rattle.rules.specs.Header.{header_values}
use Rattle.rules.specs.Match.{matches, rule_at, first_match, false_blocks}
use Rattle.rules.proofs.ActionLaws.{known_one}
use Rattle.rules.proofs.MatchLaws.{matches_at, First, match_told, first_match_lem, no_match, rules_size, rules_at}
use Rattle.overlap.specs.Judge.{answer_of}
use Rattle.area.specs.Shape.{blocks, desk_shape}
use Rattle.index.specs.Image.{image}
use Rattle.lookup.specs.declared.Answer.{Answer}
use Rattle.lookup.specs.declared.Outcome.{Outcome}
use Rattle.lookup.specs.declared.Outcome.TheVariants.{NoMatch, Match}
use Rattle.lookup.specs.Answer.{answer_said}
use Rattle.lookup.specs.InCode.{outcome_said, looked_said}
use Rattle.lookup.proofs.LookedLaws.{looked_one, match_one, match_some}
use Rattle.lookup.proofs.Demand2.{look_answer, answer_none, answer_match, answer_few}
use Rattle.desk.specs.BuildCall.{words_needed}
use Rattle.desk.specs.LookCall.{Looks}
use Rattle.desk.specs.Terms.{IsHeader, IsTable, Fits, NoneFits, Wins, IsIndex, Matched, Gets, Unmatched}
use Rattle.desk.proofs.TermLaws.{fits_at}
use Rattle.desk.proofs.BuildLaws.{built_words, built_image}

-- an index starts with the image of its table
pub index_image : {table area : List ℕ} → IsIndex table area → take (words_needed table) area ≡ image desk_shape (rules_of table)
index_image {table} {area} x =
    let words = built_words x.built in
    ap (λ (n : ℕ). take n area) (sym words) ∙ x.unchanged ∙ ap (λ (n : ℕ). take n x.left) words ∙ (built_image x.built).1

-- no match carries no action
pub none_no_action : {r : Result Answer Refusal} {action : Action} → Unmatched r → Gets r action → ⊥
none_no_action u g = match_some (sym g.1.1 ∙ u.1)

-- ---- what lookup answers

module _ {table area header : List ℕ} {r : Result Answer Refusal} (t : IsTable table) (x : IsIndex table area) (h : IsHeader header) (l : Looks table area header r) where
  abbrev rules : List Rule
  rules = rules_of table

  abbrev values : List ℕ
  values = header_values header

  abbrev falses : ℕ
  falses = false_blocks 32 blocks rules values

  abbrev answer : Outcome → Result Answer Refusal
  answer o = Ok (record { falses = falses; outcome = o })

  says : looked_said r ≡ answer_said table header
  says = l.answer ∙ look_answer table t.bytes t.accepted header h.bytes h.size area (index_image x)

  -- what the first match is decides the answer
  abbrev Decides : Option ℕ → Type 0
  Decides None = r ≡ answer NoMatch
  Decides (Some place) = (action : Action) × (action_in (record_at table place) ≡ Some action) × (r ≡ answer (Match place action))

  -- the action of the rule at a place that matches first is its record's
  acts : (place : ℕ) → First rules values place → (rule_at rules place).action ≡ action_in (record_at table place)
  unfolding rule_of
  acts place low = ap (λ (x : Rule). x.action) (rules_at table place (omega (arith, low.below, rules_size table)))

  decides : (o : Option ℕ) → Told (matches_at rules values) (length rules) o → first_match rules values ≡ o → Decides o
  unfolding told outcome_said
  decides None tells e = looked_one r (answer NoMatch) (says ∙ answer_none table t.accepted header e)
  decides (Some place) tells e =
      let m = answer_match table t.accepted header place e in
      (m.0, sym (acts place tells) ∙ m.1, looked_one r (answer (Match place m.0)) (says ∙ m.2))

  -- what the first match is, in the words of the promises
  inside : (place : ℕ) → place < length rules → place < rule_count table
  inside place below = omega (arith, rules_size table)

  not_fits : (place : ℕ) → place < rule_count table → matches values (rule_at rules place) ≡ false → Fits header (record_at table place) → ⊥
  not_fits place below e f = clash ((fits_at t below h).0 f) e

  first_wins : (place : ℕ) (action : Action) → First rules values place → action_in (record_at table place) ≡ Some action → Wins table header place action
  first_wins place action low carries =
      let below = inside place low.below in
      record {
        inside = below;
        fits = (fits_at t below h).1 low.passes;
        carries = carries;
        lowest = λ j q. not_fits j (omega arith) (low.first j q);
      }

  wins_first : (place : ℕ) (action : Action) → Wins table header place action → First rules values place
  wins_first place action w = record {
    below = omega (arith, rules_size table, w.inside);
    passes = (fits_at t w.inside h).0 w.fits;
    first = λ j q.
        let below : j < rule_count table = omega (arith, w.inside) in
        refuted (matches_at rules values j) (λ e. w.lowest j q ((fits_at t below h).1 e));
  }

  pub lookup_match : (place : ℕ) (action : Action) → Matched r place action ↔ Wins table header place action
  lookup_match place action = (go (first_match rules values) (match_told rules values) refl, back)
    where
      go : (o : Option ℕ) → Told (matches_at rules values) (length rules) o → first_match rules values ≡ o → Matched r place action → Wins table header place action
      go None tells e m = absurd (match_some (sym m.1 ∙ decides None tells e))
      go (Some p) tells e m =
          let d = decides (Some p) tells e in
          let same = match_one (sym m.1 ∙ d.2) in
          first_wins place action (subst (λ (k : ℕ). First rules values k) (sym same.0) tells)
          (ap (λ (k : ℕ). action_in (record_at table k)) same.0 ∙ d.1 ∙ ap Some (sym same.1))

      back : Wins table header place action → Matched r place action
      back w =
          let low = wins_first place action w in
          let d = decides (Some place) low (first_match_lem rules values place low) in
          (falses, d.2 ∙ ap (λ (a : Action). answer (Match place a)) (known_one (sym d.1 ∙ w.carries)))

  pub lookup_none : Unmatched r ↔ NoneFits table header
  lookup_none = (go (first_match rules values) (match_told rules values) refl, back)
    where
      go : (o : Option ℕ) → Told (matches_at rules values) (length rules) o → first_match rules values ≡ o → Unmatched r → NoneFits table header
      go None tells e u = λ place below. not_fits place below (tells place (omega (arith, rules_size table)))
      go (Some p) tells e u = absurd (match_some (sym (decides (Some p) tells e).2 ∙ u.1))

      back : NoneFits table header → Unmatched r
      back none-fits =
          let never : Never (matches_at rules values) (length rules) =
          λ j q. refuted (matches_at rules values j) (λ e. none-fits j (inside j q) ((fits_at t (inside j q) h).1 e))
          in
          (falses, decides None never (no_match rules values never))

  pub unmatched_no_action : {action : Action} → NoneFits table header → Gets r action → ⊥
  unmatched_no_action none-fits g = none_no_action (lookup_none.1 none-fits) g

  pub lookup_found : (a : Answer) × (r ≡ Ok a) × (a.falses ≡ falses) × (a.falses ≤ blocks)
  lookup_found = go (first_match rules values) (match_told rules values) refl
    where
      few : falses ≤ blocks
      few = answer_few table t.accepted header

      go : (o : Option ℕ) → Told (matches_at rules values) (length rules) o → first_match rules values ≡ o
          → (a : Answer) × (r ≡ Ok a) × (a.falses ≡ falses) × (a.falses ≤ blocks)
      go None tells e = (record { falses = falses; outcome = NoMatch }, decides None tells e, refl, few)
      go (Some p) tells e =
          let d = decides (Some p) tells e in
          (record { falses = falses; outcome = Match p d.0 }, d.2, refl, few)

  -- ---- the action that is answered is that of the first match

  pub gets_answer : (action : Action) → Gets r action ↔ (answer_of rules values ≡ Some (Some action))
  unfolding answer_of
  gets_answer action = go (first_match rules values) (match_told rules values) refl
    where
      go : (o : Option ℕ) → Told (matches_at rules values) (length rules) o → first_match rules values ≡ o
          → Gets r action ↔ (option_map (λ place. (rule_at rules place).action) o ≡ Some (Some action))
      go None tells e = (
        λ g. absurd (match_some (sym g.1.1 ∙ decides None tells e)),
        λ q. absurd (none-some (Some action) q),
      )
      go (Some p) tells e =
          let d = decides (Some p) tells e in
          let here = acts p tells ∙ d.1 in (
            λ g. ap Some (here ∙ ap Some (match_one (sym d.2 ∙ g.1.1)).1),
            λ q. (p, (falses, d.2 ∙ ap (λ (a : Action). answer (Match p a)) (known_one (sym here ∙ ap (λ (o : Option (Option Action)). unwrap_or o None) q)))),
          )

  pub unmatched_answer : Unmatched r ↔ (answer_of rules values ≡ None)
  unfolding answer_of
  unmatched_answer = go (first_match rules values) (match_told rules values) refl
    where
      go : (o : Option ℕ) → Told (matches_at rules values) (length rules) o → first_match rules values ≡ o
          → Unmatched r ↔ (option_map (λ place. (rule_at rules place).action) o ≡ None)
      go None tells e = (λ u. refl, λ q. (falses, decides None tells e))
      go (Some p) tells e = (λ u. absurd (match_some (sym (decides (Some p) tells e).2 ∙ u.1)), λ q. absurd (none-some _ (sym q)))
