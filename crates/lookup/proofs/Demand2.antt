-- Lookup over an area that holds the index of an accepted table: what the steps say is what table and header fix, a match with its known
-- action or none, and at most 8 false blocks.
-- Assumes nothing.
use mathlib.Core.Path.{◌≡◌, refl, sym, ap, ap₂, ◌∙◌, fun_ext}
use mathlib.Core.Bool.{Bool, false, not, ◌&&◌}
use mathlib.Core.List.{List, [], ◌∷◌, map}
use Rattle.std.specs.Prelude.{Option, None, Some}
use Prim.Native.Nat.{ℕ, ◌*◌, ◌/◌, ◌%◌, ◌≤◌, ◌<◌}
use native.Mathlib.Nat.{div-lt_iff_lt-mul}
use native.Mathlib.Omega.{arith}
use lib.ListN.{length, take, length-map}
use borrow.Author.Tests.{eq-eqb, le-ltb, lt-ltb}
use Rattle.bits.specs.Number.{Bytes}
use Rattle.bits.specs.Tests.{any, all, up_from, lowest, count}
use Rattle.bits.proofs.TestLaws.{Lowest, Told, count_le, lowest_agree}
use Rattle.bits.proofs.ListLaws.{all_map}
use Rattle.bits.proofs.EachLaws.{get_d_map, all_agree}
use Rattle.rules.specs.declared.Action.{Action}
use Rattle.rules.specs.Rule.{Rule, rule_of}
use Rattle.rules.specs.Table.{record_size, most_rules, rule_count, record_at, rules_of, Accepted}
use Rattle.rules.specs.Header.{header_size, header_values}
use Rattle.rules.specs.Match.{matches, no_rule, rule_at, first_match, matches_in, block_of, deceives, blocks_before, false_blocks}
use Rattle.rules.proofs.TableLaws.{accepted_sound, sound_known}
use Rattle.rules.proofs.MatchLaws.{match_told, rules_size, rules_at}
use Rattle.area.specs.Shape.{blocks, desk_shape}
use Rattle.index.specs.Key.{Key, hit}
use Rattle.index.specs.Image.{image}
use Rattle.index.specs.Need.{need}
use Rattle.index.proofs.GrownLaws.{keys_root}
use Rattle.lookup.specs.Said.{action_values, match_said, no_match_said}
use Rattle.lookup.specs.Answer.{winner_said, rules_answer, answer_said}
use Rattle.lookup.specs.Scan.{found}
use Rattle.lookup.specs.Look.{header_keys, widths, lookup_steps, found_said, steps_said, least_words, look_said}
use Rattle.lookup.proofs.ScanLaws.{chunk, passes, winner}
use Rattle.lookup.proofs.ShapeLaws.{desk_lawful}
use Rattle.lookup.proofs.WalkLaws.{image_indexed}
use Rattle.lookup.proofs.HeldLaws.{hit_all, misleads, keys_found, chunk_any, steps_image}
use Rattle.lookup.proofs.MatchLaws.{key_in, keys_in, keys_within, hits_in, hits_match}
use Rattle.lookup.proofs.LookLaws.{said_none, said_match, look_steps}

-- ---- the lowest of the rules

pub winner_map : (t : Rule → Bool) (rules : List Rule) → winner (map t rules) ≡ lowest (λ place. t (rule_at rules place)) (length rules)
winner_map t rules =
    ap (lowest (passes (map t rules))) (length-map rules t)
    ∙ lowest_agree (passes (map t rules)) (λ place. t (rule_at rules place)) (length rules) (λ j h. get_d_map t rules j false no_rule h)

pub winner_first : (rules : List Rule) (values : List ℕ) → winner (map (matches values) rules) ≡ first_match rules values
unfolding first_match
winner_first rules values = winner_map (matches values) rules

-- ---- the false blocks are at most the blocks

before_le : (size blocks : ℕ) (rules : List Rule) (values : List ℕ) → 0 < size → length rules ≤ blocks * size
    → blocks_before size blocks (first_match rules values) ≤ blocks
unfolding blocks_before
before_le size blocks rules values pos fits = go (first_match rules values) (match_told rules values)
  where
    go : (o : Option ℕ) → Told (λ place. matches values (rule_at rules place)) (length rules) o → blocks_before size blocks o ≤ blocks
    go None t = omega arith
    go (Some place) t =
        let h : place / size < blocks = (div-lt_iff_lt-mul pos).1 (omega (arith, t.below)) in
        omega arith

pub falses_le : (size blocks : ℕ) (rules : List Rule) (values : List ℕ) → 0 < size → length rules ≤ blocks * size → false_blocks size blocks rules values ≤ blocks
unfolding false_blocks
falses_le size blocks rules values pos fits =
    omega (arith, before_le size blocks rules values pos fits, count_le (λ b. deceives values (block_of size rules b)) (blocks_before size blocks (first_match rules values)))

-- ---- an accepted table and a header: the steps over the index

module _ (table : List ℕ) (b : Bytes table) (sound : Accepted table) (header : List ℕ) (c : Bytes header) (right : length header ≡ header_size) where
  abbrev rules : List Rule
  rules = rules_of table

  abbrev values : List ℕ
  values = header_values header

  abbrev ks : List Key
  ks = header_keys widths values

  -- a block misleads the keys exactly when it deceives
  block_same : (n : ℕ) → misleads ks (block_of 32 rules n) ≡ deceives values (block_of 32 rules n)
  unfolding misleads deceives
  block_same n = ap₂ (λ x y. x && not y) each none_of
    where
      one : (t u : Rule → Bool) → map t rules ≡ map u rules → any t (block_of 32 rules n) ≡ any u (block_of 32 rules n)
      one t u e = sym (chunk_any t 32 n rules) ∙ ap (λ m. any (λ x. x) (chunk 32 m n)) e ∙ chunk_any u 32 n rules

      each : all (λ k. any (hit k) (block_of 32 rules n)) ks ≡ all (λ f. any (matches_in values f) (block_of 32 rules n)) (up_from 0 (length values))
      each =
          ap (all (λ k. any (hit k) (block_of 32 rules n))) (keys_in header)
          ∙ all_map (λ k. any (hit k) (block_of 32 rules n)) (key_in values) (up_from 0 5)
          ∙ all_agree (λ f. any (hit (key_in values f)) (block_of 32 rules n)) (λ f. any (matches_in values f) (block_of 32 rules n)) 0 5
          (λ f h. one (hit (key_in values f)) (matches_in values f) (hits_in table b sound header c right f (omega arith)))
          ∙ unfold header_values in refl

      none_of : any (hit_all ks) (block_of 32 rules n) ≡ any (matches values) (block_of 32 rules n)
      none_of = one (hit_all ks) (matches values) (hits_match table b sound header c right)

  -- what is found of the keys is what the rules fix
  found_same : keys_found desk_shape rules ks ≡ found (first_match rules values) (false_blocks 32 blocks rules values)
  unfolding false_blocks
  found_same =
      ap (λ w. found w (count (λ n. misleads ks (block_of 32 rules n)) (blocks_before 32 blocks w)))
      (ap winner (hits_match table b sound header c right) ∙ winner_first rules values)
      ∙ ap (λ (t : ℕ → Bool). found (first_match rules values) (count t (blocks_before 32 blocks (first_match rules values)))) (fun_ext block_same)

  module _ (area : List ℕ) (held : take (need desk_shape rules) area ≡ image desk_shape rules) where
    steps_found : lookup_steps desk_shape area ks ≡ Some (found (first_match rules values) (false_blocks 32 blocks rules values))
    unfolding up_from
    steps_found =
        ap (lookup_steps desk_shape area) (keys_in header)
        ∙ steps_image desk_shape desk_lawful rules (need desk_shape rules) area held (key_in values 0) (map (key_in values) (up_from 1 4)) (keys_within values)
        (omega (arith, rules_size table, (accepted_sound table sound).few))
        ∙ ap Some (ap (keys_found desk_shape rules) (sym (keys_in header)) ∙ found_same)

    enough : least_words ≤ length area
    enough = omega (arith, (keys_root 5 rules 4 (omega arith)).inside, (image_indexed desk_shape desk_lawful.sized rules (need desk_shape rules) area held).room)

    -- what is said of what was found is what is said of the winner
    said_same : (o : Option ℕ) → Told (λ place. matches values (rule_at rules place)) (length rules) o → (falses : ℕ)
        → found_said table (found o falses) ≡ winner_said rules falses o
    unfolding winner_said no_match_said rule_of
    said_same None t falses = said_none table falses
    said_same (Some place) t falses =
        let inside : place < rule_count table = omega (arith, t.below, rules_size table) in
        said_match table falses place (lt-ltb place (rule_count table) inside)
        ∙ ap (λ (r : Rule). match_said falses place r.action) (sym (rules_at table place inside))

    -- over the index of an accepted table, unchanged, the steps say what table and header fix
    pub look_answer : look_said table area header ≡ answer_said table header
    unfolding steps_said answer_said rules_answer
    look_answer =
        let s = accepted_sound table sound in
        look_steps table area header (eq-eqb (length header) header_size right) (eq-eqb (length table % record_size) 0 s.whole)
        (le-ltb most_rules (rule_count table) s.few) (le-ltb (length area) least_words enough)
        ∙ ap (steps_said table) steps_found
        ∙ said_same (first_match rules values) (match_told rules values) (false_blocks 32 blocks rules values)

-- ---- the answer is done

-- the action of an accepted table's rule is known
rule_known : (table : List ℕ) → Accepted table → (place : ℕ) → place < rule_count table → (a : Action) × ((rule_at (rules_of table) place).action ≡ Some a)
unfolding rule_of
rule_known table sound place h = rw (rules_at table place h) (sound_known (record_at table place) ((accepted_sound table sound).faultless place h))

module _ (table : List ℕ) (sound : Accepted table) (header : List ℕ) where
  -- the number of false blocks
  abbrev falses : ℕ
  falses = false_blocks 32 blocks (rules_of table) (header_values header)

  -- no rule matches
  pub answer_none : first_match (rules_of table) (header_values header) ≡ None → answer_said table header ≡ 0 ∷ falses ∷ 0 ∷ []
  unfolding answer_said rules_answer winner_said no_match_said
  answer_none e = ap (winner_said (rules_of table) falses) e

  -- the rule at a place wins, and its action is known
  pub answer_match : (place : ℕ) → first_match (rules_of table) (header_values header) ≡ Some place
      → (a : Action) × ((rule_at (rules_of table) place).action ≡ Some a) × (answer_said table header ≡ 0 ∷ falses ∷ 1 ∷ place ∷ action_values a)
  unfolding answer_said rules_answer winner_said match_said
  answer_match place e =
      let low : Lowest (λ place. matches (header_values header) (rule_at (rules_of table) place)) (length (rules_of table)) place =
      rw e at (match_told (rules_of table) (header_values header)) in
      let act = rule_known table sound place (omega (arith, low.below, rules_size table)) in
      (act.0, act.1, ap (winner_said (rules_of table) falses) e ∙ ap (match_said falses place) act.1)

  -- the false blocks are at most 8
  pub answer_few : falses ≤ blocks
  answer_few = falses_le 32 blocks (rules_of table) (header_values header) (omega arith) (omega (arith, rules_size table, (accepted_sound table sound).few))
