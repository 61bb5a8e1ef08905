-- The exact reasons of lookup: 8, 1 and 2 in their order, and 9 for an area without its five roots.
-- Assumes nothing.
use Rattle.rules.specs.declared.Action.{Action}
use Rattle.lookup.specs.declared.Answer.{Answer}
use mathlib.Core.Path.{◌≡◌, refl, sym, ap, ◌∙◌}
use mathlib.Core.Logic.{◌↔◌, inl, inr, ⊎_elim}
use mathlib.Core.Bool.{true, not, cond}
use mathlib.Core.List.{List, [], ◌∷◌}
use Rattle.std.specs.Prelude.{Option, None, Some, Result, Err}
use Prim.Native.Nat.{ℕ, ◌%◌, ◌≤◌, ◌<◌}
use native.Mathlib.Omega.{arith}
use lib.Dec.{eqb, ltb}
use lib.ListN.{length, get_or}
use borrow.Author.Tests.{eq-eqb, ne_eqb, lt-ltb, le-ltb}
use Rattle.bits.proofs.TestLaws.{less}
use Rattle.bits.proofs.ListLaws.{alike}
use Rattle.rules.specs.declared.Refusal.{Refusal}
use Rattle.rules.specs.declared.Refusal.TheVariants.{RaggedTable, TooManyRules, NotAHeader, DamagedArea}
use Rattle.rules.specs.Action.{action_in}
use Rattle.rules.specs.Refusal.{told, said}
use Rattle.rules.specs.Header.{header_size, header_values}
use Rattle.rules.specs.Table.{record_size, most_rules, rule_count, record_at}
use Rattle.area.specs.Shape.{desk_shape}
use Rattle.lookup.specs.Said.{match_said, no_match_said}
use Rattle.lookup.specs.Scan as scan
use Rattle.lookup.specs.Look.{header_keys, widths, lookup_steps, found_said, steps_said, least_words, look_said}
use Rattle.lookup.specs.InCode.{looked_said}
use Rattle.lookup.proofs.LookLaws.{look_header, look_ragged, look_many, look_short}
use Rattle.lookup.proofs.LookedLaws.{looked_one}
use Rattle.desk.specs.LookCall.{Looks}
use Rattle.desk.proofs.SaidNumbers.{NotSaid, either_never}
use Rattle.desk.proofs.Reasons.{exactly}

-- ---- the steps say 0, 5 or 9, and no other number

module _ (n : ℕ) (zero : n ≡ 0 → ⊥) (five : n ≡ 5 → ⊥) (nine : n ≡ 9 → ⊥) where
  match_never : (falses place : ℕ) (d : Option Action) → NotSaid n (match_said falses place d)
  unfolding match_said
  match_never falses place (Some a) = λ e. zero (sym e)
  match_never falses place None = λ e. five (sym e)

  steps_never : (table : List ℕ) (o : Option scan.Found) → NotSaid n (steps_said table o)
  unfolding steps_said found_said
  steps_never table None = λ e. nine (sym e)
  steps_never table (Some x) = go x.place
    where
      go : (o : Option ℕ) → NotSaid n (elim o as (λ _. List ℕ) [
        | None ↦ no_match_said x.falses
        | Some p ↦ cond (ltb p (rule_count table)) (match_said x.falses p (action_in (record_at table p))) (9 ∷ [])
      ])
      go None = unfold no_match_said in λ e. zero (sym e)
      go (Some p) =
          either_never n (ltb p (rule_count table)) (match_said x.falses p (action_in (record_at table p))) (9 ∷ [])
          (match_never x.falses p (action_in (record_at table p))) (λ e. nine (sym e))

-- ---- what is said after each test

module _ {table area header : List ℕ} {r : Result Answer Refusal} (l : Looks table area header r) where
  abbrev past_area : List ℕ
  past_area = steps_said table (lookup_steps desk_shape area (header_keys widths (header_values header)))

  abbrev past_many : List ℕ
  past_many = cond (ltb (length area) least_words) (9 ∷ []) past_area

  abbrev past_whole : List ℕ
  past_whole = cond (ltb most_rules (rule_count table)) (2 ∷ []) past_many

  abbrev past_header : List ℕ
  past_header = cond (not (eqb (length table % record_size) 0)) (1 ∷ []) past_whole

  many_never : (n : ℕ) → (n ≡ 0 → ⊥) → (n ≡ 5 → ⊥) → (n ≡ 9 → ⊥) → NotSaid n past_many
  many_never n zero five nine =
      either_never n (ltb (length area) least_words) (9 ∷ []) past_area (λ e. nine (sym e))
      (steps_never n zero five nine table (lookup_steps desk_shape area (header_keys widths (header_values header))))

  -- a refusal that is said is answered, and the other way round
  answers : (why : Refusal) → look_said table area header ≡ said why → r ≡ Err why
  unfolding told
  answers why e = looked_one r (Err why) (l.answer ∙ e)

  not_answers : (why : Refusal) (says : List ℕ) → look_said table area header ≡ says → NotSaid (get_or (said why) 0 0) says → r ≡ Err why → ⊥
  unfolding told
  not_answers why says same never e = never (ap (λ (v : List ℕ). get_or v 0 0) (sym same ∙ sym l.answer ∙ ap looked_said e))

  pub lookup_no_header : (r ≡ Err NotAHeader) ↔ (length header ≡ header_size → ⊥)
  unfolding said look_said
  lookup_no_header =
      exactly (⊎_elim inr inl (alike (length header) header_size))
      (λ wrong. answers NotAHeader (look_header table area header (ne_eqb (length header) header_size wrong)))
      (λ right. not_answers NotAHeader past_header (rw (eq-eqb (length header) header_size right) refl)
      (either_never 8 (not (eqb (length table % record_size) 0)) (1 ∷ []) past_whole (λ x. omega arith)
      (either_never 8 (ltb most_rules (rule_count table)) (2 ∷ []) past_many (λ x. omega arith)
      (many_never 8 (λ x. omega arith) (λ x. omega arith) (λ x. omega arith)))))

  module _ (right : length header ≡ header_size) where
    is_header : eqb (length header) header_size ≡ true
    is_header = eq-eqb (length header) header_size right

    pub lookup_ragged : (r ≡ Err RaggedTable) ↔ (length table % record_size ≡ 0 → ⊥)
    unfolding said look_said
    lookup_ragged =
        exactly (⊎_elim inr inl (alike (length table % record_size) 0))
        (λ ragged. answers RaggedTable (look_ragged table area header is_header (ne_eqb (length table % record_size) 0 ragged)))
        (λ whole. not_answers RaggedTable past_whole (rw (is_header, eq-eqb (length table % record_size) 0 whole) refl)
        (either_never 1 (ltb most_rules (rule_count table)) (2 ∷ []) past_many (λ x. omega arith)
        (many_never 1 (λ x. omega arith) (λ x. omega arith) (λ x. omega arith))))

    module _ (whole : length table % record_size ≡ 0) where
      is_whole : eqb (length table % record_size) 0 ≡ true
      is_whole = eq-eqb (length table % record_size) 0 whole

      pub lookup_many : (r ≡ Err TooManyRules) ↔ (most_rules < rule_count table)
      unfolding said look_said
      lookup_many =
          exactly (less most_rules (rule_count table))
          (λ many. answers TooManyRules (look_many table area header is_header is_whole (lt-ltb most_rules (rule_count table) many)))
          (λ few. not_answers TooManyRules past_many (rw (is_header, is_whole, le-ltb most_rules (rule_count table) few) refl)
          (many_never 2 (λ x. omega arith) (λ x. omega arith) (λ x. omega arith)))

      pub lookup_short : rule_count table ≤ most_rules → length area < least_words → r ≡ Err DamagedArea
      unfolding said
      lookup_short few short =
          answers DamagedArea
          (look_short table area header is_header is_whole (le-ltb most_rules (rule_count table) few) (lt-ltb (length area) least_words short))
