-- What lookup says, case by case in its order.
-- Assumes nothing.
use mathlib.Core.Path.{◌≡◌, refl}
use mathlib.Core.Bool.{true, false}
use mathlib.Core.List.{List, [], ◌∷◌}
use Rattle.std.specs.Prelude.{None, Some}
use Prim.Native.Nat.{ℕ, ◌%◌}
use lib.Dec.{eqb, ltb}
use lib.ListN.{length}
use Rattle.rules.specs.declared.Action.{Action}
use Rattle.rules.specs.Action.{action_in}
use Rattle.rules.specs.Table.{record_size, most_rules, rule_count, record_at}
use Rattle.rules.specs.Header.{header_size, header_values}
use Rattle.area.specs.Shape.{desk_shape}
use Rattle.lookup.specs.Said.{action_values, match_said, no_match_said}
use Rattle.lookup.specs.Scan.{found}
use Rattle.lookup.specs.Look.{header_keys, widths, lookup_steps, found_said, steps_said, least_words, look_said}

-- ---- what was found

module _ (table : List ℕ) (falses : ℕ) where
  pub said_none : found_said table (found None falses) ≡ 0 ∷ falses ∷ 0 ∷ []
  unfolding found_said no_match_said
  said_none = refl

  module _ (place : ℕ) where
    pub said_far : ltb place (rule_count table) ≡ false → found_said table (found (Some place) falses) ≡ 9 ∷ []
    unfolding found_said
    said_far e = rw e

    pub said_match : ltb place (rule_count table) ≡ true → found_said table (found (Some place) falses) ≡ match_said falses place (action_in (record_at table place))
    unfolding found_said
    said_match e = rw e

    pub said_no_action : ltb place (rule_count table) ≡ true → action_in (record_at table place) ≡ None → found_said table (found (Some place) falses) ≡ 5 ∷ place ∷ []
    unfolding found_said match_said
    said_no_action e f = rw (e, f)

    pub said_known : (a : Action) → ltb place (rule_count table) ≡ true → action_in (record_at table place) ≡ Some a
        → found_said table (found (Some place) falses) ≡ 0 ∷ falses ∷ 1 ∷ place ∷ action_values a
    unfolding found_said match_said
    said_known a e f = rw (e, f)

-- ---- what is tested before

module _ (table area header : List ℕ) where
  pub look_header : eqb (length header) header_size ≡ false → look_said table area header ≡ 8 ∷ []
  unfolding look_said
  look_header e = rw e

  module _ (right : eqb (length header) header_size ≡ true) where
    pub look_ragged : eqb (length table % record_size) 0 ≡ false → look_said table area header ≡ 1 ∷ []
    unfolding look_said
    look_ragged e = rw (right, e)

    module _ (whole : eqb (length table % record_size) 0 ≡ true) where
      pub look_many : ltb most_rules (rule_count table) ≡ true → look_said table area header ≡ 2 ∷ []
      unfolding look_said
      look_many e = rw (right, whole, e)

      module _ (few : ltb most_rules (rule_count table) ≡ false) where
        pub look_short : ltb (length area) least_words ≡ true → look_said table area header ≡ 9 ∷ []
        unfolding look_said
        look_short e = rw (right, whole, few, e)

        -- and then the steps
        pub look_steps : ltb (length area) least_words ≡ false
            → look_said table area header ≡ steps_said table (lookup_steps desk_shape area (header_keys widths (header_values header)))
        unfolding look_said
        look_steps e = rw (right, whole, few, e)
