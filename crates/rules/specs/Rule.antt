-- What a rule means: in each field a span of values and the paths that lead them, and an action.
-- Assumes nothing.
use Rattle.std.specs.Prelude.{Bool, ◌&&◌, List, [], ◌∷◌, map, ℕ, ◌+◌, ◌-◌, ◌^◌, leb, get_or, Option}
use Rattle.bits.specs.Path.{Path, prefix}
use Rattle.rules.specs.declared.Action.{Action}
use Rattle.rules.specs.declared.fields.Field.{Field}
use Rattle.rules.specs.Field.{fields, value_in, length_in}
use Rattle.rules.specs.Action.{action_in}

-- all numbers from `low` to `high`
pub record Span : Type 0 where
  pub low : ℕ
  pub high : ℕ

unfoldable pub has : Span → ℕ → Bool
has s x = leb s.low x && leb x s.high

-- the values that a prefix v/l of w bits leads: its own bits, and any after them
unfoldable pub span_of : ℕ → ℕ → ℕ → Span
span_of w v l = record { low = v; high = v + (2 ^ (w - l) - 1) }

-- for each field its span, and the paths that it puts into the index
pub record Rule : Type 0 where
  pub spans : List Span
  pub paths : List (List Path)
  pub action : Option Action

-- a span that has no value: what stands past the last
abbrev pub nowhere : Span
nowhere = record { low = 1; high = 0 }

-- its span in field f
abbrev pub span_in : Rule → ℕ → Span
span_in r f = get_or r.spans f nowhere

-- the rule that a record of 24 bytes says: in each field one prefix
unfoldable pub rule_of : List ℕ → Rule
rule_of bytes = record {
  spans = map (λ (f : Field). span_of f.width (value_in bytes f) (length_in bytes f)) fields;
  paths = map (λ (f : Field). prefix f.width (value_in bytes f) (length_in bytes f) ∷ []) fields;
  action = action_in bytes;
}
