-- What the inner loops of sizing and writing do, for their contracts. No public statement cites these: proofs/BuildLaws.antt joins them
-- to the image.
-- Assumes nothing.
use Rattle.std.specs.Prelude.{List, ℕ, ◌*◌, ◌<◌}
use Rattle.bits.specs.Path.{Path, prefix}
use Rattle.rules.specs.Field.{field_at, value_in, length_in}
use Rattle.rules.specs.Table.{rule_count, record_at, SoundRule}
use Rattle.area.specs.Shape.{record_words}
use Rattle.area.specs.Upto.{upto}
use Rattle.area.specs.Grow.{zeroed, State, mk, inserted}

-- a table whose rules are all sound
pub record AllSound (table : List ℕ) : Type 0 where
  pub each : (place : ℕ) → place < rule_count table → SoundRule (record_at table place)

-- the path that a rule puts into field f
unfoldable pub path_of : List ℕ → ℕ → Path
path_of bytes f = prefix (field_at f).width (value_in bytes (field_at f)) (length_in bytes (field_at f))

-- rule i's prefix of field f goes in
unfoldable pub field_in : List ℕ → ℕ → ℕ → State → State
field_in bytes i f s =
    let t = inserted (field_at f).width (value_in bytes (field_at f)) (length_in bytes (field_at f)) i (mk s.area f s.next) in
    mk t.area 0 t.next

-- rule i's five prefixes go in
unfoldable pub rule_in : List ℕ → ℕ → State → State
rule_in bytes i s = upto (field_in bytes i) 5 s

-- the first n rules go in
unfoldable pub rules_in : List ℕ → ℕ → State → State
rules_in table n s = upto (λ i. rule_in (record_at table i) i) n s

-- five roots, cleared, in an area whatever it held
unfoldable pub cleared : List ℕ → State
cleared a = mk (zeroed 0 (5 * record_words) a) 0 5

-- all rules go into an area whose five roots are cleared
unfoldable pub all_in : List ℕ → List ℕ → State
all_in table a = rules_in table (rule_count table) (cleared a)
