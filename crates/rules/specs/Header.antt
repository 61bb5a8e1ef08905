-- A packet header: 13 bytes, the five values in the order and widths of a record.
-- Assumes nothing.
use Rattle.std.specs.Prelude.{cond, ℕ, ◌/◌, eqb, length}
use mathlib.Core.List.{List, [], ◌∷◌, map, zip_with, flatten}
use Rattle.bits.specs.Number.{bytes_of}
use Rattle.rules.specs.declared.fields.Field.{Field}
use Rattle.rules.specs.Field.{fields, value_in}

abbrev pub header_size : ℕ
header_size = 13

-- a header's values, one for each field
unfoldable pub header_values : List ℕ → List ℕ
header_values header = map (value_in header) fields

-- a header's bytes from its values: each at its field's width, "in the same order and widths"
unfoldable pub header_bytes : List ℕ → List ℕ
header_bytes values = flatten (zip_with (λ (f : Field) v. bytes_of (f.width / 8) v) fields values)

-- what is said of a header: its values, or 8, "header not 13 bytes"
unfoldable pub header_said : List ℕ → List ℕ
header_said header = cond (eqb (length header) header_size) (0 ∷ header_values header) (8 ∷ [])
