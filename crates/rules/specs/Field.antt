-- The five fields of a rule and of a header (01: "The rule record and the header record").
-- Assumes nothing.
use Rattle.std.specs.Prelude.{List, [], ◌∷◌, ℕ, ◌/◌, get_or}
use Rattle.rules.specs.declared.fields.Field.{Field}
use Rattle.bits.specs.Number.{number_at}

-- a field: the byte at which its value starts, in a record and in a header alike; the bits of its value, and so the largest length of its
-- prefix; and the byte of a record that holds the length of its prefix
abbrev field : ℕ → ℕ → ℕ → Field
field s w l = record { start = s; width = w; length_at = l }

-- source address, destination address, source port, destination port, protocol
abbrev pub fields : List Field
fields = field 0 32 13 ∷ field 4 32 14 ∷ field 8 16 15 ∷ field 10 16 16 ∷ field 12 8 17 ∷ []

-- field f, counted from 0; past the last stands one that has no bits
abbrev pub field_at : ℕ → Field
field_at f = get_or fields f (field 0 0 0)

-- the two ports and the protocol, by their number among the fields
abbrev pub source_port : ℕ
source_port = 2

abbrev pub destination_port : ℕ
destination_port = 3

abbrev pub protocol : ℕ
protocol = 4

-- a field's value in a record or a header
unfoldable pub value_in : List ℕ → Field → ℕ
value_in bytes f = number_at bytes f.start (f.width / 8)

-- the length of a field's prefix in a record
abbrev pub length_in : List ℕ → Field → ℕ
length_in bytes f = get_or bytes f.length_at 0
