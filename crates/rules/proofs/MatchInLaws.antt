-- In one field: the rule of a faultless record has a header's value there exactly when the record's prefix leads it.
-- Assumes nothing.
use mathlib.Core.Path.{◌≡◌, ap₂, ◌∙◌}
use mathlib.Core.List.{List}
use Prim.Native.Nat.{ℕ, ◌<◌}
use native.Mathlib.Omega.{arith}
use lib.ListN.{length}
use Rattle.bits.specs.Number.{Bytes}
use Rattle.bits.specs.Path.{bits, prefix, leads}
use Rattle.bits.proofs.EachLaws.{get_d_map}
use Rattle.rules.specs.Field.{fields, field_at, value_in, length_in}
use Rattle.rules.specs.Rule.{has, rule_of}
use Rattle.rules.specs.Header.{header_size, header_values}
use Rattle.rules.specs.Match.{matches_in}
use Rattle.rules.specs.Table.{SoundRule}
use Rattle.rules.proofs.RuleLaws.{value_small, span_in_lem, field_has}

pub matches_in_leads : (bytes : List ℕ) → Bytes bytes → SoundRule bytes → (header : List ℕ) → Bytes header → length header ≡ header_size → (f : ℕ) → f < 5
    → matches_in (header_values header) f (rule_of bytes)
    ≡ leads (prefix (field_at f).width (value_in bytes (field_at f)) (length_in bytes (field_at f))) (bits (field_at f).width (value_in header (field_at f)))
unfolding matches_in header_values
matches_in_leads bytes b r header c right f h =
    let value = get_d_map (value_in header) fields f 0 (field_at 5) h in
    ap₂ has (span_in_lem bytes f h) value
    ∙ field_has bytes b r.whole r.faultless f h (value_in header (field_at f)) (value_small header c (omega arith) f h)
