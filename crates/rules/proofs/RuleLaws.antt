-- A rule's spans and paths agree, and so matching is what 01 says: each prefix is a leading part of the header's value.
-- Assumes nothing.
use mathlib.Core.Path.{◌≡◌, sym, ap, subst, ◌∙◌}
use mathlib.Core.Bool.{false, or-false}
use mathlib.Core.List.{List, [], ◌∷◌}
use Prim.Native.Nat.{ℕ, ◌/◌, ◌^◌, ◌≤◌, ◌<◌}
use native.Mathlib.Omega.{arith}
use lib.Dec.{ltb}
use lib.ListN.{length, get_or}
use borrow.Author.Tests.{ltb-false}
use Rattle.bits.specs.Number.{Bytes, number_at}
use Rattle.bits.specs.Path.{bits, prefix, leads, stray}
use Rattle.bits.specs.Tests.{any, all}
use Rattle.bits.proofs.NumberLaws.{number_small}
use Rattle.bits.proofs.EachLaws.{get_d_map, each_maps, all_same}
use Rattle.rules.specs.declared.fields.Field.{Field}
use Rattle.rules.specs.Field.{fields, field_at, value_in, length_in}
use Rattle.rules.specs.Rule.{Span, has, span_of, nowhere, span_in, rule_of}
use Rattle.rules.specs.Table.{record_size, long_prefix, stray_bit, fault}
use Rattle.rules.specs.Header.{header_size, header_values}
use Rattle.rules.specs.Match.{matches}
use Rattle.rules.proofs.FieldLaws.{field_sound, field_none}
use Rattle.rules.proofs.TableLaws.{faultless}
use Rattle.rules.proofs.SpanLaws.{has_leads}

-- a value in a record or a header fits its field
pub value_small : (bytes : List ℕ) → Bytes bytes → header_size ≤ length bytes → (f : ℕ) → f < 5 → value_in bytes (field_at f) < 2 ^ (field_at f).width
unfolding value_in
value_small bytes b long f h =
    let g = field_at f in
    let s = field_sound f h in
    let small = number_small bytes b g.start (g.width / 8) (omega (arith, s.inside)) in
    subst (λ (w : ℕ). number_at bytes g.start (g.width / 8) < 2 ^ w) s.whole small

-- ---- one rule

-- the span that a record says in a field
pub span_in_lem : (bytes : List ℕ) (f : ℕ) → f < 5 → span_in (rule_of bytes) f ≡ span_of (field_at f).width (value_in bytes (field_at f)) (length_in bytes (field_at f))
unfolding rule_of
span_in_lem bytes f h = get_d_map (λ (g : Field). span_of g.width (value_in bytes g) (length_in bytes g)) fields f nowhere (field_at 5) h

-- ---- one faultless rule

module _ (bytes : List ℕ) (sound : fault bytes ≡ 0) (f : ℕ) (h : f < 5) where
  pub length_fits : length_in bytes (field_at f) ≤ (field_at f).width
  unfolding long_prefix
  length_fits = ltb-false _ _ (field_none (λ (g : Field). ltb g.width (length_in bytes g)) f h (faultless bytes sound).short)

  pub no_stray : stray (field_at f).width (value_in bytes (field_at f)) (length_in bytes (field_at f)) ≡ false
  unfolding stray_bit
  no_stray = field_none (λ (g : Field). stray g.width (value_in bytes g) (length_in bytes g)) f h (faultless bytes sound).clean

module _ (bytes : List ℕ) (b : Bytes bytes) (whole : length bytes ≡ record_size) (sound : fault bytes ≡ 0) (f : ℕ) (h : f < 5) where
  -- the span has a value exactly when the prefix leads its bits
  pub field_has : (x : ℕ) → x < 2 ^ (field_at f).width
      → has (span_of (field_at f).width (value_in bytes (field_at f)) (length_in bytes (field_at f))) x
      ≡ leads (prefix (field_at f).width (value_in bytes (field_at f)) (length_in bytes (field_at f))) (bits (field_at f).width x)
  field_has x small =
      has_leads (field_at f).width (value_in bytes (field_at f)) (length_in bytes (field_at f)) x (length_fits bytes sound f h)
      (value_small bytes b (omega arith) f h) small (no_stray bytes sound f h)

  -- so in each field some path of the rule leads a value's bits exactly when its span has the value
  pub agreement : (x : ℕ) → x < 2 ^ (field_at f).width
      → any (λ p. leads p (bits (field_at f).width x)) (get_or (rule_of bytes).paths f []) ≡ has (span_in (rule_of bytes) f) x
  unfolding rule_of any
  agreement x small =
      let paths = get_d_map (λ (g : Field). prefix g.width (value_in bytes g) (length_in bytes g) ∷ []) fields f [] (field_at 5) h in
      ap (any (λ p. leads p (bits (field_at f).width x))) paths
      ∙ or-false (leads (prefix (field_at f).width (value_in bytes (field_at f)) (length_in bytes (field_at f))) (bits (field_at f).width x))
      ∙ sym (field_has x small)
      ∙ ap (λ (s : Span). has s x) (sym (span_in_lem bytes f h))

-- ---- a faultless rule and a header

module _ (bytes : List ℕ) (b : Bytes bytes) (whole : length bytes ≡ record_size) (sound : fault bytes ≡ 0)
    (header : List ℕ) (c : Bytes header) (right : length header ≡ header_size) where
  -- "A rule matches when each of its five prefixes is a leading part of the header's value."
  pub matches_leads : matches (header_values header) (rule_of bytes)
      ≡ all (λ (g : Field). leads (prefix g.width (value_in bytes g) (length_in bytes g)) (bits g.width (value_in header g))) fields
  unfolding matches header_values rule_of
  matches_leads =
      each_maps has (λ (g : Field). span_of g.width (value_in bytes g) (length_in bytes g)) (value_in header) fields
      ∙ all_same
      (λ (g : Field). has (span_of g.width (value_in bytes g) (length_in bytes g)) (value_in header g))
      (λ (g : Field). leads (prefix g.width (value_in bytes g) (length_in bytes g)) (bits g.width (value_in header g)))
      fields (field_at 5)
      (λ f h. field_has bytes b whole sound f h (value_in header (field_at f)) (value_small header c (omega arith) f h))
