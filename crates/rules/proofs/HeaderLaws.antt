-- A header's bytes from its values; two rules' lowest shared header in bytes; and two rules that share any values share a header of 13 bytes.
-- Assumes nothing.
use mathlib.Core.Path.{◌≡◌, refl, subst}
use mathlib.Core.Bool.{true}
use mathlib.Core.List.{List, [], ◌∷◌, zip_with, flatten}
use Prim.Native.Nat.{ℕ, suc, ◌/◌, ◌^◌, ◌<◌, max}
use native.Mathlib.Omega.{arith}
use lib.ListN.{length, get_or}
use Rattle.bits.specs.Number.{Bytes, number_at, bytes_of}
use Rattle.bits.specs.Tests.{up_from}
use Rattle.bits.proofs.NumberLaws.{bytes_append, bytes_small, byte_bits, number_bytes}
use Rattle.bits.proofs.EachLaws.{tabled}
use Rattle.rules.specs.declared.Header.{Header}
use Rattle.rules.specs.declared.fields.Field.{Field}
use Rattle.rules.specs.Field.{fields, field_at, value_in}
use Rattle.rules.specs.Rule.{span_of, rule_of}
use Rattle.rules.specs.Table.{SoundRule}
use Rattle.rules.specs.Header.{header_size, header_values, header_bytes}
use Rattle.rules.specs.Match.{matches}
use Rattle.rules.specs.Overlap.{share, span_low, lowest_shared}
use Rattle.rules.specs.Refusal.{values}
use Rattle.rules.proofs.FieldLaws.{field_sound}
use Rattle.rules.proofs.RuleLaws.{value_small}
use Rattle.rules.proofs.OverlapLaws.{lowest_shared_fits}

-- ---- a header's bytes

-- values at the widths of some fields, each of which fits its field
fields_bytes : (fs : List Field) (vs : List ℕ) → ((k : ℕ) → k < length fs → get_or vs k 0 < 256 ^ ((get_or fs k (field_at 5)).width / 8))
    → Bytes (flatten (zip_with (λ (f : Field) v. bytes_of (f.width / 8) v) fs vs))
unfolding flatten zip_with
fields_bytes [] vs fits = λ k. omega arith
fields_bytes (f ∷ fs) [] fits = λ k. omega arith
fields_bytes (f ∷ fs) (v ∷ vs) fits =
    bytes_append (bytes_of (f.width / 8) v) (flatten (zip_with (λ (g : Field) x. bytes_of (g.width / 8) x) fs vs))
    (bytes_small (f.width / 8) v (fits 0 (omega arith))) (fields_bytes fs vs (λ k h. fits (suc k) (omega arith)))

pub header_bytes_lem : (vs : List ℕ) → ((f : ℕ) → f < 5 → get_or vs f 0 < 2 ^ (field_at f).width) → Bytes (header_bytes vs)
unfolding header_bytes
header_bytes_lem vs fits = fields_bytes fields vs (λ f h. rw (byte_bits ((field_at f).width / 8), (field_sound f h).whole) (fits f h))

module _ (h : Header) where
  pub header_size_lem : length (header_bytes (values h)) ≡ header_size
  unfolding header_bytes bytes_of zip_with flatten
  header_size_lem = refl

  pub header_values_lem : header_values (header_bytes (values h)) ≡ values h
  unfolding header_values value_in header_bytes number_at bytes_of zip_with flatten
  header_values_lem = λ i.
      number_bytes 3 h.source i ∷ number_bytes 3 h.destination i ∷ number_bytes 1 h.sport i ∷ number_bytes 1 h.dport i ∷ number_bytes 0 h.protocol i ∷ []

-- ---- two rules

-- their lowest shared header, as its five values
module _ (a b : List ℕ) where
  abbrev larger : ℕ → ℕ
  larger f = max (value_in a (field_at f)) (value_in b (field_at f))

  abbrev pub lowest_header : Header
  lowest_header = record { source = larger 0; destination = larger 1; sport = larger 2; dport = larger 3; protocol = larger 4 }

  pub lowest_values : values lowest_header ≡ lowest_shared (rule_of a) (rule_of b)
  unfolding lowest_shared span_low span_of rule_of zip_with
  lowest_values = refl

-- and as its 13 bytes
pub record HeaderOf (values bytes : List ℕ) : Type 0 where
  pub bytes_small : Bytes bytes
  pub size : length bytes ≡ header_size
  pub read : header_values bytes ≡ values

-- a header of 13 bytes that matches both
pub record Shared (a b : List ℕ) : Type 0 where
  pub header : List ℕ
  pub bytes : Bytes header
  pub size : length header ≡ header_size
  pub first : matches (header_values header) (rule_of a) ≡ true
  pub second : matches (header_values header) (rule_of b) ≡ true

module _ (a b : List ℕ) (ba : Bytes a) (bb : Bytes b) (ra : SoundRule a) (rb : SoundRule b) where
  larger_small : (f : ℕ) → f < 5 → larger a b f < 2 ^ (field_at f).width
  larger_small f h = omega (arith, value_small a ba (omega (arith, ra.whole)) f h, value_small b bb (omega (arith, rb.whole)) f h)

  lowest_small : (f : ℕ) → f < 5 → get_or (values (lowest_header a b)) f 0 < 2 ^ (field_at f).width
  unfolding up_from
  lowest_small f h = rw (tabled (larger a b) 5 f 0 h) (larger_small f h)

  pub lowest_reads : HeaderOf (lowest_shared (rule_of a) (rule_of b)) (header_bytes (lowest_shared (rule_of a) (rule_of b)))
  lowest_reads =
      subst (λ (vs : List ℕ). HeaderOf vs (header_bytes vs)) (lowest_values a b)
      (record { bytes_small = header_bytes_lem (values (lowest_header a b)) lowest_small; size = header_size_lem (lowest_header a b); read = header_values_lem (lowest_header a b) })

  pub shared_header : share (rule_of a) (rule_of b) ≡ true → Shared a b
  shared_header e =
      let fits = lowest_shared_fits (rule_of a) (rule_of b) e in
      record {
        header = header_bytes (lowest_shared (rule_of a) (rule_of b));
        bytes = lowest_reads.bytes_small;
        size = lowest_reads.size;
        first = rw lowest_reads.read fits.0;
        second = rw lowest_reads.read fits.1;
      }
