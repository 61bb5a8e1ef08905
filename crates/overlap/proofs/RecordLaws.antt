-- Two records beside each other. Over any width, the shorter prefix decides: two prefixes share, and the shorter covers the longer, when
-- the shorter one leads the other's value. And two rules share, and one covers the other, when it is so in each field.
-- Assumes nothing.
use mathlib.Core.Path.{◌≡◌, refl, sym, ap, ◌∙◌}
use mathlib.Core.Logic.{⊎_elim}
use mathlib.Core.Bool.{Bool, true, false, ◌&&◌, ◌||◌}
use mathlib.Core.List.{List}
use Prim.Native.Nat.{ℕ, ◌-◌, ◌/◌, ◌^◌, ◌≤◌, ◌<◌}
use native.Mathlib.Omega.{arith}
use lib.Dec.{leb}
use lib.ListN.{length}
use borrow.Author.Tests.{leb-true, le-leb, lt-leb, eqb-true, eq-eqb}
use Rattle.bits.specs.Number.{Bytes}
use Rattle.bits.specs.declared.prefixes.Prefix.{Prefix}
use Rattle.bits.specs.Path.{bits, prefix, leads, stray}
use Rattle.std.specs.List.{list_all, range_with_len}
use Rattle.bits.specs.Tests.{all, each}
use Rattle.bits.proofs.TestLaws.{same_test, and_trues, or_trues}
use Rattle.bits.proofs.EachLaws.{each_maps, all_same}
use Rattle.bits.proofs.PathLaws.{leads_number, leads_prefix}
use Rattle.rules.specs.declared.fields.Field.{Field}
use Rattle.rules.specs.Field.{fields, field_at, value_in, length_in}
use Rattle.rules.specs.Rule.{Span, span_of, span_in, rule_of}
use Rattle.rules.specs.Match.{rule_at}
use Rattle.rules.specs.Table.{rule_count, record_at, rules_of, fault, Accepted, SoundRule}
use Rattle.rules.specs.Overlap.{span_share, span_covers, covers}
use Rattle.rules.proofs.OverlapLaws.{share_leads, covers_leads}
use Rattle.rules.proofs.TableLaws.{length_record, accepted_sound}
use Rattle.rules.proofs.MatchLaws.{rules_at}
use Rattle.rules.proofs.RuleLaws.{value_small, span_in_lem, length_fits, no_stray}

-- ---- two prefixes of one width

-- a prefix of the same or a greater length that leads the shorter one's value is led by it
leads_back : (w v l x m : ℕ) → l ≤ w → m ≤ w → v < 2 ^ w → x < 2 ^ w → l ≤ m
    → leads (prefix w x m) (prefix w v l) ≡ true → leads (prefix w v l) (bits w x) ≡ true
leads_back w v l x m hl hm hv hx short e =
    let t = and_trues (leb m l) (leads (prefix w x m) (bits w v)) (sym (leads_prefix w x m v l hm) ∙ e) in
    let same : m ≡ l = omega (arith, leb-true m l t.0) in
    let q : x / 2 ^ (w - m) ≡ v / 2 ^ (w - m) = eqb-true _ _ (sym (leads_number w m x v hm hx hv) ∙ t.1) in
    leads_number w l v x hl hv hx ∙ eq-eqb (v / 2 ^ (w - l)) (x / 2 ^ (w - l)) (rw same at (sym q))

module _ (w v l x m : ℕ) (hl : l ≤ w) (hm : m ≤ w) (hv : v < 2 ^ w) (hx : x < 2 ^ w) (cv : stray w v l ≡ false) (cx : stray w x m ≡ false) where
  leads_short : l ≤ m → leads (prefix w v l) (prefix w x m) ≡ leads (prefix w v l) (bits w x)
  leads_short short = leads_prefix w v l x m hl ∙ ap (λ t. t && leads (prefix w v l) (bits w x)) (le-leb l m short)

  -- where the first prefix is no longer, it decides
  short_shares : l ≤ m → span_share (span_of w v l) (span_of w x m) ≡ leads (prefix w v l) (bits w x)
  short_shares short =
      let a = leads (prefix w v l) (prefix w x m) in
      let b = leads (prefix w x m) (prefix w v l) in
      let c = leads (prefix w v l) (bits w x) in
      share_leads w v l x m hl hm hv hx cv cx
      ∙ same_test (a || b) c
      (λ e. ⊎_elim (λ h. sym (leads_short short) ∙ h) (λ h. leads_back w v l x m hl hm hv hx short h) (or_trues a b e))
      (λ e. ap (λ t. t || b) (leads_short short ∙ e))

  short_covers : l ≤ m → span_covers (span_of w v l) (span_of w x m) ≡ leads (prefix w v l) (bits w x)
  short_covers short = covers_leads w v l x m hl hm hv hx cv cx ∙ leads_short short

  -- where it is longer, it covers nothing
  long_misses : m < l → span_covers (span_of w v l) (span_of w x m) ≡ false
  long_misses long =
      covers_leads w v l x m hl hm hv hx cv cx
      ∙ leads_prefix w v l x m hl
      ∙ ap (λ t. t && leads (prefix w v l) (bits w x)) (lt-leb l m long)

-- ---- two records in one field

record Beside (a b : List ℕ) (f : ℕ) : Type 0 where
  first : SoundRule a
  second : SoundRule b
  inside : f < 5
  first_fits : value_in a (field_at f) < 2 ^ (field_at f).width
  second_fits : value_in b (field_at f) < 2 ^ (field_at f).width

-- a law of two prefixes holds of two records' in a field
module _ (Says : ℕ → ℕ → ℕ → ℕ → ℕ → Type 0)
    (law : (w v l x m : ℕ) → l ≤ w → m ≤ w → v < 2 ^ w → x < 2 ^ w → stray w v l ≡ false → stray w x m ≡ false → Says w v l x m) where
  in_field : {a b : List ℕ} {f : ℕ} → Beside a b f
      → Says (field_at f).width (value_in a (field_at f)) (length_in a (field_at f)) (value_in b (field_at f)) (length_in b (field_at f))
  in_field {a} {b} {f} two =
      let h = two.inside in
      law (field_at f).width (value_in a (field_at f)) (length_in a (field_at f)) (value_in b (field_at f)) (length_in b (field_at f))
      (length_fits a two.first.faultless f h) (length_fits b two.second.faultless f h) two.first_fits two.second_fits
      (no_stray a two.first.faultless f h) (no_stray b two.second.faultless f h)

-- a prefix that was read of a record in a field
pub record Read (bytes : List ℕ) (f : ℕ) (p : Prefix) : Type 0 where
  pub sound : SoundRule bytes
  pub inside : f < 5
  pub value : p.value ≡ value_in bytes (field_at f)
  pub len : p.len ≡ length_in bytes (field_at f)
  pub width : p.width ≡ (field_at f).width

pub read : {bytes : List ℕ} {f : ℕ} (p : Prefix) → SoundRule bytes → f < 5 → p.value ≡ value_in bytes (field_at f)
    → p.len ≡ length_in bytes (field_at f) → p.width ≡ (field_at f).width → Read bytes f p
read p sound inside value len width = record { sound = sound; inside = inside; value = value; len = len; width = width }

module _ {a b : List ℕ} {f : ℕ} {p q : Prefix} (x : Read a f p) (y : Read b f q) where
  beside : Beside a b f
  beside = record {
    first = x.sound;
    second = y.sound;
    inside = x.inside;
    first_fits = rw (← x.value, ← x.width) p.fits;
    second_fits = rw (← y.value, ← y.width) q.fits;
  }

  -- the first leads the second's value
  abbrev leading : Bool
  leading = leads (prefix p.width p.value p.len) (bits q.width q.value)

  pub short_share : p.len ≤ q.len → leading ≡ span_share (span_in (rule_of a) f) (span_in (rule_of b) f)
  short_share short =
      rw (span_in_lem a f x.inside, span_in_lem b f x.inside, x.value, x.len, x.width, y.value, y.width)
      (sym (in_field (λ w v l x m. l ≤ m → span_share (span_of w v l) (span_of w x m) ≡ leads (prefix w v l) (bits w x)) short_shares beside (rw (x.len, y.len) at short)))

  pub short_cover : p.len ≤ q.len → leading ≡ span_covers (span_in (rule_of a) f) (span_in (rule_of b) f)
  short_cover short =
      rw (span_in_lem a f x.inside, span_in_lem b f x.inside, x.value, x.len, x.width, y.value, y.width)
      (sym (in_field (λ w v l x m. l ≤ m → span_covers (span_of w v l) (span_of w x m) ≡ leads (prefix w v l) (bits w x)) short_covers beside (rw (x.len, y.len) at short)))

  pub long_cover : q.len < p.len → span_covers (span_in (rule_of a) f) (span_in (rule_of b) f) ≡ false
  long_cover long =
      rw (span_in_lem a f x.inside, span_in_lem b f x.inside)
      (in_field (λ w v l x m. m < l → span_covers (span_of w v l) (span_of w x m) ≡ false) long_misses beside (rw (x.len, y.len) at long))

-- ---- two records in all fields

-- a relation of spans, asked of each field by its number
abbrev pub in_field_of : (Span → Span → Bool) → List ℕ → List ℕ → ℕ → Bool
in_field_of relates a b f = relates (span_in (rule_of a) f) (span_in (rule_of b) f)

pub in_fields : (relates : Span → Span → Bool) (a b : List ℕ) → list_all (in_field_of relates a b) (range_with_len 0 5) ≡ each relates (rule_of a).spans (rule_of b).spans
unfolding each rule_of
in_fields relates a b = refl

-- "One covers another when each of its prefixes is a leading part of the other's."
pub covers_prefixes : (a b : List ℕ) → Bytes a → Bytes b → SoundRule a → SoundRule b → covers (rule_of a) (rule_of b)
    ≡ all (λ (g : Field). leads (prefix g.width (value_in a g) (length_in a g)) (prefix g.width (value_in b g) (length_in b g))) fields
unfolding covers rule_of
covers_prefixes a b ba bb ra rb =
    let span : List ℕ → Field → Span = λ bytes g. span_of g.width (value_in bytes g) (length_in bytes g) in
    each_maps span_covers (span a) (span b) fields
    ∙ all_same (λ (g : Field). span_covers (span a g) (span b g))
    (λ (g : Field). leads (prefix g.width (value_in a g) (length_in a g)) (prefix g.width (value_in b g) (length_in b g))) fields (field_at 5)
    (λ f h.
    in_field (λ w v l x m. span_covers (span_of w v l) (span_of w x m) ≡ leads (prefix w v l) (prefix w x m)) covers_leads
    (record {
      first = ra;
      second = rb;
      inside = h;
      first_fits = value_small a ba (omega arith) f h;
      second_fits = value_small b bb (omega arith) f h;
    }))

-- ---- the record at a place of an accepted table

module _ (table : List ℕ) (place : ℕ) (inside : place < rule_count table) (bytes : List ℕ) (here : bytes ≡ record_at table place) where
  pub bytes_at : Accepted table → SoundRule bytes
  bytes_at ok = record {
    whole = ap length here ∙ length_record table place (omega arith);
    faultless = ap fault here ∙ (accepted_sound table ok).faultless place inside;
  }

  pub rule_at_lem : rule_of bytes ≡ rule_at (rules_of table) place
  rule_at_lem = ap rule_of here ∙ sym (rules_at table place inside)
