-- The words of the promises, of records and headers, are what the rules say: a record fits a header when its rule matches the header's
-- values, two share, one covers the other, and they clash when their rules do.
-- Assumes nothing.
use mathlib.Core.Path.{◌≡◌, refl, sym, ap, ap₂, ◌∙◌}
use mathlib.Core.Logic.{◌↔◌}
use mathlib.Core.Bool.{true}
use mathlib.Core.List.{List}
use Prim.Native.Nat.{ℕ, ◌<◌}
use Rattle.bits.specs.Number.{Bytes}
use Rattle.bits.specs.Path.{leads}
use Rattle.bits.specs.Tests.{all}
use Rattle.rules.specs.declared.fields.Field.{Field}
use Rattle.rules.specs.Field.{fields}
use Rattle.rules.specs.Rule.{rule_of}
use Rattle.rules.specs.Header.{header_values}
use Rattle.rules.specs.Match.{matches, rule_at}
use Rattle.rules.specs.Overlap.{share, covers}
use Rattle.rules.specs.Table.{rule_count, record_at, rules_of, SoundRule}
use Rattle.rules.proofs.RuleLaws.{matches_leads}
use Rattle.rules.proofs.MatchLaws.{rules_at, record_bytes}
use Rattle.rules.proofs.OverlapLaws.{share_exact}
use Rattle.rules.proofs.HeaderLaws.{shared_header}
use Rattle.overlap.specs.Judge.{clashes}
use Rattle.overlap.proofs.JudgeLaws.{clash_exact}
use Rattle.overlap.proofs.RecordLaws.{covers_prefixes, bytes_at}
use Rattle.desk.specs.Terms as terms
use Rattle.desk.specs.Terms.{IsHeader, IsTable, prefix_in, Fits, Covers, Clash}

-- a record of bytes that is not at fault
pub record IsRule (rule : List ℕ) : Type 0 where
  pub bytes : Bytes rule
  pub sound : SoundRule rule

-- ---- one record

pub fits_matches : {rule header : List ℕ} → IsRule rule → IsHeader header → Fits header rule ↔ (matches (header_values header) (rule_of rule) ≡ true)
fits_matches {rule} {header} r h =
    let same = matches_leads rule r.bytes r.sound.whole r.sound.faultless header h.bytes h.size in
    (λ f. same ∙ f, λ m. sym same ∙ m)

-- ---- two records

module _ {a b : List ℕ} (ra : IsRule a) (rb : IsRule b) where
  pub share_rules : terms.Share a b ↔ (share (rule_of a) (rule_of b) ≡ true)
  share_rules = (
    λ s. (share_exact (rule_of a) (rule_of b)).1 (header_values s.header, (fits_matches ra s.is).0 s.fits_first, (fits_matches rb s.is).0 s.fits_second),
    λ e.
        let s = shared_header a b ra.bytes rb.bytes ra.sound rb.sound e in
        let is : IsHeader s.header = record { bytes = s.bytes; size = s.size } in
        record { header = s.header; is = is; fits_first = (fits_matches ra is).1 s.first; fits_second = (fits_matches rb is).1 s.second },
  )

  covers_same : covers (rule_of a) (rule_of b) ≡ all (λ (f : Field). leads (prefix_in a f) (prefix_in b f)) fields
  covers_same = covers_prefixes a b ra.bytes rb.bytes ra.sound rb.sound

  pub covers_rules : Covers a b ↔ (covers (rule_of a) (rule_of b) ≡ true)
  covers_rules = (λ c. covers_same ∙ c, λ e. sym covers_same ∙ e)

  pub clash_rules : Clash a b ↔ (clashes (rule_of a) (rule_of b) ≡ true)
  unfolding rule_of
  clash_rules =
      let exact = clash_exact (rule_of a) (rule_of b) in (
        λ c. exact.1 (share_rules.0 c.share, c.actions_differ),
        λ e. record { share = share_rules.1 (exact.0 e).0; actions_differ = (exact.0 e).1 },
      )

-- ---- the rules of an accepted table

module _ {table : List ℕ} (t : IsTable table) {place : ℕ} (inside : place < rule_count table) where
  pub rule_in_lem : IsRule (record_at table place)
  rule_in_lem = record {
    bytes = record_bytes table t.bytes place;
    sound = bytes_at table place inside (record_at table place) refl t.accepted;
  }

  pub fits_at : {header : List ℕ} → IsHeader header → Fits header (record_at table place) ↔ (matches (header_values header) (rule_at (rules_of table) place) ≡ true)
  fits_at {header} h =
      let fits = fits_matches rule_in_lem h in
      let here = ap (matches (header_values header)) (rules_at table place inside) in
      (λ f. here ∙ fits.0 f, λ m. fits.1 (sym here ∙ m))

pub clash_at : {table : List ℕ} → IsTable table → {i j : ℕ} → i < rule_count table → j < rule_count table
    → Clash (record_at table i) (record_at table j) ↔ (clashes (rule_at (rules_of table) i) (rule_at (rules_of table) j) ≡ true)
clash_at {table} t {i} {j} low high =
    let same = ap₂ clashes (rules_at table i low) (rules_at table j high) in
    let c = clash_rules (rule_in_lem t low) (rule_in_lem t high) in
    (λ x. same ∙ c.0 x, λ e. c.1 (sym same ∙ e))
