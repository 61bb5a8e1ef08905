-- The number of false blocks that table and header fix is that of the blocks that are false by their records, and no other is.
-- Assumes nothing.
use Rattle.rules.specs.declared.Refusal.{Refusal}
use Rattle.std.specs.Prelude.{Result, Ok}
use mathlib.Core.Path.{◌≡◌, refl, sym, ap, subst, ◌∙◌}
use mathlib.Core.Logic.{◌↔◌}
use mathlib.Core.Bool.{true}
use mathlib.Core.List.{List}
use Prim.Native.Nat.{ℕ, ◌*◌, ◌≤◌, ◌<◌}
use native.Mathlib.Omega.{arith}
use lib.ListN.{length}
use Rattle.bits.proofs.TestLaws.{clash, refuted}
use Rattle.bits.proofs.RisingLaws.{rising_size}
use Rattle.bits.proofs.PassLaws.{passing}
use Rattle.rules.specs.Header.{header_values}
use Rattle.rules.specs.Match.{matches, rule_at, first_match, matches_in, block_of, deceives, blocks_before, false_blocks}
use Rattle.rules.specs.Table.{rule_count, record_at, rules_of}
use Rattle.rules.proofs.TableLaws.{accepted_sound}
use Rattle.rules.proofs.MatchLaws.{rules_size, rules_at}
use Rattle.rules.proofs.MatchInLaws.{matches_in_leads}
use Rattle.rules.proofs.BlockLaws.{Deceiving, false_exact}
use Rattle.area.specs.Shape.{blocks}
use Rattle.lookup.specs.declared.Answer.{Answer}
use Rattle.desk.specs.LookCall.{Looks}
use Rattle.desk.specs.Terms.{IsHeader, IsTable, IsIndex}
use Rattle.desk.specs.FalseBlock.{FitsIn, FalseBlock, CountsFalse}
use Rattle.desk.proofs.TermLaws.{rule_in_lem, fits_at}
use Rattle.desk.proofs.Demand2.{lookup_found}

module _ {table header : List ℕ} (t : IsTable table) (h : IsHeader header) where
  -- a rule of the table matches in a field when its record does
  fits_in : (place : ℕ) → place < rule_count table → (f : ℕ) → f < 5
      → FitsIn header (record_at table place) f ↔ (matches_in (header_values header) f (rule_at (rules_of table) place) ≡ true)
  fits_in place inside f hf =
      let r = rule_in_lem t inside in
      let same =
      ap (matches_in (header_values header) f) (rules_at table place inside)
      ∙ matches_in_leads (record_at table place) r.bytes r.sound header h.bytes h.size f hf in
      (λ e. same ∙ e, λ e. sym same ∙ e)

  values_size : length (header_values header) ≡ 5
  unfolding header_values
  values_size = refl

  false_records : (b : ℕ) → Deceiving 32 (rules_of table) (header_values header) b ↔ FalseBlock table header b
  false_records b =
      let count = rules_size table in
      let fields = values_size in (
        λ d. record {
          each_field = λ f hf.
              let s = d.each_field f (omega arith) in
              let inside : s.0 < rule_count table = omega (arith, s.1) in
              (s.0, inside, s.2, (fits_in s.0 inside f hf).1 s.3);
          none_yet = λ place inside low fits. clash ((fits_at t inside h).0 fits) (d.none_yet place (omega arith) low);
        },
        λ d. record {
          each_field = λ f hf.
              let s = d.each_field f (omega arith) in
              (s.0, omega (arith, s.1), s.2, (fits_in s.0 s.1 f (omega arith)).0 s.3);
          none_yet = λ place inside low.
              let here : place < rule_count table = omega arith in
              refuted (matches (header_values header) (rule_at (rules_of table) place)) (λ e. d.none_yet place here low ((fits_at t here h).1 e));
        },
      )

  pub counts_false : CountsFalse table header (false_blocks 32 blocks (rules_of table) (header_values header))
  unfolding false_blocks
  counts_false =
      let rules = rules_of table in
      let values = header_values header in
      let p = passing (λ b. deceives values (block_of 32 rules b)) (blocks_before 32 blocks (first_match rules values)) in
      let few : length rules ≤ blocks * 32 = omega (arith, rules_size table, (accepted_sound table t.accepted).few) in
      record {
        found = p.listed;
        rising = p.rising;
        exact = λ b.
            let is = false_exact 32 (omega arith) rules values b blocks (omega arith) (omega (arith, values_size)) in
            let same = false_records b in
            (λ m. same.0 (is.0 ((p.exact b).0 m)), λ d. (p.exact b).1 (is.1 (same.1 d)));
        size = p.size;
      }

-- what lookup answers over an index has so many
pub lookup_done : {table area header : List ℕ} {r : Result Answer Refusal} → IsTable table → IsIndex table area → IsHeader header → Looks table area header r
    → (a : Answer) × (r ≡ Ok a) × CountsFalse table header a.falses × (a.falses ≤ blocks)
lookup_done {table} {area} {header} t x h l =
    let d = lookup_found t x h l in
    (d.0, d.1, subst (CountsFalse table header) (sym d.2) (counts_false t h), d.3)

-- no two numbers are so
pub counts_one : {table header : List ℕ} {m n : ℕ} → CountsFalse table header m → CountsFalse table header n → m ≡ n
counts_one c d =
    sym c.size
    ∙ rising_size c.found d.found c.rising d.rising (λ b m. (d.exact b).1 ((c.exact b).0 m)) (λ b m. (c.exact b).1 ((d.exact b).0 m))
    ∙ d.size
