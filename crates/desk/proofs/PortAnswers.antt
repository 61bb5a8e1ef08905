-- What refusal 14 is for (02, Q-1), through lookup: the rule that a header of a protocol without ports gets asks for no port.
-- Assumes nothing.
use Rattle.rules.specs.declared.Refusal.{Refusal}
use Rattle.lookup.specs.declared.Answer.{Answer}
use Rattle.std.specs.Prelude.{Result}
use mathlib.Core.Path.{◌≡◌, sym, ◌∙◌}
use mathlib.Core.Logic.{⊎_elim}
use mathlib.Core.List.{List}
use Prim.Native.Nat.{ℕ, ◌-◌, ◌/◌, ◌^◌}
use native.Mathlib.Omega.{arith}
use borrow.Author.Tests.{eqb-true}
use Rattle.bits.specs.Path.{bits, leads}
use Rattle.bits.proofs.TestLaws.{all_at}
use Rattle.bits.proofs.PathLaws.{leads_number}
use Rattle.rules.specs.declared.Action.{Action}
use Rattle.rules.specs.declared.fields.Field.{Field}
use Rattle.rules.specs.Field.{fields, field_at, protocol, value_in, length_in}
use Rattle.rules.specs.Table.{record_at}
use Rattle.rules.proofs.RuleLaws.{value_small}
use Rattle.desk.specs.LookCall.{Looks}
use Rattle.desk.specs.Terms.{AsksPort, HasPorts, IsHeader, IsTable, prefix_in, Fits, IsIndex, Matched}
use Rattle.desk.proofs.TermLaws.{IsRule, rule_in_lem}
use Rattle.desk.proofs.FaultlessLaws.{accepted_exact}
use Rattle.desk.proofs.Demand2.{lookup_match}

-- a rule whose protocol is exact fits headers of that protocol alone
same_protocol : {rule header : List ℕ} → IsRule rule → IsHeader header → length_in rule (field_at protocol) ≡ 8 → Fits header rule
    → value_in header (field_at protocol) ≡ value_in rule (field_at protocol)
same_protocol {rule} {header} r h whole fits =
    let v = value_in rule (field_at protocol) in
    let x = value_in header (field_at protocol) in
    let l = length_in rule (field_at protocol) in
    let leading = all_at (λ (f : Field). leads (prefix_in rule f) (bits f.width (value_in header f))) fields (field_at 5) protocol fits (omega arith) in
    let small = value_small rule r.bytes (omega (arith, r.sound.whole)) protocol (omega arith) in
    let small-too = value_small header h.bytes (omega (arith, h.size)) protocol (omega arith) in
    let same : v / 2 ^ (8 - l) ≡ x / 2 ^ (8 - l) = eqb-true _ _ (sym (leads_number 8 l v x (omega arith) small small-too) ∙ leading) in
    let all_bits : 8 - l ≡ 0 = omega arith in
    let equal : v / 1 ≡ x / 1 = rw all_bits at same in
    omega (arith, equal)

pub lookup_no_port : {table area header : List ℕ} {r : Result Answer Refusal} {place : ℕ} {action : Action} → IsTable table → IsIndex table area → IsHeader header
    → Looks table area header r → (value_in header (field_at protocol) ≡ 6 → ⊥) → (value_in header (field_at protocol) ≡ 17 → ⊥) → Matched r place action
    → AsksPort (record_at table place) → ⊥
lookup_no_port {table} {place = place} {action = action} t x h l not-6 not-17 m asks =
    let w = (lookup_match t x h l place action).0 m in
    let has : HasPorts (record_at table place) = (((accepted_exact table).0 t.accepted).rules place w.inside).ports asks in
    let same = same_protocol (rule_in_lem t w.inside) h has.0 w.fits in
    ⊎_elim (λ e. not-6 (same ∙ e)) (λ e. not-17 (same ∙ e)) has.1
