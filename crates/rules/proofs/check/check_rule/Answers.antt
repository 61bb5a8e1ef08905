-- `check_rule` meets its contract: at each way out, what the tests so far have said.
use mathlib.Core.Path.{◌≡◌, refl, sym, ap, ◌∙◌}
use mathlib.Core.Bool.{Bool, true, false, not, cond}
use mathlib.Core.List.{List, [], ◌∷◌}
use Prim.Native.Nat.{ℕ}
use borrow.Author.Tests.{ne_eqb, eq-eqb}
use Rattle.std.specs.Prelude.{Some}
use Rattle.bits.specs.Number.{number_at}
use Rattle.rules.specs.Action.{action_in}
use Rattle.rules.specs.Refusal.{said, told}
use Rattle.rules.specs.Table.{long_prefix, stray_bit, stray_port, spare_bytes, rule_said}
use Rattle.rules.specs.declared.Action.{Action}
use Rattle.rules.specs.declared.prefixes.Prefixes.{Prefixes}
use Rattle.rules.proofs.TableLaws.{said_long, said_stray, said_unknown, said_spare, said_port, spare_number}
use Rattle.rules.proofs.check.check_rule.Goals as goal

-- what is asked of a record's prefixes is asked of the record
module _ (bytes : List ℕ) (prefixes : Prefixes) (same : prefixes.bytes.now ≡ bytes) where
  short : long_prefix bytes ≡ false
  short = sym (ap long_prefix same) ∙ prefixes.fitting

  strays : {b : Bool} → b ≡ stray_bit prefixes.bytes.now → stray_bit bytes ≡ b
  strays e = sym (e ∙ ap stray_bit same)

  -- the last test decides
  ported : (place spare : ℕ) (action : Action) → stray_bit bytes ≡ false → action_in bytes ≡ Some action → spare ≡ number_at bytes 20 4 → spare ≡ 0
      → (stray : Bool) → stray ≡ stray_port prefixes.bytes.now → cond stray (14 ∷ place ∷ []) (0 ∷ []) ≡ rule_said place bytes
  ported place spare action clean known read zero stray last =
      let none = sym (spare_number bytes) ∙ ap not (eq-eqb (number_at bytes 20 4) 0 (sym read ∙ zero)) in
      sym (said_port place bytes action short clean known none stray (sym (last ∙ ap stray_port same)))

pub returns-in_default : goal.returns-in_default
unfolding told said
returns-in_default c =
    let a = c.args in
    sym (said_long a.place a.bytes.now (c.in_default.ensures.none.0 refl))

pub returns-then-has_stray_bit : goal.returns-then-has_stray_bit
unfolding told said
returns-then-has_stray_bit c =
    let a = c.args in
    let p = c.in-Some in
    sym (said_stray a.place a.bytes.now (short _ p.prefixes p.ensures.some) (strays _ p.prefixes p.ensures.some c.if-has_stray_bit.ensures))

pub returns-in_default-action_of : goal.returns-in_default-action_of
unfolding told said
returns-in_default-action_of c =
    let a = c.args in
    let p = c.in-Some in
    sym
    (said_unknown a.place a.bytes.now (short _ p.prefixes p.ensures.some) (strays _ p.prefixes p.ensures.some c.if-has_stray_bit.ensures)
    (sym c.in_default-action_of.ensures))

pub returns-then-number_at-ne0 : goal.returns-then-number_at-ne0
unfolding told said
returns-then-number_at-ne0 c =
    let a = c.args in
    let b = a.bytes.now in
    let p = c.in-Some in
    let spare : spare_bytes b ≡ true = sym (spare_number b) ∙ ap not (ne_eqb (number_at b 20 4) 0 (λ e. c.if-number_at-ne0.true (c.number_at.ensures.0 ∙ e))) in
    sym
    (said_spare a.place b _ (short _ p.prefixes p.ensures.some) (strays _ p.prefixes p.ensures.some c.if-has_stray_bit.ensures)
    (sym c.in-Some-action_of.ensures) spare)

pub returns-then-has_stray_port : goal.returns-then-has_stray_port
unfolding told said
returns-then-has_stray_port c =
    let p = c.in-Some in
    ported c.args.bytes.now p.prefixes p.ensures.some c.args.place _ _ (strays _ p.prefixes p.ensures.some c.if-has_stray_bit.ensures)
    (sym c.in-Some-action_of.ensures) c.number_at.ensures.0 c.if-number_at-ne0.false true c.if-has_stray_port.ensures

pub returns : goal.returns
unfolding told said
returns c =
    let p = c.in-Some in
    ported c.args.bytes.now p.prefixes p.ensures.some c.args.place _ _ (strays _ p.prefixes p.ensures.some c.if-has_stray_bit.ensures)
    (sym c.in-Some-action_of.ensures) c.number_at.ensures.0 c.if-number_at-ne0.false false c.if-has_stray_port.ensures
