-- `has_ports` meets its contract: the length is 8, and the value one of the two.
use mathlib.Core.Path.{◌≡◌}
use mathlib.Core.Bool.{◌&&◌, ◌||◌, or-false}
use mathlib.Core.List.{List}
use Prim.Native.Nat.{ℕ}
use lib.Dec.{eqb}
use borrow.Author.Tests.{ne_eqb}
use Rattle.bits.specs.Tests.{any}
use Rattle.bits.specs.declared.prefixes.Prefix.{Prefix}
use Rattle.rules.specs.Field.{field_at, protocol, value_in, length_in}
use Rattle.rules.specs.Ports.{has_ports}
use Rattle.rules.specs.Rule.{rule_of}
use Rattle.rules.proofs.PortLaws.{has_length}
use Rattle.rules.proofs.prefixes.Prefixes.has_ports.Goals as goal

-- of the protocol's prefix, as it was read
tested : (bytes : List ℕ) (p : Prefix) → p.value ≡ value_in bytes (field_at protocol) → p.len ≡ length_in bytes (field_at protocol) → p.width ≡ 8
    → (eqb p.len 8 && (eqb p.value 6 || eqb p.value 17)) ≡ has_ports (rule_of bytes)
unfolding any
tested bytes p value len width =
    rw (has_length bytes (rw (← len, ← width) p.short), ← len, ← value, or-false (eqb p.value 17))

pub returns-then-protocol-eq6 : goal.returns-then-protocol-eq6
returns-then-protocol-eq6 c =
    let p = c.get-protocol in
    rw (← tested c.args.self.bytes.now p.result p.ensures.value p.ensures.len p.ensures.width, c.if-exact.true, c.if-protocol-eq6.true)

pub returns-else-protocol-eq6 : goal.returns-else-protocol-eq6
returns-else-protocol-eq6 c =
    let p = c.get-protocol in
    rw (← tested c.args.self.bytes.now p.result p.ensures.value p.ensures.len p.ensures.width, c.if-exact.true, ne_eqb _ 6 c.if-protocol-eq6.false)

pub returns-else-exact : goal.returns-else-exact
returns-else-exact c =
    let p = c.get-protocol in
    rw (← tested c.args.self.bytes.now p.result p.ensures.value p.ensures.len p.ensures.width, ne_eqb _ 8 c.if-exact.false)
