-- `asks_port` meets its contract: the source port decides, or else the destination port does.
use mathlib.Core.Path.{sym}
use mathlib.Core.Bool.{or-false}
use borrow.Author.Tests.{eq-eqb, ne_eqb}
use Rattle.bits.specs.Tests.{any}
use Rattle.rules.proofs.PortLaws.{asks_length}
use Rattle.rules.proofs.prefixes.Prefixes.asks_port.Goals as goal

pub returns-then-get-ne0 : goal.returns-then-get-ne0
unfolding any
returns-then-get-ne0 c =
    let b = c.args.self.bytes.now in
    rw (asks_length b, ← c.get.ensures.len, ne_eqb _ 0 c.if-get-ne0.true)

pub returns-else-get-ne0 : goal.returns-else-get-ne0
unfolding any
returns-else-get-ne0 c =
    let b = c.args.self.bytes.now in
    rw (asks_length b, ← c.get.ensures.len, eq-eqb _ 0 c.if-get-ne0.false, ← c.get-else-get-ne0.ensures.len) (sym (or-false _))
