-- `has_stray_port` meets its contract: a port is asked for, and the protocol has none.
use Rattle.rules.specs.Table.{stray_port}
use Rattle.rules.proofs.prefixes.Prefixes.has_stray_port.Goals as goal

pub returns-then-asks_port : goal.returns-then-asks_port
unfolding stray_port
returns-then-asks_port c = rw (← c.asks_port.ensures, ← c.has_ports.ensures, c.if-asks_port.true)

pub returns-else-asks_port : goal.returns-else-asks_port
unfolding stray_port
returns-else-asks_port c = rw (← c.asks_port.ensures, c.if-asks_port.false)
