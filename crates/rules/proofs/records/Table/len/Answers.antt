-- `len` meets its contract: an accepted table has few rules.
use mathlib.Core.Path.{refl}
use Rattle.rules.proofs.TableLaws.{accepted_sound}
use Rattle.rules.proofs.records.Table.len.Goals as goal

pub returns : goal.returns
returns c = (refl, (accepted_sound c.args.self.bytes.now c.args.self.accepted).few)
