-- `prefix` meets its contract: a sound record has no prefix that is longer than its field.
use Rattle.rules.proofs.TableLaws.{faultless}
use Rattle.rules.proofs.records.Record.prefix.Goals as goal

pub invariant_of-prefixes : goal.invariant_of-prefixes
invariant_of-prefixes c = record { fitting = (faultless c.args.self.bytes.now c.args.self.sound.faultless).short }
