-- `record` meets its contract: every record of an accepted table is sound.
use Rattle.rules.proofs.TableLaws.{accepted_record}
use Rattle.rules.proofs.records.Table.record.Goals as goal

pub invariant_of-result : goal.invariant_of-result
invariant_of-result c = record { sound = rw c.record_at.ensures (accepted_record c.args.self.bytes.now c.args.self.accepted c.args.place c.requires) }
