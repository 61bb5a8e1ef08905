-- `write_record` meets its contract.
use mathlib.Core.Path.{sym, ◌∙◌}
use Prim.Native.Nat.{◌*◌}
use native.Mathlib.Omega.{arith}
use borrow.Author.Rules.{rules}
use Rattle.std.proofs.lemmas.Slice.{put_mid-paste}
use Rattle.rules.specs.Table.{record_size}
use Rattle.samples.proofs.SampleLaws.{written_there, written_nowhere}
use Rattle.samples.proofs.records.write_record.Goals as goal

pub returns-then-place-table : goal.returns-then-place-table
returns-then-place-table c =
    let a = c.args in
    put_mid-paste (a.place * record_size) _ a.table.now _ a.rule record_size c.copy_from_slice.ensures.after (omega arith) (sym (search rules))
    ∙ sym (written_there a.table.now a.rule a.place c.if-place-table.true)

pub returns-else-place-table : goal.returns-else-place-table
returns-else-place-table c =
    let a = c.args in
    sym (written_nowhere a.table.now a.rule a.place c.if-place-table.false)
