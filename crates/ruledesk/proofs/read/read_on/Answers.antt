-- `read_on` meets its contract: the part that is lent starts behind what is held.
use native.Mathlib.Omega.{arith}
use Rattle.ruledesk.proofs.ReadingLaws.{put_rest, reads_behind, reads_past}
use Rattle.ruledesk.proofs.read.read_on.Goals as goal

pub returns-then-whole-room : goal.returns-then-whole-room
returns-then-whole-room g c =
    let a = c.args in
    rw put_rest (reads_behind c.read_some.ensures a.room.now (omega arith))

pub returns : goal.returns
returns g c =
    let a = c.args in
    reads_past c.read_some-2.ensures a.room.now (omega arith)
