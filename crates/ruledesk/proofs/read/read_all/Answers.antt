-- `read_all` meets its contract. The loop's invariant: the bytes that came so far are held, as many as there is room for, and `whole` is how
-- many they are. The measure is what is left up to 2^64.
use native.Mathlib.Omega.{arith}
use Rattle.ruledesk.specs.Reading.{Reads}
use Rattle.ruledesk.proofs.ReadingLaws.{came_more, came_end}
use Rattle.ruledesk.proofs.read.read_all.Goals as goal

pub loop-next-smaller : goal.loop-next-smaller
unfolding Reads
loop-next-smaller g c =
    let a = rw c.in-Some.is at c.in_ok-next.ensures in
    omega (arith, a.some, a.sum)

pub loop-next-preserved : goal.loop-next-preserved
unfolding Reads
loop-next-preserved g c = came_more (rw c.in-Some.is at c.in_ok-next.ensures) c.loop-next.invariant

pub returns : goal.returns
returns g c = came_end (rw c.in_default.is at c.in_ok-next.ensures) c.loop-next.invariant
