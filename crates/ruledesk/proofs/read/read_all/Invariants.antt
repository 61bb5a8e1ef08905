-- `read_all` meets its contract. The loop's invariant: the bytes that came so far are held, as many as there is room for, and `whole` is how
-- many they are. The measure is what is left up to 2^64.
use Prim.Native.Nat.{◌-◌, ◌^◌}
use Rattle.ruledesk.specs.Reading.{Came}
use Rattle.ruledesk.proofs.read.read_all.Given as goal

abbrev pub invariant-loop-next : goal.invariant-loop-next
invariant-loop-next g l = Came l.room l.whole

abbrev pub decreases-loop-next : goal.decreases-loop-next
decreases-loop-next g l = 2 ^ 64 - l.whole
