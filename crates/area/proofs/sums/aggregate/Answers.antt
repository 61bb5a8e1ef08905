-- `aggregate` meets its contract. The loop's invariant: `sum` is the aggregate of the first w words.
use mathlib.Core.Path.{sym, ◌∙◌}
use native.Mathlib.Nat.{zero-add}
use Rattle.area.proofs.SumLaws.{sum_none, sum_more}
use Rattle.area.proofs.sums.aggregate.Goals as goal

pub loop-w-init : goal.loop-w-init
loop-w-init c = sym (sum_none _ _)

pub loop-w-preserved : goal.loop-w-preserved
loop-w-preserved c = c.mark-sum.ensures ∙ rw c.loop-w.invariant (rw zero-add at (sum_more c.args.words.now 0 c.loop-w.w))
