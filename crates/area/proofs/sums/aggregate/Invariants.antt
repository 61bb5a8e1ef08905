-- `aggregate` meets its contract. The loop's invariant: `sum` is the aggregate of the first w words.
use mathlib.Core.Path.{◌≡◌}
use Rattle.area.specs.Sums.{sum_at}
use Rattle.area.proofs.sums.aggregate.Given as goal

abbrev pub invariant-loop-w : goal.invariant-loop-w
invariant-loop-w l = l.sum ≡ sum_at l.words 0 l.w
