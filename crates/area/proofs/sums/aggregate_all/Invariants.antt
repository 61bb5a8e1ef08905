-- `aggregate_all` meets its contract. The loop's invariant: the first k records have their aggregates.
use mathlib.Core.Path.{◌≡◌}
use Rattle.area.specs.Sums.{summed}
use Rattle.area.proofs.sums.aggregate_all.Given as goal

abbrev pub invariant-loop-k : goal.invariant-loop-k
invariant-loop-k l = l.area ≡ summed l.k l.initial.area
