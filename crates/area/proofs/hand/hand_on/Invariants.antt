-- `hand_on` meets its contract. The loop's invariant: the first k records have handed on.
use mathlib.Core.Path.{◌≡◌}
use lib.ListN.{length}
use Rattle.area.specs.Hand.{handed}
use Rattle.area.proofs.HandLaws.{Bounded}
use Rattle.area.proofs.hand.hand_on.Given as goal

abbrev pub invariant-loop-k : goal.invariant-loop-k
invariant-loop-k l = Bounded l.count (length l.initial.area) l.area × (l.area ≡ handed l.k l.initial.area)
