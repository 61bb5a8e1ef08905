-- `go_down` meets its contract. The loop's invariant: from here, by the bits that are left, the walk ends where the whole walk ends.
use mathlib.Core.Path.{◌≡◌}
use Prim.Native.Nat.{◌-◌, ◌/◌, ◌≤◌, ◌<◌}
use lib.ListN.{length}
use Rattle.bits.specs.Path.{bits}
use Rattle.area.specs.Shape.{desk_shape, record_words}
use Rattle.lookup.specs.Walk.{walk_from}
use Rattle.lookup.proofs.walk.go_down.Given as goal

abbrev pub invariant-loop-j : goal.invariant-loop-j
invariant-loop-j l = (l.j ≤ l.width) × (l.row < length l.area / record_words) × (walk_from desk_shape l.area l.row (bits (l.width - l.j) l.value) ≡ walk_from desk_shape l.area l.root (bits l.width l.value))
