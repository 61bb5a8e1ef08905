-- `try_blocks` meets its contract. The loop's invariant: what the blocks that are left give, with the false blocks counted so far, is what all give.
use mathlib.Core.Path.{◌≡◌}
use Prim.Native.Nat.{◌-◌, ◌≤◌}
use Rattle.bits.specs.Word.{bit}
use Rattle.area.specs.Shape.{blocks, desk_shape}
use Rattle.lookup.specs.Scan.{scan, meet}
use Rattle.lookup.proofs.BlockTurns.{counted}
use Rattle.lookup.proofs.scan.try_blocks.Given as goal

abbrev pub invariant-loop-b : goal.invariant-loop-b
invariant-loop-b l = (l.b ≤ blocks) × (l.falses ≤ l.b) × (counted l.falses (scan 32 (bit l.tried) (meet desk_shape l.vectors) (blocks - l.b) l.b) ≡ scan 32 (bit l.tried) (meet desk_shape l.vectors) blocks 0)
