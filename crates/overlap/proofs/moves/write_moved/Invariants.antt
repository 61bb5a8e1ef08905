-- `write_moved` meets its contract. The loop's invariant: the records of the places so far are written, and the other bytes stand as they
-- were.
use mathlib.Core.Path.{◌≡◌}
use mathlib.Core.List.{◌++◌}
use Prim.Native.Nat.{◌*◌, ◌≤◌}
use lib.ListN.{length, take, drop}
use Rattle.rules.specs.Table.{record_size}
use Rattle.overlap.specs.Order.{moved_table}
use Rattle.overlap.proofs.moves.write_moved.Given as goal

abbrev pub invariant-loop-place : goal.invariant-loop-place
invariant-loop-place l =
    (length l.order * record_size ≤ length l.initial.output)
    × (l.output ≡ moved_table l.table.bytes.now (take l.place l.order) ++ drop (l.place * record_size) l.initial.output)
