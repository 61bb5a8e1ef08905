-- `six_rules` meets its contract: each record is added to those that stand at the table's start.
use mathlib.Core.Path.{◌≡◌}
use mathlib.Core.List.{◌++◌}
use Prim.Native.Nat.{◌*◌, ◌≤◌}
use lib.ListN.{length, take, drop}
use Rattle.rules.specs.Table.{record_size}
use Rattle.desk.specs.Worked.{six_rules}
use Rattle.samples.proofs.six.six_rules.Given as goal

abbrev pub invariant-loop-place : goal.invariant-loop-place
invariant-loop-place l = length six_rules ≤ length l.initial.table → l.table ≡ take (l.place * record_size) six_rules ++ drop (l.place * record_size) l.initial.table
