-- `check_table` meets its contract. The loop's invariant: the rules so far are not at fault.
use mathlib.Core.Path.{◌≡◌}
use Prim.Native.Nat.{ℕ, ◌<◌}
use Rattle.rules.specs.Table.{record_at, fault}
use Rattle.rules.proofs.check.check_table.Given as goal

abbrev pub invariant-loop-place : goal.invariant-loop-place
invariant-loop-place l = (lower : ℕ) → lower < l.place → fault (record_at l.table lower) ≡ 0
