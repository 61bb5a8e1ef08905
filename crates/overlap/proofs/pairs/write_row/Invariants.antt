-- `write_row` meets its contract. The loop's invariant: the words of the pairs that are left, written here, are the row's at the start.
use mathlib.Core.List.{List}
use Prim.Native.Nat.{ℕ, ◌+◌, ◌-◌}
use Rattle.bits.proofs.WritingLaws.{Leaves}
use Rattle.rules.specs.Table.{rule_count}
use Rattle.overlap.specs.Pairs.{entries}
use Rattle.overlap.specs.Steps.{listed_row}
use Rattle.overlap.proofs.pairs.write_row.Given as goal

-- the words of the row's pairs from place j on
abbrev pub words : List ℕ → ℕ → ℕ → List ℕ
words table i j = entries (listed_row table i j (rule_count table - j))

abbrev pub invariant-loop-higher : goal.invariant-loop-higher
invariant-loop-higher l = Leaves l.initial.list 0 (words l.table.bytes.now l.lower (l.lower + 1)) l.list l.at (words l.table.bytes.now l.lower l.higher)
