-- `write_pairs` meets its contract. The loop's invariant: the words of the pairs that are left, written here, are all pairs' at the start.
use mathlib.Core.List.{List}
use Prim.Native.Nat.{ℕ, ◌≤◌}
use lib.ListN.{length}
use Rattle.bits.proofs.WritingLaws.{Leaves}
use Rattle.rules.specs.Table.{rules_of}
use Rattle.overlap.specs.Pairs.{pairs_of, entries}
use Rattle.overlap.specs.Steps.{listed_from}
use Rattle.overlap.proofs.pairs.write_pairs.Given as goal

-- the words of the pairs from place i on
abbrev pub words : List ℕ → ℕ → List ℕ
words table i = entries (listed_from table i)

abbrev pub all : List ℕ → List ℕ
all table = entries (pairs_of (rules_of table))

abbrev pub invariant-loop-lower : goal.invariant-loop-lower
invariant-loop-lower l = (l.at ≤ length l.list) × Leaves l.initial.list 0 (all l.table.bytes.now) l.list l.at (words l.table.bytes.now l.lower)
