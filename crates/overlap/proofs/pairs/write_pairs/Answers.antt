-- `write_pairs` meets its contract. The loop's invariant: the words of the pairs that are left, written here, are all pairs' at the start.
use mathlib.Core.Path.{◌≡◌, ap, ◌∙◌}
use mathlib.Core.List.{List, ◌++◌}
use Prim.Native.Nat.{ℕ, ◌+◌, ◌*◌, ◌≤◌, ◌<◌}
use native.Mathlib.Omega.{arith}
use lib.ListN.{length, drop, length-drop}
use Rattle.bits.proofs.WritingLaws.{Leaves, leaves_all, leaves_room, leaves_rest, leaves_none, writes_front, writes_kept}
use Rattle.bits.proofs.ListLaws.{part_from}
use Rattle.rules.specs.Table.{rule_count, rules_of}
use Rattle.overlap.specs.Pairs.{pairs_of, entries}
use Rattle.overlap.specs.Steps.{listed_with}
use Rattle.overlap.proofs.LoopLaws.{rows_parts, rows_done, rows_all, entries_append, entries_size}
use Rattle.overlap.proofs.PutLaws.{writes_within}
use Rattle.overlap.proofs.pairs.write_pairs.Invariants.{words, all}
use Rattle.overlap.proofs.pairs.write_pairs.Goals as goal

-- the words that are left are one row's and the rest
parts : (table : List ℕ) (i : ℕ) → i < rule_count table → words table i ≡ entries (listed_with table i) ++ words table (i + 1)
parts table i h = ap entries (rows_parts table i h) ∙ simp entries_append

-- a row has room
row_room : (table : List ℕ) (i : ℕ) {list mid : List ℕ} {at : ℕ} → Leaves list 0 (all table) mid at (words table i) → i < rule_count table
    → 2 * length (pairs_of (rules_of table)) ≤ length list → at + length (entries (listed_with table i)) ≤ length mid
row_room table i left inside room =
    leaves_room left (entries (listed_with table i)) (words table (i + 1)) (parts table i inside) (omega (arith, room, entries_size (pairs_of (rules_of table))))

pub loop-lower-init : goal.loop-lower-init
loop-lower-init c = (omega arith, rw (ap entries (rows_all c.args.table.bytes.now)) (leaves_all c.args.list.now 0 (all c.args.table.bytes.now)))

pub write_row-at-requires-clause-room : goal.write_row-at-requires-clause-room
write_row-at-requires-clause-room c =
    rw (part_from c.loop-lower.at c.loop-lower.list, length-drop)
    (omega (arith, row_room c.args.table.bytes.now c.loop-lower.lower c.loop-lower.invariant.1 (omega arith) c.requires))

pub overflow_add-at : goal.overflow_add-at
overflow_add-at c =
    omega (arith, c.write_row-at.ensures.ends, row_room c.args.table.bytes.now c.loop-lower.lower c.loop-lower.invariant.1 (omega arith) c.requires)

pub loop-lower-preserved : goal.loop-lower-preserved
loop-lower-preserved c =
    let room = row_room c.args.table.bytes.now c.loop-lower.lower c.loop-lower.invariant.1 (omega arith) c.requires in
    let row = writes_within c.loop-lower.list _ _ c.loop-lower.at _ room c.write_row-at.ensures in (
      omega (arith, row.ends, writes_kept row, room),
      leaves_rest c.loop-lower.invariant.1 (words c.args.table.bytes.now (c.loop-lower.lower + 1)) (parts c.args.table.bytes.now c.loop-lower.lower (omega arith)) row,
    )

pub returns : goal.returns
unfolding entries
returns c =
    let t = c.args.table.bytes.now in
    let w = leaves_none c.loop-lower.invariant.1 (ap entries (rows_done t c.loop-lower.lower (omega arith))) in
    writes_front (omega (arith, c.requires, entries_size (pairs_of (rules_of t)))) w ∙ ap (λ (n : ℕ). all t ++ drop n c.args.list.now) (entries_size (pairs_of (rules_of t)))
