-- `write_row` meets its contract. The loop's invariant: the words of the pairs that are left, written here, are the row's at the start.
use mathlib.Core.Path.{◌≡◌, refl, sym, ap, ap₂, ◌∙◌}
use mathlib.Core.Bool.{true, false}
use mathlib.Core.List.{List, [], ◌∷◌, ◌++◌}
use Prim.Native.Nat.{ℕ, ◌+◌, ◌≤◌, ◌<◌}
use native.Mathlib.Omega.{arith}
use Rattle.bits.proofs.WritingLaws.{Leaves, writes_nothing, leaves_all, leaves_room, leaves_rest, leaves_none}
use lib.ListN.{length}
use Rattle.rules.specs.Rule.{rule_of}
use Rattle.rules.specs.Match.{rule_at}
use Rattle.rules.specs.Table.{rule_count, rules_of, record_at}
use Rattle.overlap.specs.Pairs.{listed, entries}
use Rattle.overlap.specs.Steps.{listed_row}
use Rattle.overlap.proofs.LoopLaws.{one_listed, none_listed, row_parts, row_done, entries_append}
use Rattle.overlap.proofs.RecordLaws.{rule_at_lem}
use Rattle.overlap.proofs.PutLaws.{writes_copied}
use Rattle.overlap.proofs.pairs.write_row.Invariants.{words}
use Rattle.overlap.proofs.pairs.write_row.Goals as goal
use Rattle.overlap.proofs.pairs.write_row.Goals.{then-is_listed, else-is_listed}

-- the words that are left are one pair's and the rest
parts : (table : List ℕ) (i j : ℕ) → j < rule_count table → words table i j ≡ entries (listed_row table i j 1) ++ words table i (j + 1)
parts table i j h = ap entries (row_parts table i j h) ∙ simp entries_append

module _ (table : List ℕ) (i j : ℕ) {a b : List ℕ} (here : a ≡ record_at table i) (there : b ≡ record_at table j) (low : i < rule_count table) (high : j < rule_count table) where
  tested : listed (rule_of a) (rule_of b) ≡ listed (rule_at (rules_of table) i) (rule_at (rules_of table) j)
  tested = ap₂ listed (rule_at_lem table i low a here) (rule_at_lem table j high b there)

  -- where the pair is listed
  pair_words : listed (rule_of a) (rule_of b) ≡ true → entries (listed_row table i j 1) ≡ i ∷ j ∷ []
  unfolding entries
  pair_words e = ap entries (one_listed table i j (sym tested ∙ e))

  -- and where it is not
  no_words : listed (rule_of a) (rule_of b) ≡ false → entries (listed_row table i j 1) ≡ []
  unfolding entries
  no_words e = ap entries (none_listed table i j (sym tested ∙ e))

-- a listed pair has room
pair_room : (table : List ℕ) (i j : ℕ) {list mid all : List ℕ} {at : ℕ} → Leaves list 0 all mid at (words table i j) → j < rule_count table → length all ≤ length list
    → entries (listed_row table i j 1) ≡ i ∷ j ∷ [] → at + 2 ≤ length mid
pair_room table i j left inside room e =
    omega (arith, leaves_room left (entries (listed_row table i j 1)) (words table i (j + 1)) (parts table i j inside) (omega (arith, room)), ap length e)

pub loop-higher-init : goal.loop-higher-init
loop-higher-init c = leaves_all c.args.list.now 0 (words c.args.table.bytes.now c.args.lower (c.args.lower + 1))

pub slice_bounds-copy_from_slice-end : goal.slice_bounds-copy_from_slice-end
slice_bounds-copy_from_slice-end c =
    pair_room c.args.table.bytes.now c.args.lower c.loop-higher.higher c.loop-higher.invariant (omega arith) c.requires.room
    (pair_words c.args.table.bytes.now c.args.lower c.loop-higher.higher c.record-rule.ensures c.record.ensures c.requires.place (omega arith) (sym c.if-is_listed.ensures))

pub loop-higher-preserved : goal.loop-higher-preserved
loop-higher-preserved c =
    let t = c.args.table.bytes.now in
    let i = c.args.lower in
    let j = c.loop-higher.higher in
    leaves_rest c.loop-higher.invariant {first = entries (listed_row t i j 1)} (words t i (j + 1)) (parts t i j (omega arith))
    (elim c.if-is_listed.branch [
      | then-is_listed w ↦
          let e = pair_words t i j c.record-rule.ensures c.record.ensures c.requires.place (omega arith) (sym w.if-is_listed.ensures) in
          rw (w.list-is, w.at-is, w.copy_from_slice.ensures.after, e)
          (writes_copied c.loop-higher.list (i ∷ j ∷ []) c.loop-higher.at (c.loop-higher.at + 2) refl (pair_room t i j c.loop-higher.invariant (omega arith) c.requires.room e))
      | else-is_listed w ↦
          rw (w.list-is, w.at-is, no_words t i j c.record-rule.ensures c.record.ensures c.requires.place (omega arith) (sym w.if-is_listed.ensures))
          (writes_nothing c.loop-higher.list c.loop-higher.at)
    ])

pub returns : goal.returns
unfolding entries
returns c =
    leaves_none c.loop-higher.invariant (ap entries (row_done c.args.table.bytes.now c.args.lower c.loop-higher.higher (omega arith)))
