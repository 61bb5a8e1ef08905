-- `write_moved` meets its contract. The loop's invariant: the records of the places so far are written, and the other bytes stand as they
-- were.
use mathlib.Core.Path.{◌≡◌, ap, ◌∙◌}
use mathlib.Core.List.{List, ◌++◌}
use Prim.Native.Nat.{ℕ, ◌+◌, ◌-◌, ◌*◌}
use native.Mathlib.Omega.{arith}
use lib.ListN.{length, take, drop, length-drop}
use lib.Seq.{take-length}
use borrow.Rule.Slice.PartMut.{put_mid}
use Rattle.bits.proofs.ListLaws.{part_from}
use Rattle.rules.specs.Table.{record_size, record_at}
use Rattle.overlap.specs.Order.{old_place, moved_table}
use Rattle.overlap.proofs.OrderLaws.{order}
use Rattle.overlap.proofs.TableMoves.{accepted_whole}
use Rattle.overlap.proofs.PutLaws.{moved_none, moved_more, moved_front, put_one}
use Rattle.overlap.proofs.moves.write_moved.Goals as goal

pub loop-place-init : goal.loop-place-init
loop-place-init c = (omega (arith, (order _ _ c.requires.0).size, c.requires.1), rw (moved_none c.args.table.bytes.now))

pub record-requires : goal.record-requires
record-requires c =
    let O = order _ _ c.requires.0 in
    omega (arith, c.from-old.ensures, O.below c.loop-place.place (omega (arith, O.size)))

pub put_record-requires : goal.put_record-requires
put_record-requires c = rw (part_from (c.loop-place.place * record_size) c.loop-place.output, length-drop) (omega arith)

pub loop-place-preserved : goal.loop-place-preserved
loop-place-preserved c =
    let table = c.args.table.bytes.now in
    let os = c.args.order.now in
    let o = c.loop-place.output in
    let p = c.loop-place.place in
    let rest = length o - p * record_size in
    let rule = record_at table (old_place os p) in
    let next : p * record_size + record_size ≡ (p + 1) * record_size = omega arith in (
      c.loop-place.invariant.0,
      ap (put_mid (p * record_size) rest o)
          (c.put_record.ensures ∙ ap (λ (r : List ℕ). r ++ drop record_size (take rest (drop (p * record_size) o))) (c.record.ensures ∙ ap (record_at table) c.from-old.ensures))
          ∙ put_one (moved_table table (take p os)) rule c.args.output.now o (p * record_size) c.loop-place.invariant.1
          (moved_front table os (order _ _ c.requires.0) p (omega arith))
          ∙ rw (next, ← moved_more table os p (omega arith)),
    )

pub returns : goal.returns
returns c =
    let os = c.args.order.now in
    let e : c.loop-place.place ≡ length os = omega arith in
    let whole : length os * record_size ≡ length c.args.table.bytes.now = omega (arith, (order _ _ c.requires.0).size, accepted_whole c.args.table.bytes.now c.args.table.accepted) in
    c.loop-place.invariant.1 ∙ rw (e, take-length, whole)
