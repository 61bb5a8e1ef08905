-- `try_blocks` meets its contract. The loop's invariant: what the blocks that are left give, with the false blocks counted so far, is what all give.
use mathlib.Core.Path.{◌≡◌, sym, ap, ◌∙◌}
use mathlib.Core.List.{List}
use Rattle.std.specs.Prelude.{Some}
use Prim.Native.Nat.{ℕ, ◌+◌, ◌-◌, ◌*◌}
use native.Mathlib.Omega.{arith}
use lib.Count.{count_trailing_zeros}
use Rattle.bits.specs.Word.{bit}
use Rattle.area.specs.Shape.{blocks, desk_shape}
use Rattle.lookup.specs.Scan.{found, scan, meet}
use Rattle.lookup.proofs.BlockTurns.{counted, counted_none, block_past, block_false, block_wins, blocks_done}
use Rattle.lookup.proofs.scan.try_blocks.Goals as goal
use Rattle.lookup.proofs.scan.try_blocks.Goals.{then-is_set+else-hit, else-is_set}

-- the word that is tried is the five aggregates in common
tried : {t u : ℕ} (vectors : List (List ℕ)) → t ≡ u → scan 32 (bit t) (meet desk_shape vectors) blocks 0 ≡ scan 32 (bit u) (meet desk_shape vectors) blocks 0
tried vectors e = ap (λ (t : ℕ). scan 32 (bit t) (meet desk_shape vectors) blocks 0) e

pub loop-b-init : goal.loop-b-init
loop-b-init c = (omega arith, omega arith, counted_none _)

pub returns-then-hit : goal.returns-then-hit
returns-then-hit c =
    let l = c.loop-b in
    let vectors = c.args.vectors in
    ap (λ (n : ℕ). found (Some (l.b * 32 + n)) l.falses) (c.lowest.ensures.0 ∙ ap (count_trailing_zeros 32) c.intersect-word.ensures)
    ∙ sym (block_wins (bit c.common_bits-tried.result) (meet desk_shape vectors) l.b c.loop-b-test.true l.falses
    (sym c.if-is_set.ensures) (λ z. c.if-hit.true (c.intersect-word.ensures ∙ z)))
    ∙ l.invariant.2
    ∙ tried c.args.vectors c.common_bits-tried.ensures

pub loop-b-preserved : goal.loop-b-preserved
loop-b-preserved c =
    let l = c.loop-b in
    let t = bit c.common_bits-tried.result in
    let w = meet desk_shape c.args.vectors in
    let rest : ℕ → _ = λ n. counted n (scan 32 t w (blocks - (l.b + 1)) (l.b + 1)) in
    elim c.if-is_set.branch [
      | then-is_set+else-hit o ↦ (
        omega arith,
        omega (arith, o.falses-is),
        ap rest o.falses-is
            ∙ sym (block_false t w l.b c.loop-b-test.true l.falses (sym c.is_set.ensures ∙ o.if-is_set.true) (sym o.intersect-word.ensures ∙ o.if-hit.false))
            ∙ l.invariant.2,
      )
      | else-is_set o ↦ (
        omega arith,
        omega (arith, o.falses-is),
        ap rest o.falses-is ∙ sym (block_past t w l.b c.loop-b-test.true l.falses (sym c.is_set.ensures ∙ o.if-is_set.false)) ∙ l.invariant.2,
      )
    ]

pub returns : goal.returns
returns c =
    let l = c.loop-b in
    sym (blocks_done (bit c.common_bits-tried.result) (meet desk_shape c.args.vectors) l.b l.falses c.loop-b-test.false)
    ∙ l.invariant.2
    ∙ tried c.args.vectors c.common_bits-tried.ensures
