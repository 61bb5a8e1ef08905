-- `hand_on` meets its contract. The loop's invariant: the first k records have handed on.
use mathlib.Core.Path.{refl, sym}
use native.Mathlib.Omega.{arith}
use Rattle.area.proofs.HandLaws.{hand_none, hand_more, child_ready, child_sound}
use Rattle.area.proofs.hand.hand_on.Goals as goal

pub loop-k-init : goal.loop-k-init
loop-k-init c = (record { kids = c.requires.1; long = refl }, sym (hand_none _))

pub to_child-requires : goal.to_child-requires
to_child-requires c =
    child_ready _ _ _ _ _ c.requires.0 c.loop-k-test.true (omega arith) c.loop-k.invariant.0

pub to_child-requires-in-loop-k : goal.to_child-requires-in-loop-k
to_child-requires-in-loop-k c =
    let called = c.to_child.ensures in
    child_ready _ _ _ _ _ c.requires.0 c.loop-k-test.true (omega arith)
    (rw (← called) at (child_sound _ _ c.loop-k.k 0 _ c.loop-k.invariant.0))

pub loop-k-preserved : goal.loop-k-preserved
loop-k-preserved c =
    let first = c.to_child.ensures in
    let second = c.to_child-in-loop-k.ensures in (
      rw (second, first) (child_sound _ _ _ 1 _ (child_sound _ _ _ 0 _ c.loop-k.invariant.0)),
      rw (second, first, c.loop-k.invariant.1) (hand_more _ _),
    )
