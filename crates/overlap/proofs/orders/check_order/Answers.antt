-- `check_order` meets its contract. The loop's invariant: the table notes the entries that are passed.
use mathlib.Core.Path.{◌≡◌}
use native.Mathlib.Omega.{arith}
use Rattle.overlap.proofs.OrderLaws.{order_size, order_large}
use Rattle.overlap.proofs.InverseLaws.{noted_none, noted_more, noted_twice, inverts_all}
use Rattle.overlap.proofs.orders.check_order.Goals as goal
use Rattle.overlap.proofs.orders.check_order.Goals.{then-rules-old-via-then-rules-old, then-rules-old-via-else-rules-old+then-places-old-ne-UNSEEN}

pub returns-then-order-rules : goal.returns-then-order-rules
returns-then-order-rules c = order_size c.args.rules c.args.order.now c.if-order-rules.true

pub loop-place-init : goal.loop-place-init
loop-place-init c = noted_none c.args.rules c.args.order.now c.requires

pub returns-then-rules-old : goal.returns-then-rules-old
returns-then-rules-old c =
    let a = c.args in
    let l = c.loop-place in
    elim c.then-rules-old.branch [
      | then-rules-old-via-then-rules-old w ↦ order_large a.rules a.order.now l.place (omega arith) (omega (arith, c.from-old.ensures, w.if-rules-old.true))
      | then-rules-old-via-else-rules-old+then-places-old-ne-UNSEEN w ↦
          noted_twice a.rules a.order.now c.requires l.place (omega arith) l.places l.invariant c.from-old.result c.from-old.ensures w.if-rules-old.false
          c.if-order-rules.false w.if-places-old-ne-UNSEEN.true
    ]

pub loop-place-preserved : goal.loop-place-preserved
loop-place-preserved c =
    let a = c.args in
    let l = c.loop-place in
    noted_more a.rules a.order.now c.requires l.place (omega arith) l.places l.invariant c.from-old.result c.from-old.ensures (omega arith) (omega arith)

pub returns : goal.returns
returns c =
    let e : c.loop-place.place ≡ c.args.rules = omega arith in
    inverts_all c.args.rules c.args.order.now c.loop-place.places c.if-order-rules.false (rw e at c.loop-place.invariant)
