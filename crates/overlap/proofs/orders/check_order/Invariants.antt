-- `check_order` meets its contract. The loop's invariant: the table notes the entries that are passed.
use Rattle.overlap.proofs.InverseLaws.{Noted}
use Rattle.overlap.proofs.orders.check_order.Given as goal

abbrev pub invariant-loop-place : goal.invariant-loop-place
invariant-loop-place l = Noted l.rules l.order l.place l.places
