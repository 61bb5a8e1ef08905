-- `judge` meets its statement: the table, the order, the output's room and the pairs are judged in that order, and only then is anything
-- written.
use mathlib.Core.Path.{◌≡◌, subst}
use mathlib.Core.List.{List}
use Prim.Native.Nat.{ℕ}
use Rattle.std.proofs.lemmas.Result.{err_from_is_err_and}
use Rattle.rules.specs.Refusal.{told}
use Rattle.overlap.specs.Obstacle.{obstacle_told}
use Rattle.overlap.specs.Steps.{Inverts}
use Rattle.desk.proofs.JudgeLaws.{refused_judges, no_order_judges, short_judges, crossed_judges, allowed_judges}
use Rattle.desk.proofs.judge.Goals as goal

pub returns-in_err-table : goal.returns-in_err-table
unfolding told
returns-in_err-table c =
    let p = err_from_is_err_and c.from_residual.result c.from_residual.ensures.1 in
    rw (p.1, p.2) (refused_judges c.args.table.now c.args.order.now c.args.output.now _ c.in_err-table.ensures.said)

pub returns-in_default : goal.returns-in_default
returns-in_default c =
    let t = c.in_ok-table.table in
    rw (← c.in_ok-table.ensures.same)
    (no_order_judges t.bytes.now c.args.order.now c.args.output.now t.accepted (rw (← c.len.ensures.0) c.in_default.ensures))

-- the table of new places, as of an order of so many rules
checked : {n m : ℕ} {order places : List ℕ} → n ≡ m → Inverts n order places → Inverts m order places
checked {order = order} {places = places} same i = subst (λ (k : ℕ). Inverts k order places) same i

pub returns-then-output-table : goal.returns-then-output-table
returns-then-output-table c =
    let t = c.in_ok-table.table in
    rw (← c.in_ok-table.ensures.same)
    (short_judges t.bytes.now c.args.order.now c.args.output.now t.accepted (checked c.len.ensures.0 c.in-Some.ensures).valid c.if-output-table.true)

pub returns-in-Some-first_crossing : goal.returns-in-Some-first_crossing
unfolding obstacle_told
returns-in-Some-first_crossing c =
    let t = c.in_ok-table.table in
    let inverts = checked c.len.ensures.0 c.in-Some.ensures in
    rw (← c.in_ok-table.ensures.same)
    (crossed_judges t.bytes.now c.args.order.now c.args.output.now t.accepted inverts.valid c.if-output-table.false _
    (c.in-Some-first_crossing.ensures c.args.order.now inverts))

pub returns : goal.returns
unfolding obstacle_told
returns c =
    let t = c.in_ok-table.table in
    let inverts = checked c.len.ensures.0 c.in-Some.ensures in
    rw (← c.in_ok-table.ensures.same, c.write_moved.ensures)
    (allowed_judges t.bytes.now c.args.order.now c.args.output.now t.accepted inverts.valid c.if-output-table.false
    (c.in_default-first_crossing.ensures c.args.order.now inverts))
