-- `pairs` meets its statement: the table is judged first, then the list's room, and only then is anything written.
use native.Mathlib.Omega.{arith}
use Rattle.std.proofs.lemmas.Result.{err_from_is_err_and}
use Rattle.rules.specs.Refusal.{told}
use Rattle.overlap.proofs.LoopLaws.{pairs_few}
use Rattle.desk.proofs.PairsLaws.{refused_pairs, short_pairs, listed_pairs}
use Rattle.desk.proofs.pairs.Goals as goal

pub returns-in_err-table : goal.returns-in_err-table
unfolding told
returns-in_err-table c =
    let p = err_from_is_err_and c.from_residual.result c.from_residual.ensures.1 in
    rw (p.1, p.2) (refused_pairs c.args.table.now c.args.list.now _ c.in_err-table.ensures.said)

pub overflow_mul-count : goal.overflow_mul-count
overflow_mul-count c =
    let t = c.in_ok-table.table in
    omega (arith, c.count_pairs-count.ensures, pairs_few t.bytes.now t.accepted)

pub returns-then-list-count : goal.returns-then-list-count
returns-then-list-count c =
    let t = c.in_ok-table.table in
    rw (← c.in_ok-table.ensures.same) (short_pairs t.bytes.now c.args.list.now t.accepted (omega (arith, c.count_pairs-count.ensures)))

pub write_pairs-requires : goal.write_pairs-requires
write_pairs-requires c = omega (arith, c.count_pairs-count.ensures)

pub returns : goal.returns
returns c =
    let t = c.in_ok-table.table in
    rw (← c.in_ok-table.ensures.same, c.count_pairs-count.ensures, c.write_pairs.ensures)
    (listed_pairs t.bytes.now c.args.list.now t.accepted (omega (arith, c.count_pairs-count.ensures)))
