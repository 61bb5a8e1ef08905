-- `build` meets its statement: the table is judged first, then the area's room, and only then is anything written.
use native.Mathlib.Omega.{arith}
use Rattle.std.proofs.lemmas.Result.{err_from_is_err_and}
use Rattle.rules.specs.Refusal.{told}
use Rattle.desk.proofs.BuildLaws.{refused_builds, short_builds, done_builds}
use Rattle.desk.proofs.build.Goals as goal

pub returns-in_err-table : goal.returns-in_err-table
unfolding told
returns-in_err-table c =
    let p = err_from_is_err_and c.from_residual.result c.from_residual.ensures.1 in
    rw (p.1, p.2) (refused_builds c.args.table.now c.args.area.now _ c.in_err-table.ensures.said)

pub returns-then-area-words : goal.returns-then-area-words
returns-then-area-words c =
    let t = c.in_ok-table.table in
    rw (← c.in_ok-table.ensures.same) (short_builds t.bytes.now c.args.area.now t.accepted (omega (arith, c.words_needed-words.ensures.0)))

pub returns : goal.returns
returns c =
    let t = c.in_ok-table.table in
    rw (← c.in_ok-table.ensures.same, c.words_needed-words.ensures.0, c.write.ensures)
    (done_builds t.bytes.now c.args.area.now t.accepted (omega (arith, c.words_needed-words.ensures.0)))
