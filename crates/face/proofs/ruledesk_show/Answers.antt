-- `ruledesk_show` meets its statement: the desk's part is empty exactly where no whole record stands.
use native.Mathlib.Omega.{arith}
use Rattle.face.proofs.PointsLaws.{one_there, points_none, points_some}
use Rattle.face.proofs.ruledesk_show.Goals as goal

pub returns-then-length-eq0 : goal.returns-then-length-eq0
returns-then-length-eq0 c =
    let a = c.args in
    points_none a.table.now a.place _ c.show-part.ensures.answer c.if-length-eq0.true

pub overflow_mul-result : goal.overflow_mul-result
overflow_mul-result c =
    let a = c.args in
    omega (arith, one_there a.table.now a.place _ c.show-part.ensures.answer c.if-length-eq0.false)

pub returns : goal.returns
returns c =
    let a = c.args in
    points_some a.table.now a.place _ c.show-part.ensures.answer c.if-length-eq0.false
