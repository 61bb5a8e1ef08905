-- `put_line` meets its contract.
use mathlib.Core.Path.{◌∙◌}
use native.Mathlib.Omega.{arith}
use Rattle.ruledesk.proofs.TextLaws.{writes_part}
use Rattle.ruledesk.proofs.report.put_line.Goals as goal

pub returns : goal.returns
returns c =
    let a = c.args in
    let same = c.copy_from_slice.ensures.after ∙ c.as_bytes.ensures.value ∙ c.as_str.ensures.value in
    (writes_part a.out.now a.at c.len.result a.line.bytes same c.len.ensures.value (omega (arith, c.len.ensures.fits)), omega (arith, c.len.ensures.fits))
