-- `put_place` meets its contract: " at " and the place, or nothing.
use Rattle.ruledesk.specs.InCode.{place_told}
use Rattle.ruledesk.specs.Text.{codes}
use Rattle.ruledesk.proofs.TextLaws.{gains_text, gains_nothing, gains_both, gains_within}
use native.Mathlib.Omega.{arith}
use Rattle.ruledesk.proofs.lines.put_place.Goals as goal

pub returns-in-Some : goal.returns-in-Some
unfolding place_told
returns-in-Some c = rw c.in-Some.is (gains_both 4 20 (gains_text _ (codes " at ") c.push_str.ensures.bytes) c.put_decimal.ensures)

pub returns-in_default : goal.returns-in_default
unfolding place_told
returns-in_default c = rw c.in_default.is (gains_within 0 24 (omega arith) (gains_nothing c.args.line.now.bytes))
