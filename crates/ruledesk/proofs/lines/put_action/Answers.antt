-- `put_action` meets its contract: " hold", or " deliver " and the feed.
use Rattle.ruledesk.specs.InCode.{action_told}
use Rattle.ruledesk.specs.Text.{codes}
use Rattle.ruledesk.proofs.TextLaws.{gains_text, gains_both, gains_within}
use native.Mathlib.Omega.{arith}
use Rattle.ruledesk.proofs.lines.put_action.Goals as goal

pub returns-in-Hold : goal.returns-in-Hold
unfolding action_told
returns-in-Hold c = rw c.in-Hold.is (gains_within 5 29 (omega arith) (gains_text _ (codes " hold") c.push_str.ensures.bytes))

pub returns-in-Deliver : goal.returns-in-Deliver
unfolding action_told
returns-in-Deliver c = rw (c.in-Deliver.is, ← c.from.ensures) (gains_both 9 20 (gains_text _ (codes " deliver ") c.push_str-in-Deliver.ensures.bytes) c.put_decimal.ensures)
