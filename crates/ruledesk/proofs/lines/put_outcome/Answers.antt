-- `put_outcome` meets its contract: "none", or "match ", the place and the action.
use Rattle.lookup.specs.InCode.{outcome_said}
use Rattle.ruledesk.specs.Lines.{outcome_text}
use Rattle.ruledesk.proofs.LineLaws.{match_text}
use Rattle.ruledesk.specs.Text.{codes}
use Rattle.ruledesk.proofs.TextLaws.{gains_text, gains_both, gains_within}
use native.Mathlib.Omega.{arith}
use Rattle.ruledesk.proofs.lines.put_outcome.Goals as goal

pub returns-in-NoMatch : goal.returns-in-NoMatch
unfolding outcome_text outcome_said
returns-in-NoMatch c = rw c.in-NoMatch.is (gains_within 4 55 (omega arith) (gains_text _ (codes "none") c.push_str.ensures.bytes))

pub returns-in-Match : goal.returns-in-Match
returns-in-Match c =
    rw (c.in-Match.is, match_text _ _)
    (gains_both 6 49 (gains_text _ (codes "match ") c.push_str-in-Match.ensures.bytes) (gains_both 20 29 c.put_decimal.ensures c.put_action.ensures))
