-- `put_refusal` meets its contract: "refused ", the number and the place.
use Rattle.ruledesk.proofs.LineLaws.{refused_told}
use Rattle.ruledesk.specs.Text.{codes}
use Rattle.ruledesk.proofs.TextLaws.{gains_text, gains_both}
use Rattle.ruledesk.proofs.lines.put_refusal.Goals as goal

pub returns : goal.returns
returns c =
    rw (refused_told c.args.refusal, ← c.number.ensures, ← c.place.ensures)
    (gains_both 8 44 (gains_text _ (codes "refused ") c.push_str.ensures.bytes) (gains_both 20 24 c.put_decimal.ensures c.put_place.ensures))
