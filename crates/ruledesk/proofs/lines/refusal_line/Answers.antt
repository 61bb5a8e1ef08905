-- `refusal_line` meets its contract: what a refused lookup says is what the refusal says.
use mathlib.Core.Path.{ap, ◌∙◌}
use Rattle.rules.specs.Refusal.{told}
use Rattle.ruledesk.specs.Lines.{line}
use Rattle.ruledesk.proofs.LineLaws.{refused_text_lem}
use Rattle.ruledesk.proofs.lines.refusal_line.Goals as goal

pub returns : goal.returns
unfolding told
returns c = c.answer_line.ensures ∙ ap line (refused_text_lem _)
