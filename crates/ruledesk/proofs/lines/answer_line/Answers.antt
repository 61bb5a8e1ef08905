-- `answer_line` meets its contract: the text, case by case, and a line end.
use mathlib.Core.Path.{◌≡◌, ap, ◌∙◌}
use mathlib.Core.List.{List, ◌++◌}
use Prim.Native.Nat.{ℕ}
use Rattle.rules.specs.Refusal.{told}
use Rattle.lookup.specs.InCode.{answer_values}
use Rattle.ruledesk.specs.Text.{codes}
use Rattle.ruledesk.specs.Lines.{answer_text, line}
use Rattle.ruledesk.proofs.LineLaws.{refused_text_lem}
use Rattle.ruledesk.proofs.TextLaws.{gains_alone}
use Rattle.ruledesk.proofs.lines.answer_line.Goals.{in-Ok, in-Err}
use Rattle.ruledesk.proofs.lines.answer_line.Goals as goal

pub returns : goal.returns
unfolding told answer_text line
returns c =
    let text : c.match-looked.line.bytes ≡ answer_text (told answer_values c.args.looked) =
    elim c.match-looked.branch [
      | in-Ok w ↦ rw (w.line-is, w.in-Ok.is) (gains_alone 55 c.new-line.ensures w.put_outcome.ensures)
      | in-Err w ↦ rw (w.line-is, w.in-Err.is, refused_text_lem _) (gains_alone 52 c.new-line.ensures w.put_refusal.ensures)
    ] in
    c.push_str.ensures.bytes ∙ ap (λ (l : List ℕ). l ++ codes "\n") text
