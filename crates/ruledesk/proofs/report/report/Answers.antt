-- `report` meets its contract.
use mathlib.Core.Path.{◌≡◌, sym, ap, subst, ◌∙◌}
use native.Mathlib.Omega.{arith}
use Rattle.bits.specs.Number.{Bytes}
use Rattle.rules.specs.declared.Refusal.TheVariants.{NotAHeader}
use Rattle.rules.specs.Refusal.{said}
use Rattle.lookup.specs.Look.{look_said}
use Rattle.ruledesk.specs.InCode.{long_said}
use Rattle.ruledesk.specs.Lines.{refused_text, line}
use Rattle.ruledesk.specs.Program.{input_text}
use Rattle.ruledesk.proofs.TextLaws.{text_same}
use Rattle.ruledesk.proofs.ProgramLaws.{held_part, report_same, input_long, input_ragged, input_lines, text_said, reports_refused, reports_done, left_refused, long_refused}
use Rattle.ruledesk.proofs.report.report.Goals.{in_default-get-via-in-Some-get+else-bytes-eq0, in_default-get-via-in_default-get}
use Rattle.ruledesk.proofs.report.report.Goals as goal

pub returns-in_default-clause-reports : goal.returns-in_default-clause-reports
returns-in_default-clause-reports c table input held h =
    let area = c.args.area.now in
    let says = c.long_table.ensures ∙ ap long_said (sym held.size) ∙ sym (long_refused table area (omega (arith, held.size, c.in_default.ensures.lookup.0))) in
    record {
      text = text_same (c.refusal_line.ensures ∙ text_said table input area (omega arith) _ says) c.put_line.ensures.0;
      lent = left_refused table area _ says;
    }

pub returns-in-Err-clause-reports : goal.returns-in-Err-clause-reports
returns-in-Err-clause-reports c table input held h =
    let part = c.in-Some.ensures.lookup.0 in
    report_same (sym (held_part held part.1 part.2))
    (reports_refused _ input c.args.area.now (omega arith) c.build.ensures c.in-Err.is (text_same c.refusal_line-in-Err.ensures c.put_line-in-Err.ensures.0))

pub returns-in-Some-get-clause-reports : goal.returns-in-Some-get-clause-reports
returns-in-Some-get-clause-reports c table input held h =
    let part = c.in-Some.ensures.lookup.0 in
    let whole = held_part held part.1 part.2 in
    let read = c.in-Some-get.ensures.lookup.0 in
    let says = look_said c.in-Some.table.now c.build.new.area in
    let text = input_lines says c.in-Some-get.bytes.now (omega arith) c.if-bytes-eq0.true ∙ ap (input_text says) (sym (held_part h read.1 read.2)) in
    report_same (sym whole)
    (reports_done _ input c.args.area.now (omega arith) c.build.ensures c.in_default-build.is (subst Bytes whole held.each) h.each (text_same text c.put_answers.ensures.0))

pub returns-in_default-get-clause-reports : goal.returns-in_default-get-clause-reports
returns-in_default-get-clause-reports c table input held h =
    let part = c.in-Some.ensures.lookup.0 in
    let whole = held_part held part.1 part.2 in
    let says = look_said c.in-Some.table.now c.build.new.area in
    let text : line (refused_text (said NotAHeader)) ≡ input_text says input = elim c.in_default-get.branch [
      | in_default-get-via-in-Some-get+else-bytes-eq0 w ↦
          let read = w.in-Some-get.ensures.lookup.0 in
          input_ragged says input (omega (arith, h.size, read.1)) (λ e. w.if-bytes-eq0.false (omega (arith, e, h.size, read.3)))
      | in_default-get-via-in_default-get w ↦ input_long says input (omega (arith, h.size, w.in_default-get.ensures.lookup.0))
    ] in
    report_same (sym whole)
    (reports_done _ input c.args.area.now (omega arith) c.build.ensures c.in_default-build.is (subst Bytes whole held.each) h.each
    (text_same (c.refusal_line-in_default-get.ensures ∙ text) c.put_line-in_default-get.ensures.0))
