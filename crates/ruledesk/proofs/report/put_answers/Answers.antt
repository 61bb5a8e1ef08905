-- `put_answers` meets its contract. The loop's invariant: the lines of the headers so far are put.
use mathlib.Core.Path.{sym, ap, ◌∙◌}
use mathlib.Core.List.{List, []}
use Prim.Native.Nat.{ℕ}
use native.Mathlib.Omega.{arith}
use lib.ListN.{get_or}
use Rattle.bits.proofs.WritingLaws.{writes_nothing, writes_kept}
use Rattle.lookup.specs.Look.{look_said}
use Rattle.ruledesk.specs.Lines.{answer_text, line}
use Rattle.ruledesk.proofs.TextLaws.{text_same}
use Rattle.ruledesk.proofs.ProgramLaws.{lines_none, lines_put, header_chunk}
use Rattle.ruledesk.proofs.report.put_answers.Goals as goal

pub loop-header-init : goal.loop-header-init
loop-header-init c =
    let a = c.args in
    (text_same (sym (lines_none (look_said a.table.now a.area.now) a.input.now)) (writes_nothing a.out.now 0), omega arith)

pub put_line-at-requires : goal.put_line-at-requires
put_line-at-requires c = omega (arith, writes_kept c.loop-header.invariant.0, c.as_chunks.ensures.front_len)

pub loop-header-preserved : goal.loop-header-preserved
loop-header-preserved c =
    let a = c.args in
    let n = c.loop-header.header-index in
    let says = look_said a.table.now a.area.now in
    let chunks = c.as_chunks.ensures in
    let header = ap (λ (l : List (List ℕ)). get_or l n []) chunks.front ∙ header_chunk a.input.now _ n (omega (arith, chunks.front_len)) in
    let answer = c.answer_line.ensures ∙ ap (λ (l : List ℕ). line (answer_text l)) (c.lookup.ensures.answer ∙ ap says header) in
    let put = c.put_line-at.ensures in
    lines_put says a.input.now n c.loop-header.invariant (text_same answer put.0, put.1)
