-- `put_answers` meets its contract. The loop's invariant: the lines of the headers so far are put.
use Prim.Native.Nat.{◌*◌}
use Rattle.lookup.specs.Look.{look_said}
use Rattle.ruledesk.specs.InCode.{Puts}
use Rattle.ruledesk.specs.Program.{first_lines}
use Rattle.ruledesk.proofs.report.put_answers.Given as goal

abbrev pub invariant-loop-header : goal.invariant-loop-header
invariant-loop-header l =
    Puts (l.header-index * 64) l.initial.out 0 (first_lines (look_said l.table l.area) l.input l.header-index) l.out l.at
