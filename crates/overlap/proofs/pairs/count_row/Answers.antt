-- `count_row` meets its contract: the places whose rules are listed with the row's.
use mathlib.Core.Path.{sym, ap, ◌∙◌}
use Prim.Native.Nat.{ℕ, ◌+◌, ◌-◌}
use native.Mathlib.Omega.{arith}
use Rattle.std.proofs.Common.{rules, tests}
use Rattle.std.proofs.lemmas.Iterator.{YieldsList-from_range}
use Rattle.std.proofs.lemmas.Iterator.Consumers.{YieldsList-from_filter, count_from_yields_List}
use Rattle.rules.specs.Rule.{rule_of}
use Rattle.rules.specs.Table.{rule_count, record_at}
use Rattle.overlap.specs.Pairs.{listed}
use Rattle.overlap.proofs.LoopLaws.{row_counted}
use Rattle.overlap.proofs.RecordLaws.{rule_at_lem}
use Rattle.overlap.proofs.pairs.count_row.Goals as goal

pub returns : goal.returns
returns c =
    count_from_yields_List c.filter.result c.count.result c.count.ensures.ran
    (YieldsList-from_filter _ (λ higher. listed (rule_of c.record-rule.result.bytes.now) (rule_of (record_at c.args.table.bytes.now higher)))
    (YieldsList-from_range (c.args.lower + 1) c.len.result (rule_count c.args.table.bytes.now - (c.args.lower + 1)) c.filter.ensures.source (ap (λ (n : ℕ). n - (c.args.lower + 1)) c.len.ensures.0)) c.filter.ensures.closure (λ x b q k. search (rules, tests)))
    ∙ sym
    (row_counted c.args.table.bytes.now (rule_of c.record-rule.result.bytes.now) c.args.lower (c.args.lower + 1) _
    (rule_at_lem c.args.table.bytes.now c.args.lower c.requires _ c.record-rule.ensures) (omega arith))
