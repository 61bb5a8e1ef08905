-- `first_crossing` meets its contract: the first row with a pair that stands in the way has the first pair that does.
use mathlib.Core.Path.{◌∙◌}
use Rattle.std.proofs.Common.{rules, tests}
use Rattle.rules.specs.Table.{rule_count, rules_of}
use Rattle.overlap.proofs.FindMapLaws.{first_from_find_map}
use Rattle.overlap.proofs.ObstacleLaws.{Says, found_in_rows, told_order}
use Rattle.overlap.proofs.judge.first_crossing.Goals as goal

pub returns : goal.returns
returns c = λ order inverts.
    found_in_rows (rules_of c.args.table.bytes.now) c.args.places.now (rule_count c.args.table.bytes.now) c.find_map.result
    (rw c.len.ensures.0 at (first_from_find_map _ _ _ (Says (rules_of c.args.table.bytes.now) c.args.places.now (rule_count c.args.table.bytes.now)) (λ x r q k. search (rules, tests)) c.find_map.result c.find_map.ensures.runs))
    ∙ told_order c.args.table.bytes.now order c.args.places.now inverts
