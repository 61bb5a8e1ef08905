-- `count_pairs` meets its contract: the rows' numbers make up that of all pairs, of which there are few.
use mathlib.Core.Path.{◌≡◌, ap, ◌∙◌}
use mathlib.Core.List.{List}
use Prim.Native.Nat.{ℕ, ◌^◌, ◌<◌}
use native.Mathlib.Omega.{arith}
use lib.ListN.{length}
use Rattle.std.specs.List.{range_with_len, sum_by}
use Rattle.std.proofs.Common.{rules, tests}
use Rattle.std.proofs.lemmas.Iterator.{YieldsList-from_range, YieldsList-from_map}
use Rattle.std.proofs.lemmas.Iterator.Consumers.{sum_by_from_yields_List, fits_by_from_yields_list}
use Rattle.rules.specs.Table.{rule_count, rules_of, Accepted}
use Rattle.overlap.specs.Pairs.{pairs_of}
use Rattle.overlap.specs.Steps.{listed_with}
use Rattle.overlap.proofs.LoopLaws.{rows_counted, rows_all, pairs_few}
use Rattle.overlap.proofs.pairs.count_pairs.Goals as goal

-- the numbers of all rows
counted : (table : List ℕ) → sum_by (λ lower. length (listed_with table lower)) (range_with_len 0 (rule_count table)) ≡ length (pairs_of (rules_of table))
counted table = rows_counted table 0 (rule_count table) (omega arith) ∙ ap length (rows_all table)

fits : (table : List ℕ) → Accepted table → sum_by (λ lower. length (listed_with table lower)) (range_with_len 0 (rule_count table)) < 2 ^ 64
fits table accepted = omega (arith, counted table, pairs_few table accepted)

pub sum-requires-clause-fits : goal.sum-requires-clause-fits
sum-requires-clause-fits c =
    fits_by_from_yields_list (λ lower. length (listed_with c.args.table.bytes.now lower)) (range_with_len 0 (rule_count c.args.table.bytes.now)) c.map.result _
    (YieldsList-from_map _ (λ lower. length (listed_with c.args.table.bytes.now lower)) (YieldsList-from_range 0 c.len.result (rule_count c.args.table.bytes.now) c.map.ensures.source (omega (arith, c.len.ensures.0))) c.map.ensures.closure (λ x r q k. search (rules, tests)))
    (fits c.args.table.bytes.now c.args.table.accepted)

pub returns : goal.returns
returns c =
    sum_by_from_yields_List (λ lower. length (listed_with c.args.table.bytes.now lower)) (range_with_len 0 (rule_count c.args.table.bytes.now)) c.map.result c.sum.result c.sum.ensures.ran
    (YieldsList-from_map _ (λ lower. length (listed_with c.args.table.bytes.now lower)) (YieldsList-from_range 0 c.len.result (rule_count c.args.table.bytes.now) c.map.ensures.source (omega (arith, c.len.ensures.0))) c.map.ensures.closure (λ x r q k. search (rules, tests)))
    ∙ counted c.args.table.bytes.now
