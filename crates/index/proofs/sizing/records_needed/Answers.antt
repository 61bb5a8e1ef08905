-- `records_needed` meets its contract: the five roots, and the sum of what the rules need.
use mathlib.Core.Path.{◌≡◌, ap, ◌∙◌}
use Prim.Native.Nat.{ℕ, ◌+◌}
use native.Mathlib.Omega.{arith}
use Rattle.std.proofs.Common.{rules}
use Rattle.std.proofs.lemmas.Iterator.{YieldsList-from_range, YieldsList-from_map}
use Rattle.std.proofs.lemmas.Iterator.Consumers.{sum_by_from_yields_List, fits_by_from_yields_list}
use Rattle.std.specs.List.{sum_by, range_with_len}
use Rattle.rules.specs.Table.{rule_count}
use Rattle.index.specs.Need.{records}
use Rattle.index.proofs.SumLaws.{rule_fresh, records_sums, records_small}
use Rattle.index.proofs.sizing.records_needed.Goals as goal

pub sum-requires-clause-fits : goal.sum-requires-clause-fits
sum-requires-clause-fits c =
    let t = c.args.table in
    let need = rule_fresh t.bytes.now in
    let count = c.len.result in
    fits_by_from_yields_list need (range_with_len 0 count) c.map.result _
    (YieldsList-from_map _ need (YieldsList-from_range 0 count count c.map.ensures.source (omega arith)) c.map.ensures.closure (λ x b q k. search rules))
    (rw c.len.ensures.0 (omega (arith, records_small t.bytes.now t.accepted)))

-- the sum is what the rules add
summed : (c : goal.After-sum) → c.sum.result ≡ sum_by (rule_fresh c.args.table.bytes.now) (range_with_len 0 (rule_count c.args.table.bytes.now))
summed c =
    let need = rule_fresh c.args.table.bytes.now in
    let count = c.len.result in
    sum_by_from_yields_List need (range_with_len 0 count) c.map.result _ c.sum.ensures.ran
    (YieldsList-from_map _ need (YieldsList-from_range 0 count count c.map.ensures.source (omega arith)) c.map.ensures.closure (λ x b q k. search rules))
    ∙ ap (λ (n : ℕ). sum_by need (range_with_len 0 n)) c.len.ensures.0

pub overflow_add-result : goal.overflow_add-result
overflow_add-result c =
    let t = c.args.table in
    omega (arith, summed c, records_small t.bytes.now t.accepted)

pub returns : goal.returns
unfolding records
returns c =
    let t = c.args.table in (
      ap (λ (n : ℕ). 5 + n) (summed c ∙ records_sums t.bytes.now),
      omega (arith, summed c, records_small t.bytes.now t.accepted),
    )
