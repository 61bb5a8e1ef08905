-- `rule_need` meets its contract: the sum of what the five fields need.
use mathlib.Core.Path.{refl, ◌∙◌}
use native.Mathlib.Omega.{arith}
use Rattle.std.proofs.Common.{rules}
use Rattle.std.proofs.lemmas.Iterator.{YieldsList-from_range, YieldsList-from_map}
use Rattle.std.proofs.lemmas.Iterator.Consumers.{sum_by_from_yields_List, fits_by_from_yields_list}
use Rattle.std.specs.List.{range_with_len}
use Rattle.index.proofs.SumLaws.{field_fresh, rule_sums, rule_small}
use Rattle.index.proofs.sizing.rule_need.Goals as goal

pub sum-requires-clause-fits : goal.sum-requires-clause-fits
sum-requires-clause-fits c =
    let t = c.args.table in
    let need = field_fresh t.bytes.now c.args.i in
    fits_by_from_yields_list need (range_with_len 0 5) c.map.result _
    (YieldsList-from_map _ need (YieldsList-from_range 0 5 5 c.map.ensures.source refl) c.map.ensures.closure (λ x b q k. search rules))
    (omega (arith, rule_sums t.bytes.now c.args.i c.requires, rule_small t.bytes.now t.accepted c.args.i c.requires))

pub returns : goal.returns
returns c =
    let t = c.args.table in
    let need = field_fresh t.bytes.now c.args.i in
    let all =
    sum_by_from_yields_List need (range_with_len 0 5) c.map.result _ c.sum.ensures.ran
    (YieldsList-from_map _ need (YieldsList-from_range 0 5 5 c.map.ensures.source refl) c.map.ensures.closure (λ x b q k. search rules))
    ∙ rule_sums t.bytes.now c.args.i c.requires in
    (all, omega (arith, all, rule_small t.bytes.now t.accepted c.args.i c.requires))
