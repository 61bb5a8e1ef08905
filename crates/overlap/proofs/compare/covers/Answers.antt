-- `covers` meets its contract: the test of each field in turn.
use mathlib.Core.Path.{refl, ◌∙◌}
use Rattle.std.proofs.Common.{rules, tests}
use Rattle.std.proofs.lemmas.Iterator.{YieldsList-from_range}
use Rattle.std.proofs.lemmas.Iterator.Search.{all_from_yields_List}
use Rattle.rules.specs.Overlap.{span_covers, covers}
use Rattle.overlap.proofs.RecordLaws.{in_field_of, in_fields}
use Rattle.overlap.proofs.compare.covers.Goals as goal

pub returns : goal.returns
unfolding covers
returns c =
    all_from_yields_List (in_field_of span_covers c.args.a.bytes.now c.args.b.bytes.now) _ _ c.all.result c.all.ensures.ran (YieldsList-from_range 0 5 5 refl refl)
    (λ x b q k. search (rules, tests))
    ∙ in_fields span_covers c.args.a.bytes.now c.args.b.bytes.now
