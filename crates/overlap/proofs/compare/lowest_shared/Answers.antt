-- `lowest_shared` meets its contract: in each field the larger low end is the larger value.
use mathlib.Core.List.{[], ◌∷◌, zip_with}
use Rattle.rules.specs.Rule.{span_of, rule_of}
use Rattle.rules.specs.Overlap.{span_low, lowest_shared}
use Rattle.overlap.proofs.compare.lowest_shared.Goals as goal

pub returns : goal.returns
unfolding lowest_shared span_low rule_of span_of zip_with
returns c = λ i.
    c.larger_value.ensures.0 i
    ∷ c.larger_value-2.ensures.0 i
    ∷ c.larger_value-3.ensures.0 i
    ∷ c.larger_value-4.ensures.0 i
    ∷ c.larger_value-5.ensures.0 i
    ∷ []
