-- `insert` meets its contract: the walk, and the bit at its end.
use mathlib.Core.Path.{ap, ◌∙◌}
use native.Mathlib.Omega.{arith}
use Rattle.area.specs.Grow.{State, with_bit, inserted}
use Rattle.area.specs.Growing.{standing}
use Rattle.area.proofs.GrowLaws.{growth_ready, walked_inside}
use Rattle.area.proofs.grow.Growth.insert.Goals as goal

pub set_bit-requires : goal.set_bit-requires
set_bit-requires c =
    let a = c.args in
    let start = growth_ready a.self.now a.root c.requires.in_reach.0 in
    (walked_inside _ _ _ (standing a.self.now a.root) (standing c.walk-at.new.self c.walk-at.result) start c.requires.room c.walk-at.ensures.moved, omega arith)

pub returns-clause-inserted : goal.returns-clause-inserted
unfolding inserted
returns-clause-inserted c =
    let walked = c.walk-at.ensures.moved in
    let set = c.set_bit.ensures.set in (
      ap (λ (s : State). s.area) set ∙ ap (λ (s : State). with_bit s.at c.args.rule s.area) walked,
      ap (λ (s : State). s.next) set ∙ ap (λ (s : State). s.next) walked,
    )
