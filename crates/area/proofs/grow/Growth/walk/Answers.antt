-- `walk` meets its contract. The loop's invariant: words, record and next record are those of the first j steps.
use mathlib.Core.Path.{refl, sym, ◌∙◌}
use Rattle.area.specs.Growing.{standing}
use Rattle.area.proofs.GrowLaws.{growth_ready, walked_none, walked_step, walked_more}
use Rattle.area.proofs.grow.Growth.walk.Goals as goal

pub loop-j-init : goal.loop-j-init
loop-j-init c = record { same_words = refl; moved = sym (walked_none _ _ _) }

pub step-at-requires : goal.step-at-requires
step-at-requires c =
    let a = c.args in
    let start = growth_ready a.self.now a.root c.requires.0 in
    walked_step _ _ (standing a.self.now a.root) _ (standing c.loop-j.self c.loop-j.at) _ c.loop-j.invariant.moved c.bit.ensures _ start c.requires.1 c.loop-j-test.true

pub loop-j-preserved : goal.loop-j-preserved
loop-j-preserved c =
    let was = c.loop-j.invariant in record {
      same_words = c.step-at.ensures.same_words ∙ was.same_words;
      moved = c.step-at.ensures.moved ∙ walked_more _ _ _ _ _ _ was.moved c.bit.ensures;
    }
