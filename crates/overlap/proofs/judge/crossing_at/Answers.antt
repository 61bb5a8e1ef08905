-- `crossing_at` meets its contract: the two records are the rules at their places.
use mathlib.Core.Path.{ap, ap₂, ◌∙◌}
use mathlib.Core.List.{List, ◌∷◌}
use Prim.Native.Nat.{ℕ}
use Rattle.rules.specs.Overlap.{lowest_shared}
use Rattle.overlap.specs.Obstacle.{pair_told, crossing_told}
use Rattle.overlap.proofs.RecordLaws.{rule_at_lem}
use Rattle.overlap.proofs.judge.crossing_at.Goals as goal

pub returns : goal.returns
unfolding crossing_told pair_told
returns c =
    let a = c.args in
    let t = a.table.bytes.now in
    ap (λ (vs : List ℕ). a.lower ∷ a.higher ∷ vs)
    (c.lowest_shared-header.ensures
    ∙ ap₂ lowest_shared (rule_at_lem t a.lower c.requires.0 _ c.record.ensures) (rule_at_lem t a.higher c.requires.1 _ c.record-2.ensures))
