-- `rooted` meets its contract: the cleared roots have no children.
use mathlib.Core.Path.{ap}
use mathlib.Core.List.{List}
use Prim.Native.Nat.{ℕ}
use Rattle.area.specs.Grow.{mk}
use Rattle.index.specs.Steps.{cleared}
use Rattle.index.proofs.StepLaws.{roots_ready}
use Rattle.index.proofs.writing.rooted.Goals as goal

pub invariant_of-result : goal.invariant_of-result
invariant_of-result c =
    let ready = roots_ready _ _ c.requires c.clear.ensures in
    record { roots = ready.roots; whole = ready.whole; kids = ready.kids }

pub returns-clause-rooted : goal.returns-clause-rooted
unfolding cleared
returns-clause-rooted c = ap (λ (l : List ℕ). mk l 0 5) c.clear.ensures
