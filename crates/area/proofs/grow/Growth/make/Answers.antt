-- `make` meets its contract: a cleared record has no children.
use native.Mathlib.Omega.{arith}
use Rattle.area.proofs.GrowLaws.{cleared_kids}
use Rattle.area.proofs.grow.Growth.make.Goals as goal

pub invariant_of-self : goal.invariant_of-self
invariant_of-self c = record {
  roots = omega arith;
  whole = omega (arith, c.clear.auto.area);
  kids = rw c.clear.ensures (cleared_kids _ _ c.requires c.args.self.now.kids);
}
