-- `set_bit` meets its contract: the shifted 1 is the power, and a bit in a vector leaves the children.
use Prim.Native.Nat.{◌%◌}
use native.Mathlib.Omega.{arith}
use lib.ListN.{length-set}
use Rattle.std.proofs.lemmas.Nat.{one_shl}
use Rattle.area.specs.Grow.{with_bit}
use Rattle.area.proofs.GrowLaws.{bit_kids}
use Rattle.area.proofs.grow.Growth.set_bit.Goals as goal

pub invariant_of-self : goal.invariant_of-self
unfolding with_bit
invariant_of-self c =
    let a = c.args in record {
      roots = a.self.now.roots;
      whole = simp length-set a.self.now.whole;
      kids = rw (one_shl (a.rule % 32) 32 (omega arith)) (bit_kids a.at a.rule _ _ c.requires.1 a.self.now.kids);
    }

pub returns-clause-set : goal.returns-clause-set
unfolding with_bit
returns-clause-set c = rw (one_shl (c.args.rule % 32) 32 (omega arith))
