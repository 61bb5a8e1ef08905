-- `step` meets its contract: a child that is missing is made, one that is there is followed.
use mathlib.Core.Path.{sym, ◌∙◌}
use native.Mathlib.Omega.{arith}
use lib.ListN.{length-set}
use Rattle.area.specs.Growing.{standing}
use Rattle.area.proofs.GrowLaws.{down_new, down_old, made_room, linked_kids, made_linked}
use Rattle.area.proofs.grow.Growth.step.Goals as goal

pub returns-then-child-ne0-clause-moved : goal.returns-then-child-ne0-clause-moved
returns-then-child-ne0-clause-moved c =
    sym (down_old c.args.bit (standing c.args.self.now c.args.at) c.if-child-ne0.true)

pub make-made-requires : goal.make-made-requires
make-made-requires c =
    (made_room c.args.bit _ (standing c.args.self.now c.args.at) c.if-child-ne0.false c.requires.2).room

pub overflow_cast-self : goal.overflow_cast-self
overflow_cast-self c =
    let room = made_room c.args.bit _ (standing c.args.self.now c.args.at) c.if-child-ne0.false c.requires.2 in omega arith

pub invariant_of-self : goal.invariant_of-self
invariant_of-self c =
    let made = c.make-made.new.self in record {
      roots = made.roots;
      whole = simp length-set made.whole;
      kids = linked_kids _ _ _ _ (omega arith) made.kids;
    }

pub returns-clause-moved : goal.returns-clause-moved
returns-clause-moved c =
    let s = standing c.args.self.now c.args.at in
    let room = made_room c.args.bit _ s c.if-child-ne0.false c.requires.2 in
    let made = c.make-made.ensures in
    rw (made.next.1, made.cleared, made.next.0)
    (sym (down_new _ s c.if-child-ne0.false ∙ made_linked _ s.area s.at s.next c.requires.0 c.requires.1 room.room))
