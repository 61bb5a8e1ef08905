-- `matched` meets its contract: hold is kind 0 with feed 0, deliver is kind 1 with its feed.
use Rattle.lookup.specs.Said.{action_values}
use Rattle.face.proofs.answers.matched.Goals as goal

pub returns-in-Hold : goal.returns-in-Hold
unfolding action_values
returns-in-Hold c = rw c.in-Hold.is c.carrying.ensures

pub returns-in-Deliver : goal.returns-in-Deliver
unfolding action_values
returns-in-Deliver c = rw (c.in-Deliver.is, ← c.from.ensures) c.carrying-in-Deliver.ensures
