-- `clash` meets its contract: the two tests, one after the other.
use Rattle.rules.specs.Rule.{rule_of}
use Rattle.overlap.specs.Judge.{clashes}
use Rattle.overlap.proofs.judge.clash.Goals as goal

pub returns-then-shares : goal.returns-then-shares
unfolding clashes rule_of
returns-then-shares c = rw (← c.shares.ensures, ← c.same_action.ensures, c.if-shares.true)

pub returns-else-shares : goal.returns-else-shares
unfolding clashes
returns-else-shares c = rw (← c.shares.ensures, c.if-shares.false)
