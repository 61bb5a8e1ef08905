-- `said_of` meets its contract: where there is no place, nothing matches.
use mathlib.Core.Path.{sym}
use Rattle.rules.specs.Refusal.{told}
use Rattle.lookup.specs.InCode.{outcome_said}
use Rattle.lookup.proofs.LookLaws.{said_none}
use Rattle.lookup.proofs.steps.said_of.Goals as goal

pub returns-in-None : goal.returns-in-None
unfolding told outcome_said
returns-in-None c = rw c.in-None.is (sym (said_none c.args.table.now c.args.tried.falses))
