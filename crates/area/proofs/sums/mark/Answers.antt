-- `mark` meets its contract.
use mathlib.Core.Path.{sym}
use Rattle.std.proofs.lemmas.Nat.{one_shl}
use Rattle.area.proofs.SumLaws.{mark_none, mark_some}
use Rattle.area.proofs.sums.mark.Goals as goal

pub returns-then-word-eq0 : goal.returns-then-word-eq0
returns-then-word-eq0 c = sym (mark_none _ _ _ c.if-word-eq0.true)

pub returns : goal.returns
returns c = rw (one_shl c.args.w 32 c.requires) (sym (mark_some _ _ _ c.if-word-eq0.false))
