-- `to_child` meets its contract.
use mathlib.Core.Path.{sym, ◌∙◌}
use Rattle.area.proofs.HandLaws.{child_none, child_some}
use Rattle.area.proofs.hand.to_child.Goals as goal

pub returns-then-c-ne0 : goal.returns-then-c-ne0
returns-then-c-ne0 c = c.or_into.ensures ∙ sym (child_some _ _ _ c.if-c-ne0.true)

pub returns-else-c-ne0 : goal.returns-else-c-ne0
returns-else-c-ne0 c = sym (child_none _ _ _ c.if-c-ne0.false)
