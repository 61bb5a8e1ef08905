-- `same_action` meets its contract: the test of two known actions is their equality.
use mathlib.Core.Path.{◌≡◌, refl, sym, ap₂, ◌∙◌}
use Rattle.std.specs.Prelude.{Some}
use Rattle.rules.specs.declared.Action.{Action}
use Rattle.rules.specs.declared.Action.TheVariants.{Hold, Deliver}
use Rattle.rules.specs.contracts.ActionPartialEq.TheImpl.{ghosts}
use Rattle.rules.specs.Action.{action_in, same_action}
use Rattle.overlap.proofs.compare.same_action.Goals as goal

known_same : (a b : Action) → ghosts.eq a b ≡ same_action (Some a) (Some b)
unfolding same_action
known_same Hold Hold = refl
known_same Hold (Deliver g) = refl
known_same (Deliver f) Hold = refl
known_same (Deliver f) (Deliver g) = refl

pub returns : goal.returns
unfolding action_in
returns c =
    c.eq.ensures ∙ known_same c.action.result c.action-2.result ∙ sym (ap₂ same_action c.action.ensures c.action-2.ensures)
