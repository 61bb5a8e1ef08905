-- What a record's two action bytes mean.
-- Assumes nothing.
use Rattle.std.specs.Prelude.{Bool, true, false, cond, List, ℕ, eqb, get_or, Option, Some, None}
use Rattle.rules.specs.declared.Action.{Action}
use Rattle.rules.specs.declared.Action.TheVariants.{Hold, Deliver}

-- "Kind 0 is hold, with feed 0; kind 1 is deliver to the feed in byte 19; kinds 2 to 255 are unknown."
unfoldable pub decoded : ℕ → ℕ → Option Action
decoded kind feed =
    cond (eqb kind 0) (cond (eqb feed 0) (Some Hold) None)
    (cond (eqb kind 1) (Some (Deliver feed)) None)

-- the action of a record: its bytes 18 and 19
unfoldable pub action_in : List ℕ → Option Action
action_in bytes = decoded (get_or bytes 18 0) (get_or bytes 19 0)

unfoldable pub is_unknown : Option Action → Bool
is_unknown (Some a) = false
is_unknown None = true

unfoldable pub same_action : Option Action → Option Action → Bool
same_action (Some Hold) (Some Hold) = true
same_action (Some Hold) (Some (Deliver f)) = false
same_action (Some Hold) None = false
same_action (Some (Deliver f)) (Some Hold) = false
same_action (Some (Deliver f)) (Some (Deliver g)) = eqb f g
same_action (Some (Deliver f)) None = false
same_action None (Some a) = false
same_action None None = true
