-- How a lookup's answer is said: the list of its number and then its values. Of a match these are the number of false blocks, 1, the place,
-- the action's kind and its feed; of no match the number of false blocks and 0.
-- Assumes nothing.
use Rattle.std.specs.Prelude.{List, [], ◌∷◌, ℕ, Option, Some, None}
use Rattle.rules.specs.declared.Action.{Action}
use Rattle.rules.specs.declared.Action.TheVariants.{Hold, Deliver}

-- hold is kind 0 with feed 0, deliver is kind 1 with its feed
unfoldable pub action_values : Action → List ℕ
action_values Hold = 0 ∷ 0 ∷ []
action_values (Deliver feed) = 1 ∷ feed ∷ []

-- "A match carries its place and, inside it, the action"; "then 5 for the winning record's action bytes alone"
unfoldable pub match_said : ℕ → ℕ → Option Action → List ℕ
match_said falses place (Some a) = 0 ∷ falses ∷ 1 ∷ place ∷ action_values a
match_said falses place None = 5 ∷ place ∷ []

-- "Beside the answer stands the number of false blocks."
unfoldable pub no_match_said : ℕ → List ℕ
no_match_said falses = 0 ∷ falses ∷ 0 ∷ []
