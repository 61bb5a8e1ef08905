-- The judgement of a move: which pair forbids it, and what it is that no allowed move may change.
-- Assumes nothing.
use Rattle.std.specs.Prelude.{◌≡◌, Bool, not, ◌&&◌, List, ℕ, ltb, length, Option, None}
use Rattle.std.specs.Option.{option_map}
use Rattle.rules.specs.declared.Action.{Action}
use Rattle.rules.specs.Rule.{Rule}
use Rattle.rules.specs.Action.{same_action}
use Rattle.rules.specs.Match.{rule_at, first_match}
use Rattle.rules.specs.Overlap.{share}
use Rattle.overlap.specs.Pairs.{Pair, triangle, first_of, on_pair}
use Rattle.overlap.specs.Order.{new_place}

-- two rules whose order matters: a pair that "shares a header and differs in action"
unfoldable pub clashes : Rule → Rule → Bool
clashes a b = share a b && not (same_action a.action b.action)

-- a pair that "changes order, shares a header and differs in action"
unfoldable pub overtaken : List Rule → List ℕ → Pair → Bool
overtaken rules order p = ltb (new_place order p.higher) (new_place order p.lower) && on_pair clashes rules p

-- "the first pair by old places (lower, then higher)" of those
unfoldable pub crossing : List Rule → List ℕ → Option Pair
crossing rules order = first_of (overtaken rules order) (triangle 0 (length rules))

-- a move is allowed where there is no such pair; otherwise 13: "move not allowed"
abbrev pub Allowed : List Rule → List ℕ → Type 0
Allowed rules order = crossing rules order ≡ None

-- the action that a header gets, that of the first rule that matches it; or none
unfoldable pub answer_of : List Rule → List ℕ → Option (Option Action)
answer_of rules header = option_map (λ place. (rule_at rules place).action) (first_match rules header)
