-- The code's own terms: text put from a byte on, and the text of what its types hold.
-- Assumes nothing.
use Rattle.std.specs.Prelude.{◌≡◌, not, cond, List, [], ◌∷◌, ◌++◌, ℕ, ◌+◌, ◌%◌, ◌≤◌, eqb, length, Option, Some, None}
use Rattle.bits.specs.Writing.{Writes}
use Rattle.rules.specs.declared.Action.{Action}
use Rattle.rules.specs.declared.Action.TheVariants.{Hold, Deliver}
use Rattle.rules.specs.Table.{record_size}
use Rattle.ruledesk.specs.Text.{codes, decimal}

-- a text of at most so many bytes, put into `out` from a byte on
abbrev pub Puts : ℕ → List ℕ → ℕ → List ℕ → List ℕ → ℕ → Type 0
Puts most out at text after next = Writes out at text after next × (next ≤ at + most)

-- a text of at most so many bytes, put behind a line's bytes
pub record Gains (most : ℕ) (before text after : List ℕ) : Type 0 where
  pub behind : after ≡ before ++ text
  pub few : length text ≤ most

unfoldable pub place_told : Option ℕ → List ℕ
place_told (Some place) = codes " at " ++ decimal place
place_told None = []

unfoldable pub action_told : Action → List ℕ
action_told Hold = codes " hold"
action_told (Deliver feed) = codes " deliver " ++ decimal feed

-- of a table of more than 256 rules, by its length alone
unfoldable pub long_said : ℕ → List ℕ
long_said whole = cond (not (eqb (whole % record_size) 0)) (1 ∷ []) (2 ∷ [])
