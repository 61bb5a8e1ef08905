-- An answer as a line of text. Answers are in 01's numbers: the number, then the values that it carries.
-- Assumes nothing.
use Rattle.std.specs.Prelude.{cond, List, [], ◌∷◌, ◌++◌, ℕ, zero, suc, eqb, get_or, drop}
use Rattle.ruledesk.specs.Text.{codes, decimal}

-- " at P" where one value is carried, a place
unfoldable pub place_text : List ℕ → List ℕ
place_text [] = []
place_text (place ∷ []) = codes " at " ++ decimal place
place_text (value ∷ other ∷ more) = []

-- "`refused N`, or `refused N at P` where a place is carried"
unfoldable pub refused_text : List ℕ → List ℕ
refused_text says = codes "refused " ++ (decimal (get_or says 0 0) ++ place_text (drop 1 says))

-- of a match: kind 0 is hold, kind 1 is deliver to a feed; nothing is said of another kind, and no answer has one
unfoldable pub action_text : ℕ → ℕ → List ℕ
action_text zero feed = codes " hold"
action_text (suc zero) feed = codes " deliver " ++ decimal feed
action_text (suc (suc more)) feed = []

-- "`match P hold`, `match P deliver F` or `none`", of 1, place, kind and feed, or of 0
unfoldable pub outcome_text : List ℕ → List ℕ
outcome_text values =
    cond (eqb (get_or values 0 0) 0) (codes "none")
    (codes "match " ++ (decimal (get_or values 1 0) ++ action_text (get_or values 2 0) (get_or values 3 0)))

-- of lookup's answer: after 0, done, and the number of false blocks stands the outcome
unfoldable pub answer_text : List ℕ → List ℕ
answer_text says = cond (eqb (get_or says 0 0) 0) (outcome_text (drop 2 says)) (refused_text says)

unfoldable pub line : List ℕ → List ℕ
line text = text ++ codes "\n"
