-- What a table and a header fix, whatever the index: the lowest rule that matches, its action, and the false blocks. Said as lookup's answer.
-- Assumes nothing.
use Rattle.std.specs.Prelude.{List, ℕ, Option, None, Some}
use Rattle.rules.specs.Rule.{Rule}
use Rattle.rules.specs.Table.{rules_of}
use Rattle.rules.specs.Header.{header_values}
use Rattle.rules.specs.Match.{rule_at, first_match, false_blocks}
use Rattle.area.specs.Shape.{blocks}
use Rattle.lookup.specs.Said.{match_said, no_match_said}

-- of the rule that wins, its place and its action; in an accepted table no action is unknown (`answer_match`)
unfoldable pub winner_said : List Rule → ℕ → Option ℕ → List ℕ
winner_said rules falses None = no_match_said falses
winner_said rules falses (Some place) = match_said falses place (rule_at rules place).action

-- of rules and a header's values: "the lowest place wins", and the false blocks of the 8 blocks of 32 places
unfoldable pub rules_answer : List Rule → List ℕ → List ℕ
rules_answer rules values = winner_said rules (false_blocks 32 blocks rules values) (first_match rules values)

-- of an accepted table and a header of 13 bytes
unfoldable pub answer_said : List ℕ → List ℕ → List ℕ
answer_said table header = rules_answer (rules_of table) (header_values header)
