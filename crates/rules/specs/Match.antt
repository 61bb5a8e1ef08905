-- Which rule a header gets, and how many blocks deceive: what table and header fix, whatever the index.
-- A header is the list of its values, as in `header_values`.
-- Assumes nothing.
use Rattle.std.specs.Prelude.{Bool, not, ◌&&◌, List, [], ◌∷◌, ℕ, ◌*◌, ◌/◌, length, get_or, take, drop, Option, None, Some}
use Rattle.bits.specs.Tests.{any, all, each, up_from, lowest, count}
use Rattle.rules.specs.Rule.{has, Rule, nowhere, span_in}

-- "A rule matches when each of its five prefixes is a leading part of the header's value": when its span has it (`has_leads`)
unfoldable pub matches : List ℕ → Rule → Bool
matches header r = each has r.spans header

-- a rule that matches nothing: what stands past the last
abbrev pub no_rule : Rule
no_rule = record { spans = nowhere ∷ []; paths = []; action = None }

-- the rule at a place
abbrev pub rule_at : List Rule → ℕ → Rule
rule_at rules place = get_or rules place no_rule

-- "the lowest place wins"
unfoldable pub first_match : List Rule → List ℕ → Option ℕ
first_match rules header = lowest (λ place. matches header (rule_at rules place)) (length rules)

-- ---- false blocks

-- the rule has the header's value in field f
unfoldable pub matches_in : List ℕ → ℕ → Rule → Bool
matches_in header f r = has (span_in r f) (get_or header f 0)

-- the rules of a block of `size` places
unfoldable pub block_of : ℕ → List Rule → ℕ → List Rule
block_of size rules b = take size (drop (b * size) rules)

-- "each field has some matching rule and no rule matches in all five"
unfoldable pub deceives : List ℕ → List Rule → Bool
deceives header block =
    all (λ f. any (matches_in header f) block) (up_from 0 (length header)) && not (any (matches header) block)

-- "a block before the winner's (any block, where none wins)"
unfoldable pub blocks_before : ℕ → ℕ → Option ℕ → ℕ
blocks_before size blocks None = blocks
blocks_before size blocks (Some place) = place / size

-- the number of false blocks, of `blocks` blocks of `size` places
unfoldable pub false_blocks : ℕ → ℕ → List Rule → List ℕ → ℕ
false_blocks size blocks rules header =
    count (λ b. deceives header (block_of size rules b)) (blocks_before size blocks (first_match rules header))
