-- What stands in the way of a move, as the code finds it from the table of new places.
-- What is told of a pair is its places and then the values of its lowest shared header; nothing where there is none.
-- Assumes nothing.
use Rattle.std.specs.Prelude.{Bool, ◌&&◌, List, [], ◌∷◌, ℕ, ltb, get_or, Option, None, Some}
use Rattle.rules.specs.declared.Crossing.{Crossing}
use Rattle.rules.specs.Refusal.{values}
use Rattle.rules.specs.Rule.{Rule}
use Rattle.rules.specs.Match.{rule_at}
use Rattle.rules.specs.Overlap.{lowest_shared}
use Rattle.overlap.specs.Pairs.{Pair, first_of}
use Rattle.overlap.specs.Judge.{clashes}

-- the rules at places i and j change order, by the new place of each, and clash
unfoldable pub overtaken_by : List Rule → List ℕ → ℕ → ℕ → Bool
overtaken_by rules places i j = ltb (get_or places j 0) (get_or places i 0) && clashes (rule_at rules i) (rule_at rules j)

unfoldable pub pair_told : List Rule → ℕ → ℕ → List ℕ
pair_told rules i j = i ∷ j ∷ lowest_shared (rule_at rules i) (rule_at rules j)

unfoldable pub found_told : List Rule → Option Pair → List ℕ
found_told rules None = []
found_told rules (Some p) = pair_told rules p.lower p.higher

-- of the first of some pairs that is overtaken
unfoldable pub first_told : List Rule → List ℕ → List Pair → List ℕ
first_told rules places pairs = found_told rules (first_of (λ p. overtaken_by rules places p.lower p.higher) pairs)

-- the same of the code's own answers
unfoldable pub crossing_told : Crossing → List ℕ
crossing_told c = c.lower ∷ c.higher ∷ values c.header

unfoldable pub obstacle_told : Option Crossing → List ℕ
obstacle_told None = []
obstacle_told (Some c) = crossing_told c
