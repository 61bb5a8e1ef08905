-- What the code's own types say, in the terms of the definitions, and a lookup's answer in 01's numbers.
-- Assumes nothing.
use Rattle.std.specs.Prelude.{List, [], ◌∷◌, ℕ, ◌+◌, ◌*◌, ◌/◌, ◌<◌, length, get_or, Result}
use Rattle.rules.specs.declared.Refusal.{Refusal}
use Rattle.rules.specs.Refusal.{told}
use Rattle.bits.specs.Path.{bits}
use Rattle.rules.specs.Field.{field_at, value_in}
use Rattle.area.specs.Shape.{record_words, aggregate_start}
use Rattle.index.specs.Key.{Key, at}
use Rattle.lookup.specs.declared.scan.Scanned.{Scanned}
use Rattle.lookup.specs.declared.Answer.{Answer}
use Rattle.lookup.specs.declared.Outcome.{Outcome}
use Rattle.lookup.specs.declared.Outcome.TheVariants.{NoMatch, Match}
use Rattle.lookup.specs.Scan as scan
use Rattle.lookup.specs.Said.{action_values}

-- ---- walks

-- the key of a header in field f
abbrev pub key_at : List ℕ → ℕ → Key
key_at header f = at f (bits (field_at f).width (value_in header (field_at f)))

-- the five records stand in the area
abbrev pub AllInside : List ℕ → List ℕ → Type 0
AllInside area records = (f : ℕ) → f < 5 → get_or records f 0 < length area / record_words

-- the aggregate of record n
abbrev pub aggregate_at : List ℕ → ℕ → ℕ
aggregate_at area n = get_or area (record_words * n + aggregate_start) 0

-- ---- blocks

abbrev pub scanned : Scanned → scan.Found
scanned r = scan.found r.place r.falses

-- ---- answers

-- of a match 1, the place, the action's kind and its feed; of no match 0
unfoldable pub outcome_said : Outcome → List ℕ
outcome_said NoMatch = 0 ∷ []
outcome_said (Match place action) = 1 ∷ place ∷ action_values action

-- beside the outcome stands the number of false blocks
abbrev pub answer_values : Answer → List ℕ
answer_values a = a.falses ∷ outcome_said a.outcome

-- "a definition gives this paper's number and values for each of its cases": done is 0, then the number of false blocks and the outcome
abbrev pub looked_said : Result Answer Refusal → List ℕ
looked_said = told answer_values
