-- A rule table: its records, when a record is at fault, and the verdict on the whole.
-- Assumes nothing.
use Rattle.std.specs.Prelude.{◌≡◌, Bool, not, cond, ◌&&◌, List, [], ◌∷◌, map, ℕ, ◌*◌, ◌/◌, ◌%◌, eqb, ltb, length, take, drop, Option, None, Some}
use Rattle.bits.specs.Path.{stray}
use Rattle.bits.specs.Tests.{any, up_from, lowest}
use Rattle.rules.specs.declared.fields.Field.{Field}
use Rattle.rules.specs.Field.{fields, value_in, length_in}
use Rattle.rules.specs.Action.{action_in, is_unknown}
use Rattle.rules.specs.Rule.{Rule, rule_of}
use Rattle.rules.specs.Ports.{asks_port, has_ports}

-- "A rule table is records of 24 bytes, no header, at most 256 of them"
abbrev pub record_size : ℕ
record_size = 24

abbrev pub most_rules : ℕ
most_rules = 256

-- the number of whole records
abbrev pub rule_count : List ℕ → ℕ
rule_count table = length table / record_size

-- "Places count from 0."
unfoldable pub record_at : List ℕ → ℕ → List ℕ
record_at table place = take record_size (drop (place * record_size) table)

-- the rules of a table, in their places
unfoldable pub rules_of : List ℕ → List Rule
rules_of table = map (λ place. rule_of (record_at table place)) (up_from 0 (rule_count table))

-- ---- one rule

-- 3: "a prefix length is above its field's limit"
unfoldable pub long_prefix : List ℕ → Bool
long_prefix bytes = any (λ (f : Field). ltb f.width (length_in bytes f)) fields

-- 4: "a bit after the prefix is set"
unfoldable pub stray_bit : List ℕ → Bool
stray_bit bytes = any (λ (f : Field). stray f.width (value_in bytes f) (length_in bytes f)) fields

-- 5: "unknown kind, or hold with a feed other than 0"
unfoldable pub unknown_action : List ℕ → Bool
unknown_action bytes = is_unknown (action_in bytes)

-- 6: "bytes 20-23 not all zero"
unfoldable pub spare_bytes : List ℕ → Bool
spare_bytes bytes = any (λ b. not (eqb b 0)) (take 4 (drop 20 bytes))

-- 14: "a rule with a port length above 0 is refused unless its protocol is exactly 6 or exactly 17" (02, Q-1)
unfoldable pub stray_port : List ℕ → Bool
stray_port bytes = asks_port (rule_of bytes) && not (has_ports (rule_of bytes))

-- a test of one rule: its number, and when a record fails it
pub record Test : Type 0 where
  pub number : ℕ
  pub fails : List ℕ → Bool

abbrev pub test : ℕ → (List ℕ → Bool) → Test
test n f = record { number = n; fails = f }

-- the tests of a rule, in the order in which they are tried: "within a rule 3 to 6", and 14 "tried after 6" (02, Q-1)
unfoldable pub rule_tests : List Test
rule_tests = test 3 long_prefix ∷ test 4 stray_bit ∷ test 5 unknown_action ∷ test 6 spare_bytes ∷ test 14 stray_port ∷ []

-- the number of the first test that a record fails; 0 where it passes all
unfoldable pub first_failed : List Test → List ℕ → ℕ
first_failed [] bytes = 0
first_failed (t ∷ ts) bytes = cond (t.fails bytes) t.number (first_failed ts bytes)

unfoldable pub fault : List ℕ → ℕ
fault bytes = first_failed rule_tests bytes

-- a whole record that is not at fault
pub record SoundRule (bytes : List ℕ) : Type 0 where
  pub whole : length bytes ≡ record_size
  pub faultless : fault bytes ≡ 0

-- what is said of the rule at a place: its fault with the place, or done
unfoldable pub rule_said : ℕ → List ℕ → List ℕ
rule_said place bytes = cond (eqb (fault bytes) 0) (0 ∷ []) (fault bytes ∷ place ∷ [])

-- ---- the whole table

unfoldable pub faulty : List ℕ → ℕ → Bool
faulty table place = not (eqb (fault (record_at table place)) 0)

-- what is said where the lowest place with a fault is found, or none
unfoldable pub place_said : List ℕ → Option ℕ → List ℕ
place_said table None = 0 ∷ []
place_said table (Some place) = rule_said place (record_at table place)

-- "The lowest place with a fault is named": of the places below n
unfoldable pub rules_said : List ℕ → ℕ → List ℕ
rules_said table n = place_said table (lowest (faulty table) n)

-- 1, 2, rules
unfoldable pub verdict : List ℕ → List ℕ
verdict table =
    cond (not (eqb (length table % record_size) 0)) (1 ∷ [])
    (cond (ltb most_rules (rule_count table)) (2 ∷ [])
    (rules_said table (rule_count table)))

-- an accepted table: the verdict is done
abbrev pub Accepted : List ℕ → Type 0
Accepted table = verdict table ≡ 0 ∷ []
