-- The words of the three demands, said of bytes and of what the calls answer. The page of promises, Promises.antt, is written in them.
-- Assumes nothing.
use Rattle.rules.specs.declared.Refusal.{Refusal}
use Rattle.lookup.specs.declared.Answer.{Answer}
use Rattle.std.specs.Prelude.{◌≡◌, ◌↔◌, ◌⊎◌, true, false, List, ◌++◌, ℕ, ◌+◌, ◌*◌, ◌%◌, ◌≤◌, ◌<◌, leb, length, get_or, take, Some, Result, Ok}
use Rattle.bits.specs.Number.{Bytes}
use Rattle.bits.specs.Path.{Path, bits, prefix, leads}
use Rattle.bits.specs.Tests.{all, each}
use Rattle.rules.specs.declared.Action.{Action}
use Rattle.rules.specs.declared.fields.Field.{Field}
use Rattle.rules.specs.Field.{fields, field_at, source_port, destination_port, protocol, value_in, length_in}
use Rattle.rules.specs.Action.{action_in}
use Rattle.rules.specs.Header.{header_size, header_values}
use Rattle.rules.specs.Table.{record_size, most_rules, rule_count, record_at, Accepted}
use Rattle.overlap.specs.Order.{old_place, new_place}
use Rattle.lookup.specs.declared.Outcome.TheVariants.{NoMatch, Match}
use Rattle.desk.specs.BuildCall.{Builds}
use Rattle.desk.specs.LookCall.{Looks}

-- ---- the rules of a table

-- "Lengths go up to 32, 32, 16, 16 and 8."
abbrev pub LengthsFit : List ℕ → Type 0
LengthsFit rule = (f : ℕ) → f < 5 → length_in rule (field_at f) ≤ (field_at f).width

-- "Bits after the prefix are zero": bit k counts from the top
abbrev pub RestZero : List ℕ → Type 0
RestZero rule =
    (f k : ℕ) → f < 5 → length_in rule (field_at f) ≤ k → k < (field_at f).width → get_or (bits (field_at f).width (value_in rule (field_at f))) k false ≡ false

-- "unknown kind, or hold with a feed other than 0"
abbrev pub NoAction : List ℕ → Type 0
NoAction rule = (1 < get_or rule 18 0) ⊎ ((get_or rule 18 0 ≡ 0) × (get_or rule 19 0 ≡ 0 → ⊥))

-- bytes 20 to 23 are zero
abbrev pub SpareZero : List ℕ → Type 0
SpareZero rule = (k : ℕ) → 20 ≤ k → k < record_size → get_or rule k 0 ≡ 0

-- "a port length above 0" (02, Q-1)
abbrev pub AsksPort : List ℕ → Type 0
AsksPort rule = (0 < length_in rule (field_at source_port)) ⊎ (0 < length_in rule (field_at destination_port))

-- "its protocol is exactly 6 or exactly 17 (length 8)" (02, Q-1)
abbrev pub HasPorts : List ℕ → Type 0
HasPorts rule = (length_in rule (field_at protocol) ≡ 8) × ((value_in rule (field_at protocol) ≡ 6) ⊎ (value_in rule (field_at protocol) ≡ 17))

-- a rule that passes each of its tests (`rule_tests`)
pub record FaultlessRule (rule : List ℕ) : Type 0 where
  pub lengths : LengthsFit rule
  pub rest : RestZero rule
  pub action : NoAction rule → ⊥
  pub spare : SpareZero rule
  pub ports : AsksPort rule → HasPorts rule

-- a table that is refused neither as 1 or 2 nor for a rule
pub record FaultlessTable (table : List ℕ) : Type 0 where
  pub whole : length table % record_size ≡ 0
  pub few : rule_count table ≤ most_rules
  pub rules : (place : ℕ) → place < rule_count table → FaultlessRule (record_at table place)

-- a fault is given at a place: the lowest whose rule has one, in a table that neither 1 nor 2 refuses
pub record FirstAt (Fault : List ℕ → Type 0) (table : List ℕ) (place : ℕ) : Type 0 where
  pub whole : length table % record_size ≡ 0
  pub few : rule_count table ≤ most_rules
  pub inside : place < rule_count table
  pub lower : (earlier : ℕ) → earlier < place → FaultlessRule (record_at table earlier)
  pub first : Fault (record_at table place)

-- 5: the rule passes the tests before it
pub record UnknownFault (rule : List ℕ) : Type 0 where
  pub lengths : LengthsFit rule
  pub rest : RestZero rule
  pub no_action : NoAction rule

abbrev pub UnknownAt : List ℕ → ℕ → Type 0
UnknownAt = FirstAt UnknownFault

-- 14: the rule passes the tests before it
pub record PortFault (rule : List ℕ) : Type 0 where
  pub lengths : LengthsFit rule
  pub rest : RestZero rule
  pub action : NoAction rule → ⊥
  pub spare : SpareZero rule
  pub asks : AsksPort rule
  pub no_ports : HasPorts rule → ⊥

abbrev pub StrayPortAt : List ℕ → ℕ → Type 0
StrayPortAt = FirstAt PortFault

-- ---- headers, and rules that match them

-- "A packet header is 13 bytes"
pub record IsHeader (header : List ℕ) : Type 0 where
  pub bytes : Bytes header
  pub size : length header ≡ header_size

-- an accepted table: bytes without a fault (`accepted_exact`)
pub record IsTable (table : List ℕ) : Type 0 where
  pub bytes : Bytes table
  pub accepted : Accepted table

-- a rule's prefix in a field (of an accepted rule: a length above the field's would count as the whole)
abbrev pub prefix_in : List ℕ → Field → Path
prefix_in rule f = prefix f.width (value_in rule f) (length_in rule f)

-- "A rule matches when each of its five prefixes is a leading part of the header's value."
abbrev pub Fits : List ℕ → List ℕ → Type 0
Fits header rule = all (λ (f : Field). leads (prefix_in rule f) (bits f.width (value_in header f))) fields ≡ true

-- no rule of the table matches the header
abbrev pub NoneFits : List ℕ → List ℕ → Type 0
NoneFits table header = (place : ℕ) → place < rule_count table → Fits header (record_at table place) → ⊥

-- the rule at a place matches, carries the action, and no lower one matches: "the lowest place wins"
pub record Wins (table header : List ℕ) (place : ℕ) (action : Action) : Type 0 where
  pub inside : place < rule_count table
  pub fits : Fits header (record_at table place)
  pub carries : action_in (record_at table place) ≡ Some action
  pub lowest : (lower : ℕ) → lower < place → Fits header (record_at table lower) → ⊥

-- ---- two rules

-- some header of 13 bytes fits both: of accepted rules, where "in each field, one prefix is a leading part of the other" (`share_leads`)
pub record Share (a b : List ℕ) : Type 0 where
  pub header : List ℕ
  pub is : IsHeader header
  pub fits_first : Fits header a
  pub fits_second : Fits header b

-- "One covers another when each of its prefixes is a leading part of the other's."
abbrev pub Covers : List ℕ → List ℕ → Type 0
Covers a b = all (λ (f : Field). leads (prefix_in a f) (prefix_in b f)) fields ≡ true

-- "shares a header and neither covers the other, whatever the actions"
pub record CutsAcross (a b : List ℕ) : Type 0 where
  pub share : Share a b
  pub not_over : Covers a b → ⊥
  pub not_under : Covers b a → ⊥

-- the first `count` pairs of a list are "listed exactly, once, in order": places i and j are one of them exactly when i < j and their rules
-- cut across each other; and a later pair has a higher lower place, or the same with a higher second one
pub record ListsPairs (table list : List ℕ) (count : ℕ) : Type 0 where
  pub exact : (i j : ℕ) → ((k : ℕ) × (k < count) × (get_or list (2 * k) 0 ≡ i) × (get_or list (2 * k + 1) 0 ≡ j))
      ↔ ((i < j) × (j < rule_count table) × CutsAcross (record_at table i) (record_at table j))
  pub in_order : (k l : ℕ) → k < l → l < count → (get_or list (2 * k) 0 < get_or list (2 * l) 0)
      ⊎ ((get_or list (2 * k) 0 ≡ get_or list (2 * l) 0) × (get_or list (2 * k + 1) 0 < get_or list (2 * l + 1) 0))

-- "shares a header and differs in action"
pub record Clash (a b : List ℕ) : Type 0 where
  pub share : Share a b
  pub actions_differ : action_in a ≡ action_in b → ⊥

-- ---- orders

-- an "order of its places": as many entries as rules, none too large, none repeated
pub record IsOrder (table order : List ℕ) : Type 0 where
  pub size : length order ≡ rule_count table
  pub below : (k : ℕ) → k < rule_count table → old_place order k < rule_count table
  pub unrepeated : (k l : ℕ) → k < l → l < rule_count table → old_place order k ≡ old_place order l → ⊥

-- two rules, by their old places, lower and then higher, that "change order" and clash
pub record Turned (table order : List ℕ) (i j : ℕ) : Type 0 where
  pub rises : i < j
  pub inside : j < rule_count table
  pub changes : new_place order j < new_place order i
  pub clash : Clash (record_at table i) (record_at table j)

-- "no two rules that share a header and differ in action change order"
abbrev pub NoneTurned : List ℕ → List ℕ → Type 0
NoneTurned table order = (i j : ℕ) → Turned table order i j → ⊥

-- ---- the index, and what lookup answers

-- "an index built from it and unchanged since": the words that it takes are as `build` left them, and any may stand behind them
pub record IsIndex (table area : List ℕ) : Type 0 where
  pub lent : List ℕ
  pub left : List ℕ
  pub words : ℕ
  pub built : Builds table lent (Ok words) left
  pub unchanged : take words area ≡ take words left

-- a match at a place with an action
abbrev pub Matched : Result Answer Refusal → ℕ → Action → Type 0
Matched r place action = (falses : ℕ) × (r ≡ Ok (record { falses = falses; outcome = Match place action }))

-- a match with an action, at any place
abbrev pub Gets : Result Answer Refusal → Action → Type 0
Gets r action = (place : ℕ) × Matched r place action

-- no match
abbrev pub Unmatched : Result Answer Refusal → Type 0
Unmatched r = (falses : ℕ) × (r ≡ Ok (record { falses = falses; outcome = NoMatch }))

-- ---- what refusal 13 shows

-- two rules alone answer a header differently in their two orders: over indexes of the two tables that these two records make, which are
-- accepted
pub record Differ (a b header : List ℕ) : Type 0 where
  pub there_table : IsTable (a ++ b)
  pub back_table : IsTable (b ++ a)
  pub answers_differ : {there back : List ℕ} {first second : Result Answer Refusal} → IsIndex (a ++ b) there → Looks (a ++ b) there header first
      → IsIndex (b ++ a) back → Looks (b ++ a) back header second → (x y : Action) × Gets first x × Gets second y × (x ≡ y → ⊥)

-- "the first pair by old places (lower, then higher) that changes order, shares a header and differs in action, and their lowest shared
-- header"
pub record IsCrossing (table order : List ℕ) (lower higher : ℕ) (header : List ℕ) : Type 0 where
  pub turned : Turned table order lower higher
  pub first_pair : (i j : ℕ) → (i < lower) ⊎ ((i ≡ lower) × (j < higher)) → Turned table order i j → ⊥
  pub is : IsHeader header
  pub fits_lower : Fits header (record_at table lower)
  pub fits_higher : Fits header (record_at table higher)
  pub lowest : (other : List ℕ) → IsHeader other → Fits other (record_at table lower) → Fits other (record_at table higher)
      → each leb (header_values header) (header_values other) ≡ true
  pub differ : Differ (record_at table lower) (record_at table higher) header
