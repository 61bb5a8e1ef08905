-- The page of promises: the three demands, sentence by sentence, of what the calls' statements give (`Builds`, `Looks`, `Pairs`,
-- `Judges`, `Shows`) and of nothing inside; five fields say of the words themselves that they fix what they speak of (`none_no_action`,
-- `accepted_exact`, `accepted_or_refused`, `pairs_only`, `falses_one`). proofs/Promises.antt proves each under its own name; Terms.antt and
-- FalseBlock.antt have the words.
-- Assumes nothing.
use Rattle.std.specs.Prelude.{◌≡◌, ◌↔◌, ◌⊎◌, List, [], ℕ, ◌+◌, ◌*◌, ◌%◌, ◌≤◌, ◌<◌, length, get_or, take, drop, Some, Result, Ok, Err}
use Rattle.rules.specs.declared.Action.{Action}
use Rattle.rules.specs.declared.Crossing.{Crossing}
use Rattle.rules.specs.declared.Refusal.{Refusal}
use Rattle.rules.specs.declared.Refusal.TheVariants.{RaggedTable, TooManyRules, UnknownAction, ShortArea, NotAHeader, DamagedArea, ShortList, NotAnOrder, ShortOutput, NotAllowed, StrayPort}
use Rattle.rules.specs.Field.{field_at, protocol, value_in}
use Rattle.rules.specs.Action.{action_in}
use Rattle.rules.specs.Header.{header_size, header_bytes}
use Rattle.rules.specs.Refusal.{values, said}
use Rattle.rules.specs.Table.{record_size, most_rules, rule_count, record_at, verdict, Accepted}
use Rattle.area.specs.Shape.{blocks}
use Rattle.overlap.specs.Order.{moved_table, in_place, way_back, and_then}
use Rattle.lookup.specs.declared.Answer.{Answer}
use Rattle.lookup.specs.Look.{least_words}
use Rattle.desk.specs.BuildCall.{words_needed, Builds}
use Rattle.desk.specs.LookCall.{Looks}
use Rattle.desk.specs.PairsCall.{pair_count, Pairs}
use Rattle.desk.specs.JudgeCall.{Judges}
use Rattle.desk.specs.Show.{Shows}
use Rattle.desk.specs.FalseBlock.{CountsFalse}
use Rattle.desk.specs.Terms.{AsksPort, FaultlessTable, IsHeader, IsTable, NoneFits, Wins, ListsPairs, IsOrder, NoneTurned, NoAction, UnknownAt, StrayPortAt, IsIndex, Matched, Gets, Unmatched, IsCrossing}

pub record Demand1 : Type 0 where
  -- ---- "Whatever bytes come in, the desk ends, stays inside the memory that it was lent and answers by name."
  -- No call has a `requires`, and the language accepts no function that may not end, or that may read or write outside what it is lent.
  -- What each statement gives is one answer and one memory:
  pub build_one : {table area : List ℕ} {a b : Result ℕ Refusal} {after other : List ℕ}
      → Builds table area a after → Builds table area b other → (a ≡ b) × (after ≡ other)
  pub lookup_one : {table area header : List ℕ} {a b : Result Answer Refusal} → Looks table area header a → Looks table area header b → a ≡ b
  pub pairs_one : {table list : List ℕ} {a b : Result ℕ Refusal} {after other : List ℕ}
      → Pairs table list a after → Pairs table list b other → (a ≡ b) × (after ≡ other)
  pub judge_one : {table order output : List ℕ} {a b : Result Unit Refusal} {after other : List ℕ}
      → Judges table order output a after → Judges table order output b other → (a ≡ b) × (after ≡ other)
  pub show_one : {table : List ℕ} {place : ℕ} {part other : List ℕ} → Shows table place part → Shows table place other → part ≡ other
  pub show_part : {table : List ℕ} {place : ℕ} {part : List ℕ} → Shows table place part
      → ((place < rule_count table) × (part ≡ record_at table place)) ⊎ ((rule_count table ≤ place) × (part ≡ []))
  -- ---- "An unknown action code is a refusal with the rule's place."
  -- Refusal 5, exactly where that is the table's first fault:
  pub build_unknown : {table area after : List ℕ} {r : Result ℕ Refusal} → Builds table area r after
      → (place : ℕ) → (r ≡ Err (UnknownAction place)) ↔ UnknownAt table place
  pub pairs_unknown : {table list after : List ℕ} {r : Result ℕ Refusal} → Pairs table list r after
      → (place : ℕ) → (r ≡ Err (UnknownAction place)) ↔ UnknownAt table place
  pub judge_unknown : {table order output after : List ℕ} {r : Result Unit Refusal} → Judges table order output r after
      → (place : ℕ) → (r ≡ Err (UnknownAction place)) ↔ UnknownAt table place
  -- Lookup reads the winner's action alone: its 5 names a rule without one, and comes wherever the same steps would answer that rule:
  pub lookup_unknown : {table area header : List ℕ} {r : Result Answer Refusal} {place : ℕ} → Looks table area header r → r ≡ Err (UnknownAction place)
      → (place < rule_count table) × NoAction (record_at table place)
  pub lookup_unknown_there : {table other area header : List ℕ} {r s : Result Answer Refusal} {place : ℕ} {action : Action} → length other ≡ length table
      → Looks other area header s → Matched s place action → Looks table area header r → NoAction (record_at table place)
      → r ≡ Err (UnknownAction place)
  -- Wherever it stands, no call is done with the table, and no lookup answers that rule, over any area:
  pub unknown_not_built : {table area after : List ℕ} {words place : ℕ} → place < rule_count table → NoAction (record_at table place)
      → Builds table area (Ok words) after → ⊥
  pub unknown_not_listed : {table list after : List ℕ} {count place : ℕ} → place < rule_count table → NoAction (record_at table place)
      → Pairs table list (Ok count) after → ⊥
  pub unknown_not_moved : {table order output after : List ℕ} {place : ℕ} → place < rule_count table → NoAction (record_at table place)
      → Judges table order output (Ok tt) after → ⊥
  pub unknown_not_answered : {table area header : List ℕ} {r : Result Answer Refusal} {place : ℕ} {action : Action} → NoAction (record_at table place)
      → Looks table area header r → Matched r place action → ⊥
  -- ---- "No match is an answer of its own, never a delivery."
  -- It carries no action; an action that is answered is that of the rule at its place, over any area; and over an index none is answered
  -- where no rule matches:
  pub none_no_action : {r : Result Answer Refusal} {action : Action} → Unmatched r → Gets r action → ⊥
  pub answered_action : {table area header : List ℕ} {r : Result Answer Refusal} {place : ℕ} {action : Action} → Looks table area header r → Matched r place action
      → (place < rule_count table) × (action_in (record_at table place) ≡ Some action)
  pub unmatched_no_action : {table area header : List ℕ} {r : Result Answer Refusal} {action : Action} → IsTable table → IsIndex table area → IsHeader header
      → Looks table area header r → NoneFits table header → Gets r action → ⊥
  -- ---- "Every refusal has one exact reason"
  -- A table is accepted exactly when it is faultless, and is refused otherwise, by the same refusal in every call:
  pub accepted_exact : (table : List ℕ) → Accepted table ↔ FaultlessTable table
  pub accepted_or_refused : (table : List ℕ) → Accepted table ⊎ ((why : Refusal) × (said why ≡ verdict table))
  pub build_by_table : {table area after : List ℕ} {r : Result ℕ Refusal} {why : Refusal} → Builds table area r after
      → said why ≡ verdict table → r ≡ Err why
  pub pairs_by_table : {table list after : List ℕ} {r : Result ℕ Refusal} {why : Refusal} → Pairs table list r after
      → said why ≡ verdict table → r ≡ Err why
  pub judge_by_table : {table order output after : List ℕ} {r : Result Unit Refusal} {why : Refusal} → Judges table order output r after
      → said why ≡ verdict table → r ≡ Err why
  -- Refusal 14 (02, Q-1), "with the place, tried after 6", exactly where that is the table's first fault:
  pub build_stray_port : {table area after : List ℕ} {r : Result ℕ Refusal} → Builds table area r after
      → (place : ℕ) → (r ≡ Err (StrayPort place)) ↔ StrayPortAt table place
  pub pairs_stray_port : {table list after : List ℕ} {r : Result ℕ Refusal} → Pairs table list r after
      → (place : ℕ) → (r ≡ Err (StrayPort place)) ↔ StrayPortAt table place
  pub judge_stray_port : {table order output after : List ℕ} {r : Result Unit Refusal} → Judges table order output r after
      → (place : ℕ) → (r ≡ Err (StrayPort place)) ↔ StrayPortAt table place
  -- So that a header of a protocol without ports, which "carries zeros there", never gets a rule that asks for a port:
  pub lookup_no_port : {table area header : List ℕ} {r : Result Answer Refusal} {place : ℕ} {action : Action} → IsTable table → IsIndex table area → IsHeader header
      → Looks table area header r → (value_in header (field_at protocol) ≡ 6 → ⊥) → (value_in header (field_at protocol) ≡ 17 → ⊥) → Matched r place action
      → AsksPort (record_at table place) → ⊥
  -- An accepted table is refused for want of room or of an order; 13 is demand 3's:
  pub build_short : {table area after : List ℕ} {r : Result ℕ Refusal} → IsTable table → Builds table area r after
      → (r ≡ Err ShortArea) ↔ (length area < words_needed table)
  pub pairs_short : {table list after : List ℕ} {r : Result ℕ Refusal} → IsTable table → Pairs table list r after
      → (r ≡ Err ShortList) ↔ (length list < 2 * pair_count table)
  pub judge_no_order : {table order output after : List ℕ} {r : Result Unit Refusal} → IsTable table → Judges table order output r after
      → (r ≡ Err NotAnOrder) ↔ (IsOrder table order → ⊥)
  pub judge_short : {table order output after : List ℕ} {r : Result Unit Refusal} → IsTable table → IsOrder table order → Judges table order output r after
      → (r ≡ Err ShortOutput) ↔ (length output < length table)
  -- Lookup does not judge the rules: 8, 1, 2, and 9 for an area without its five roots; what comes then are the steps' own 9 and 5:
  pub lookup_no_header : {table area header : List ℕ} {r : Result Answer Refusal} → Looks table area header r
      → (r ≡ Err NotAHeader) ↔ (length header ≡ header_size → ⊥)
  pub lookup_ragged : {table area header : List ℕ} {r : Result Answer Refusal} → length header ≡ header_size → Looks table area header r
      → (r ≡ Err RaggedTable) ↔ (length table % record_size ≡ 0 → ⊥)
  pub lookup_many : {table area header : List ℕ} {r : Result Answer Refusal} → length header ≡ header_size → length table % record_size ≡ 0 → Looks table area header r
      → (r ≡ Err TooManyRules) ↔ (most_rules < rule_count table)
  pub lookup_short : {table area header : List ℕ} {r : Result Answer Refusal} → length header ≡ header_size → length table % record_size ≡ 0
      → rule_count table ≤ most_rules → length area < least_words → Looks table area header r → r ≡ Err DamagedArea
  -- ---- "and leaves the lent memory untouched."
  pub build_untouched : {table area after : List ℕ} {why : Refusal} → Builds table area (Err why) after → after ≡ area
  pub pairs_untouched : {table list after : List ℕ} {why : Refusal} → Pairs table list (Err why) after → after ≡ list
  pub judge_untouched : {table order output after : List ℕ} {why : Refusal} → Judges table order output (Err why) after
      → after ≡ output

pub record Demand2 : Type 0 where
  -- ---- "Accepted table, an index built from it and unchanged since"
  -- There is one wherever there is room; words after it stay:
  pub build_done : {table area after : List ℕ} {r : Result ℕ Refusal} → IsTable table → Builds table area r after
      → (r ≡ Ok (words_needed table)) ↔ (words_needed table ≤ length area)
  pub build_beyond : {table area after : List ℕ} {words : ℕ} → Builds table area (Ok words) after → drop words after ≡ drop words area
  -- ---- "any 13-byte header: the lowest-numbered matching rule with its action"
  pub lookup_match : {table area header : List ℕ} {r : Result Answer Refusal} → IsTable table → IsIndex table area → IsHeader header → Looks table area header r
      → (place : ℕ) (action : Action) → Matched r place action ↔ Wins table header place action
  -- ---- "or none exactly when no rule matches."
  pub lookup_none : {table area header : List ℕ} {r : Result Answer Refusal} → IsTable table → IsIndex table area → IsHeader header → Looks table area header r
      → Unmatched r ↔ NoneFits table header
  -- ---- "Pairs listed exactly, once, in order."
  -- Wherever there is room; any two such lists agree, pair by pair; entries after the pairs stay:
  pub pairs_done : {table list after : List ℕ} {r : Result ℕ Refusal} → IsTable table → Pairs table list r after
      → (r ≡ Ok (pair_count table)) ↔ (2 * pair_count table ≤ length list)
  pub pairs_listed : {table list after : List ℕ} {count : ℕ} → IsTable table → Pairs table list (Ok count) after → ListsPairs table after count
  pub pairs_only : {table one other : List ℕ} {m n : ℕ} → ListsPairs table one m → ListsPairs table other n
      → (m ≡ n) × ((k : ℕ) → k < m → (get_or one (2 * k) 0 ≡ get_or other (2 * k) 0) × (get_or one (2 * k + 1) 0 ≡ get_or other (2 * k + 1) 0))
  pub pairs_beyond : {table list after : List ℕ} {count : ℕ} → Pairs table list (Ok count) after → drop (2 * count) after ≡ drop (2 * count) list
  -- ---- "False blocks are what table and header fix."
  -- There are at most 8, and one number counts them; and no refusal comes, neither 9 nor 5:
  pub lookup_done : {table area header : List ℕ} {r : Result Answer Refusal} → IsTable table → IsIndex table area → IsHeader header → Looks table area header r
      → (a : Answer) × (r ≡ Ok a) × CountsFalse table header a.falses × (a.falses ≤ blocks)
  pub falses_one : {table header : List ℕ} {m n : ℕ} → CountsFalse table header m → CountsFalse table header n → m ≡ n

pub record Demand3 : Type 0 where
  -- ---- "Accepted table, any order of its places, an output with room: the move is allowed, and the table written in that order, exactly when
  -- no two rules that share a header and differ in action change order."
  -- Otherwise it is refused as 13:
  pub judge_exact : {table order output after : List ℕ} {r : Result Unit Refusal} → IsTable table → IsOrder table order
      → length table ≤ length output → Judges table order output r after → (r ≡ (Ok tt)) ↔ NoneTurned table order
  pub judge_either : {table order output after : List ℕ} {r : Result Unit Refusal} → IsTable table → IsOrder table order
      → length table ≤ length output → Judges table order output r after
      → (r ≡ (Ok tt)) ⊎ ((c : Crossing) × (r ≡ Err (NotAllowed c)))
  -- What is written starts with the moved table, bytes after it stay, and it is accepted:
  pub judge_writes : {table order output after : List ℕ} → Judges table order output (Ok tt) after
      → (take (length table) after ≡ moved_table table order) × (drop (length table) after ≡ drop (length table) output)
  pub judge_accepted : {table order output after : List ℕ} → IsTable table → Judges table order output (Ok tt) after → IsTable (take (length table) after)
  -- ---- "After an allowed move every header gets the same action, or none, as before."
  pub moved_same_action : {table order output after old new header : List ℕ} {before later : Result Answer Refusal} → IsTable table
      → Judges table order output (Ok tt) after → IsHeader header → IsIndex table old → Looks table old header before
      → IsIndex (take (length table) after) new → Looks (take (length table) after) new header later
      → (action : Action) → Gets before action ↔ Gets later action
  pub moved_same_none : {table order output after old new header : List ℕ} {before later : Result Answer Refusal} → IsTable table
      → Judges table order output (Ok tt) after → IsHeader header → IsIndex table old → Looks table old header before
      → IsIndex (take (length table) after) new → Looks (take (length table) after) new header later → Unmatched before ↔ Unmatched later
  -- ---- "A refused move shows a header on which those two rules alone answer differently in the two orders."
  -- It is the 13 bytes that refusal 13 carries:
  pub judge_crossing : {table order output after : List ℕ} {c : Crossing} → IsTable table → IsOrder table order
      → length table ≤ length output → Judges table order output (Err (NotAllowed c)) after
      → IsCrossing table order c.lower c.higher (header_bytes (values c.header))
  -- ---- "Leaving all in place is allowed;"
  pub judge_in_place : {table output after : List ℕ} {r : Result Unit Refusal} → IsTable table → length table ≤ length output
      → Judges table (in_place (rule_count table)) output r after → (r ≡ (Ok tt)) × (take (length table) after ≡ table)
  -- ---- "an allowed move may be undone;"
  -- What judge wrote, judged by the way back:
  pub judge_undone : {table order output after other left : List ℕ} {r : Result Unit Refusal} → Judges table order output (Ok tt) after
      → length table ≤ length other → Judges (take (length table) after) (way_back (rule_count table) order) other r left
      → (r ≡ (Ok tt)) × (take (length table) left ≡ table)
  -- ---- "two allowed moves in a row are one allowed move."
  pub judge_composed : {table one two output after output₂ after₂ output₃ after₃ : List ℕ} {r : Result Unit Refusal} → Judges table one output (Ok tt) after
      → Judges (take (length table) after) two output₂ (Ok tt) after₂ → length table ≤ length output₃
      → Judges table (and_then one two) output₃ r after₃ → (r ≡ (Ok tt)) × (take (length table) after₃ ≡ take (length table) after₂)
