-- The false blocks of a table and a header, said of records and bytes: which blocks of 32 places they are, and how many.
-- Assumes nothing.
use Rattle.std.specs.Prelude.{◌≡◌, ◌↔◌, true, ℕ, ◌/◌, ◌≤◌, ◌<◌, length, get_or}
use mathlib.Core.List.{List, Memᴰ}
use Rattle.bits.specs.Path.{bits, leads}
use Rattle.rules.specs.Field.{field_at, value_in}
use Rattle.rules.specs.Table.{rule_count, record_at}
use Rattle.desk.specs.Terms.{prefix_in, Fits}

-- a rule matches in field f: its prefix there "is a leading part of the header's value"
abbrev pub FitsIn : List ℕ → List ℕ → ℕ → Type 0
FitsIn header rule f = leads (prefix_in rule (field_at f)) (bits (field_at f).width (value_in header (field_at f))) ≡ true

-- "a block before the winner's (any block, where none wins) in which each field has some matching rule and no rule matches in all five": so
-- no rule of it or of a lower block does
pub record FalseBlock (table header : List ℕ) (b : ℕ) : Type 0 where
  pub each_field : (f : ℕ) → f < 5 → (place : ℕ) × (place < rule_count table) × (place / 32 ≡ b) × FitsIn header (record_at table place) f
  pub none_yet : (place : ℕ) → place < rule_count table → place / 32 ≤ b → Fits header (record_at table place) → ⊥

-- the false blocks are n: a rising list of n blocks has them all, and no others
pub record CountsFalse (table header : List ℕ) (n : ℕ) : Type 0 where
  pub found : List ℕ
  pub rising : (k l : ℕ) → k < l → l < length found → get_or found k 0 < get_or found l 0
  pub exact : (b : ℕ) → Memᴰ b found ↔ FalseBlock table header b
  pub size : length found ≡ n
