-- Showing a rule by place.
-- Assumes nothing.
use Rattle.std.specs.Prelude.{◌≡◌, cond, List, [], ℕ, ltb}
use Rattle.rules.specs.Table.{rule_count, record_at}

-- "the record's own 24 bytes .. or an empty part where no whole record stands at that place"
unfoldable pub shown_part : List ℕ → ℕ → List ℕ
shown_part table place = cond (ltb place (rule_count table)) (record_at table place) []

-- what `show` answers, for any table and any place
pub record Shows (table : List ℕ) (place : ℕ) (part : List ℕ) : Type 0 where
  pub answer : part ≡ shown_part table place
