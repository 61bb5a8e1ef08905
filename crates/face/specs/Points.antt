-- A part of the caller's table, named by its start and its length.
-- Assumes nothing.
use Rattle.std.specs.Prelude.{◌≡◌, cond, List, ℕ, ◌*◌, ltb, length, take, drop}
use Rattle.rules.specs.Table.{record_size, rule_count}
use Rattle.desk.specs.Show.{shown_part}
use Rattle.face.specs.declared.Part.{Part}

-- the part that `r` names is what the desk shows of the rule at a place; an empty part starts at 0
pub record Points (table : List ℕ) (place : ℕ) (r : Part) : Type 0 where
  pub part : take r.length (drop r.start table) ≡ shown_part table place
  pub long : r.length ≡ length (shown_part table place)
  pub from : r.start ≡ cond (ltb place (rule_count table)) (place * record_size) 0
