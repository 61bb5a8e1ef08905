-- Looking a header up.
-- Assumes nothing.
use Rattle.rules.specs.declared.Refusal.{Refusal}
use Rattle.lookup.specs.declared.Answer.{Answer}
use Rattle.std.specs.Prelude.{◌≡◌, List, ℕ, Result}
use Rattle.lookup.specs.InCode.{looked_said}
use Rattle.lookup.specs.Look.{look_said}

-- what `lookup` answers, for any table, area and header: what the steps over the area say. Nothing is lent to be written.
pub record Looks (table area header : List ℕ) (r : Result Answer Refusal) : Type 0 where
  pub answer : looked_said r ≡ look_said table area header
