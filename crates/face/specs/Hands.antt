-- An answer that goes out by value: 01's number, then the values that it carries.
-- Assumes nothing.
use Rattle.std.specs.Prelude.{◌≡◌, List, ◌∷◌, ◌++◌, ℕ, suc, ◌-◌, length, replicate}
use Rattle.face.specs.declared.Answer.{Answer}

-- `r` says what `said` does, the list of an answer's number and then its values: all of it, and zeros in the places that are left
pub record Hands (said : List ℕ) (r : Answer) : Type 0 where
  pub carried : suc r.count ≡ length said
  pub answer : r.number ∷ r.values ≡ said ++ replicate (16 - length said) 0
