-- Numbers written one after another into lent memory.
-- Assumes nothing.
use Rattle.std.specs.Prelude.{◌≡◌, List, ℕ, ◌+◌, length}
use Rattle.std.proofs.lemmas.List.Edits.{sets}

-- written from an entry on: the list afterwards, where every other entry keeps its value, and the next entry
pub record Writes (list : List ℕ) (at : ℕ) (words : List ℕ) (after : List ℕ) (next : ℕ) : Type 0 where
  pub written : after ≡ sets list at words
  pub ends : next ≡ at + length words
