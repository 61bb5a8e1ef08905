-- Lent memory: whether there is room in it, and what it holds after a call.
-- Assumes nothing.
use Rattle.std.specs.Prelude.{cond, List, [], ◌∷◌, ℕ, zero, suc, ltb, length}

-- a number that carries nothing where the lent memory is shorter than needed; else done, with one value
unfoldable pub room_said : ℕ → ℕ → List ℕ → ℕ → List ℕ
room_said short needed lent value = cond (ltb (length lent) needed) (short ∷ []) (0 ∷ value ∷ [])

-- what was written where the answer is 0, done; "Every number but 0 leaves all lent memory unchanged."
unfoldable pub lent_after : List ℕ → List ℕ → List ℕ → List ℕ
lent_after [] written before = before
lent_after (zero ∷ vs) written before = written
lent_after (suc n ∷ vs) written before = before
