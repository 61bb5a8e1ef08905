-- The words that a built index holds, record after record.
-- Assumes nothing.
use Rattle.std.specs.Prelude.{Bool, true, false, ℕ}
use mathlib.Core.List.{List, [], ◌∷◌, ◌++◌, map, flatten}
use Rattle.bits.specs.Word.{pack}
use Rattle.rules.specs.Rule.{Rule}
use Rattle.area.specs.Shape.{Shape}
use Rattle.index.specs.Key.{Key, at, place_from, hit}
use Rattle.index.specs.Keys.{keys}

-- "Child 0 means no child": the number of the record one bit further, or 0
unfoldable pub child : List Key → Key → Bool → ℕ
child ks k b = place_from 0 (at k.field (k.path ++ (b ∷ []))) ks

module _ (S : Shape) where
  -- "set exactly when the rule's prefix of that field is a leading part of the record's path, an equal one included"
  unfoldable pub vector : List Rule → Key → List ℕ
  vector rules k = pack S.size S.blocks (map (hit k) rules)

  -- a record's words
  unfoldable pub record_of : List Rule → List Key → Key → List ℕ
  record_of rules ks k = child ks k false ∷ child ks k true ∷ (S.summary (vector rules k) ++ vector rules k)

  -- all records' words, in the order of the records
  unfoldable pub image : List Rule → List ℕ
  image rules = flatten (map (record_of rules (keys S.fields rules)) (keys S.fields rules))
