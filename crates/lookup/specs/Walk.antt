-- Going down the index by a header's bits, over any area at all: what stands in a record, when a child is damaged, and which records
-- the walks of a header reach. A walk that meets damage reaches nothing.
-- Assumes nothing.
use Rattle.std.specs.Prelude.{Bool, true, false, ◌||◌, List, [], ◌∷◌, ℕ, ◌+◌, ◌*◌, ◌/◌, eqb, ltb, leb, length, get_or, take, drop, Option, None, Some}
use Rattle.bits.specs.Path.{Path}
use Rattle.bits.specs.Word.{digit}
use Rattle.area.specs.Shape.{Shape, width}
use Rattle.index.specs.Key.{Key}

module _ (S : Shape) where
  -- the words of record n
  unfoldable pub row_at : List ℕ → ℕ → List ℕ
  row_at area n = take (width S) (drop (n * width S) area)

  -- of a child that is reached: "1 to 4 or not below the area's whole number of records" (0, "no child", is never reached)
  unfoldable pub bad : List ℕ → ℕ → Bool
  bad area c = ltb c S.fields || leb (length area / width S) c

  -- "go down by the value's bits, from the top, until a child is missing or the value is used up": from record n, over the bits that are left
  unfoldable pub walk_from : List ℕ → ℕ → Path → Option ℕ
  walk_from area n [] = Some n
  walk_from area n (b ∷ bs) =
      let c = get_or (row_at area n) (digit b) 0 in
      elim (eqb c 0) [ true ↦ Some n | false ↦ elim (bad area c) [ true ↦ None | false ↦ walk_from area c bs ] ]

  -- "Records 0 to 4 are the roots of the five fields": a field's walk starts at the record of its number
  unfoldable pub walk : List ℕ → Key → Option ℕ
  walk area k = walk_from area k.field k.path

  -- "The last record reached gives that field's vector": the records reached, "fields in order"
  unfoldable pub ends : List ℕ → List Key → Option (List ℕ)
  ends area [] = Some []
  ends area (k ∷ ks) =
      elim (walk area k) [ None ↦ None | Some n ↦ elim (ends area ks) [ None ↦ None | Some ns ↦ Some (n ∷ ns) ] ]

  -- of a record, what stands over its vector, after the two children
  unfoldable pub summaries_at : List ℕ → ℕ → List ℕ
  summaries_at area n = take S.summaries (drop 2 (row_at area n))

  -- and its vector, the last words
  unfoldable pub vector_at : List ℕ → ℕ → List ℕ
  vector_at area n = drop (2 + S.summaries) (row_at area n)
