-- Blocks in order: from the fields' summaries and vectors to a place and the number of false blocks.
-- Assumes nothing.
use Rattle.std.specs.Prelude.{Bool, true, false, List, map, ℕ, zero, suc, ◌+◌, ◌*◌, eqb, get_or, Option, None, Some}
use Rattle.std.specs.Int.Count.{count_trailing_zeros}
use Rattle.bits.specs.Word.{and_all}
use Rattle.area.specs.Shape.{Shape}

-- a place, if there is one, and "Beside the answer stands the number of false blocks."
pub record Found : Type 0 where
  pub place : Option ℕ
  pub falses : ℕ

abbrev pub found : Option ℕ → ℕ → Found
found p n = record { place = p; falses = n }

-- the k blocks from b on: an untried one is passed over; "A false block is one tried with a zero intersection";
-- "the first with a nonzero intersection gives the place, as the count of trailing zeros in the intersected word"
unfoldable pub scan : ℕ → (ℕ → Bool) → (ℕ → ℕ) → ℕ → ℕ → Found
scan size tried word zero b = found None 0
scan size tried word (suc k) b =
    let rest = scan size tried word k (suc b) in
    elim (tried b) [
      | false ↦ rest
      | true ↦
          elim (eqb (word b) 0) [ true ↦ found rest.place (suc rest.falses) | false ↦ found (Some (b * size + count_trailing_zeros size (word b))) 0 ]
    ]

module _ (S : Shape) where
  -- the intersection of the fields' words of block b
  unfoldable pub meet : List (List ℕ) → ℕ → ℕ
  meet vectors b = and_all S.size (map (λ v. get_or v b 0) vectors)

  -- "Blocks 0 to 7 whose five aggregate bits are all set are tried in order, lowest first"
  unfoldable pub resolve : List (List ℕ) → List (List ℕ) → Found
  resolve summaries vectors = scan S.size (S.tried summaries) (meet vectors) S.blocks 0
