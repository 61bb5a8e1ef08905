-- Building the index of a rule table in a lent area.
-- Assumes nothing.
use Rattle.rules.specs.declared.Refusal.{Refusal}
use Rattle.std.specs.Prelude.{◌≡◌, List, [], ◌∷◌, ◌++◌, ℕ, drop, Result}
use Rattle.rules.specs.Refusal.{told, first_refusal}
use Rattle.rules.specs.Table.{rules_of, verdict}
use Rattle.area.specs.Shape.{desk_shape}
use Rattle.index.specs.Image.{image}
use Rattle.index.specs.Need.{need}
use Rattle.desk.specs.Lent.{room_said, lent_after}

-- an answer in 01's numbers: done, with the number of words written, or a refusal
abbrev pub built_said : Result ℕ Refusal → List ℕ
built_said = told (λ words. words ∷ [])

abbrev pub words_needed : List ℕ → ℕ
words_needed table = need desk_shape (rules_of table)

-- "Build: 1, 2, rules, 7." 7: "area shorter than the words needed"
unfoldable pub build_said : List ℕ → List ℕ → List ℕ
build_said table area = first_refusal (verdict table) (room_said 7 (words_needed table) area (words_needed table))

-- the area afterwards: the image, and "Words of the area beyond those keep their values."
unfoldable pub area_left : List ℕ → List ℕ → List ℕ
area_left table area = lent_after (build_said table area) (image desk_shape (rules_of table) ++ drop (words_needed table) area) area

-- what `build` answers and leaves, for any table and any area
pub record Builds (table area : List ℕ) (r : Result ℕ Refusal) (after : List ℕ) : Type 0 where
  pub answer : built_said r ≡ build_said table area
  pub lent : after ≡ area_left table area
