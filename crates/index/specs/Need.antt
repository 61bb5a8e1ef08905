-- How many records and words an index needs, by 01's own count.
-- Assumes nothing.
use Rattle.std.specs.Prelude.{true, false, List, [], ◌∷◌, ◌++◌, ℕ, ◌+◌, ◌-◌, ◌*◌, max, eqb, length}
use Rattle.bits.specs.Path.{common}
use Rattle.rules.specs.Rule.{Rule}
use Rattle.area.specs.Shape.{Shape, width}
use Rattle.index.specs.Key.{Key}
use Rattle.index.specs.Keys.{inserts}

-- what a path has in common with another of the same field; nothing with one of another field
unfoldable pub common_with : Key → Key → ℕ
common_with k l = elim (eqb k.field l.field) [ true ↦ common k.path l.path | false ↦ 0 ]

-- "the longest leading part that it has in common with an earlier rule's prefix of that field (.. 0 if there is no earlier rule)"
unfoldable pub longest : Key → List Key → ℕ
longest k [] = 0
longest k (l ∷ ls) = max (common_with k l) (longest k ls)

-- each path's length less that, over the paths that are put in one after another
unfoldable pub fresh : List Key → List Key → ℕ
fresh earlier [] = 0
fresh earlier (k ∷ new) = (length k.path - longest k earlier) + fresh (earlier ++ (k ∷ [])) new

-- "Records needed: 5, and for each rule and field .."
unfoldable pub records : ℕ → List Rule → ℕ
records n rules = n + fresh [] (inserts n rules)

-- "Words needed: 11 times that."
unfoldable pub need : Shape → List Rule → ℕ
need S rules = records S.fields rules * width S
