-- A record of the index stands for a key: a field and a path of bits in it. A header has one key in each field.
-- Assumes nothing.
use Rattle.std.specs.Prelude.{Bool, true, false, ◌&&◌, List, [], ◌∷◌, ℕ, suc, eqb, get_or}
use Rattle.bits.specs.Path.{Path, leads, same_path}
use Rattle.bits.specs.Tests.{any}
use Rattle.rules.specs.Rule.{Rule}

pub record Key : Type 0 where
  pub field : ℕ
  pub path : Path

abbrev pub at : ℕ → Path → Key
at f p = record { field = f; path = p }

-- the same field and the same path
unfoldable pub same_key : Key → Key → Bool
same_key k l = eqb k.field l.field && same_path k.path l.path

-- of "each step that has no record yet gets the next one": the key has one among these
unfoldable pub has_record : Key → List Key → Bool
has_record k ks = any (same_key k) ks

-- a key's place in a list, counted from n; 0 where it is not there
unfoldable pub place_from : ℕ → Key → List Key → ℕ
place_from n k [] = 0
place_from n k (l ∷ ls) = elim (same_key k l) [ true ↦ n | false ↦ place_from (suc n) k ls ]

-- the paths that a rule puts into field f
abbrev pub paths_in : Rule → ℕ → List Path
paths_in r f = get_or r.paths f []

-- some path of the rule in the key's field is a leading part of the key's path, an equal one included
unfoldable pub hit : Key → Rule → Bool
hit k r = any (λ p. leads p k.path) (paths_in r k.field)
