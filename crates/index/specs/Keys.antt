-- The records in their order: "Records 0 to 4 are the roots of the five fields. Then, rule by rule, field by field, bit by bit from
-- the top, each step that has no record yet gets the next one."
-- Assumes nothing.
use Rattle.std.specs.Prelude.{true, false, List, [], ◌∷◌, ◌++◌, map, ℕ, zero, suc}
use Rattle.bits.specs.Path.{Path}
use Rattle.rules.specs.Rule.{Rule}
use Rattle.index.specs.Key.{Key, at, has_record, paths_in}

-- each step that has no record yet gets the next one
unfoldable pub grown : List Key → Key → List Key
grown ks k = elim (has_record k ks) [ true ↦ ks | false ↦ ks ++ (k ∷ []) ]

-- one step after another
unfoldable pub grow : List Key → List Key → List Key
grow ks [] = ks
grow ks (k ∷ new) = grow (grown ks k) new

-- the steps from q on along p, bit by bit, in field f
unfoldable pub steps_from : ℕ → Path → Path → List Key
steps_from f q [] = []
steps_from f q (b ∷ p) = at f (q ++ (b ∷ [])) ∷ steps_from f (q ++ (b ∷ [])) p

-- "bit by bit from the top": all steps of a path
unfoldable pub insert : List Key → Key → List Key
insert ks k = grow ks (steps_from k.field [] k.path)

-- path after path
unfoldable pub insert_all : List Key → List Key → List Key
insert_all ks [] = ks
insert_all ks (k ∷ new) = insert_all (insert ks k) new

-- "field by field": the paths that a rule puts into its n fields from f on
unfoldable pub rule_inserts : ℕ → ℕ → Rule → List Key
rule_inserts f zero r = []
rule_inserts f (suc n) r = map (at f) (paths_in r f) ++ rule_inserts (suc f) n r

-- "rule by rule"
unfoldable pub inserts : ℕ → List Rule → List Key
inserts n [] = []
inserts n (r ∷ rules) = rule_inserts 0 n r ++ inserts n rules

-- the roots of n fields from f on
unfoldable pub roots_from : ℕ → ℕ → List Key
roots_from f zero = []
roots_from f (suc n) = at f [] ∷ roots_from (suc f) n

-- the records of the index over n fields
unfoldable pub keys : ℕ → List Rule → List Key
keys n rules = insert_all (roots_from 0 n) (inserts n rules)
