-- Lookup, step by step over any table, area and header (01: "Looking up a header", "The desk's numbers").
-- Assumes nothing.
use Rattle.std.specs.Prelude.{not, cond, List, [], ◌∷◌, map, ℕ, suc, ◌*◌, ◌%◌, eqb, ltb, length, Option, None, Some}
use Rattle.bits.specs.Path.{bits}
use Rattle.rules.specs.declared.fields.Field.{Field}
use Rattle.rules.specs.Field.{fields}
use Rattle.rules.specs.Action.{action_in}
use Rattle.rules.specs.Table.{record_size, most_rules, rule_count, record_at}
use Rattle.rules.specs.Header.{header_size, header_values}
use Rattle.area.specs.Shape.{Shape, desk_shape, record_words}
use Rattle.index.specs.Key.{Key, at}
use Rattle.lookup.specs.Said.{match_said, no_match_said}
use Rattle.lookup.specs.Walk.{ends, summaries_at, vector_at}
use Rattle.lookup.specs.Scan.{Found, resolve}

-- ---- a header's keys

-- the fields from f on: in each, all bits of the value at the field's width
unfoldable pub keys_from : ℕ → List ℕ → List ℕ → List Key
keys_from f [] values = []
keys_from f (w ∷ widths) [] = []
keys_from f (w ∷ widths) (v ∷ values) = at f (bits w v) ∷ keys_from (suc f) widths values

-- one key for each field, from the fields' widths and the header's values
unfoldable pub header_keys : List ℕ → List ℕ → List Key
header_keys widths values = keys_from 0 widths values

-- 32, 32, 16, 16, 8
abbrev pub widths : List ℕ
widths = map (λ (f : Field). f.width) fields

-- ---- the steps over an area

-- walk in each field, gather the vectors and what stands over them, and try the blocks; nothing where a walk meets damage
unfoldable pub lookup_steps : Shape → List ℕ → List Key → Option Found
lookup_steps S area ks =
    elim (ends S area ks) [ None ↦ None | Some ns ↦ Some (resolve S (map (summaries_at S area) ns) (map (vector_at S area) ns)) ]

-- ---- what is said

-- of what the steps found: 9 where "the place found is not below the rule count", else the answer; the table is read at that place alone
unfoldable pub found_said : List ℕ → Found → List ℕ
found_said table r =
    elim r.place [
      | None ↦ no_match_said r.falses
      | Some place ↦
          cond (ltb place (rule_count table)) (match_said r.falses place (action_in (record_at table place))) (9 ∷ [])
    ]

-- 9 where a walk met damage
unfoldable pub steps_said : List ℕ → Option Found → List ℕ
steps_said table None = 9 ∷ []
steps_said table (Some r) = found_said table r

-- "under 55 words": those of the five roots
abbrev pub least_words : ℕ
least_words = desk_shape.fields * record_words

-- of a table, an area and a header: "8, 1, 2, then 9 if the area has under 55 words", or a walk is damaged, or the place is too large; then 5
unfoldable pub look_said : List ℕ → List ℕ → List ℕ → List ℕ
look_said table area header =
    cond (not (eqb (length header) header_size)) (8 ∷ [])
    (cond (not (eqb (length table % record_size) 0)) (1 ∷ [])
    (cond (ltb most_rules (rule_count table)) (2 ∷ [])
    (cond (ltb (length area) least_words) (9 ∷ [])
    (steps_said table (lookup_steps desk_shape area (header_keys widths (header_values header)))))))
