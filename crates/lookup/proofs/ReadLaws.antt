-- A record's words by their places in the area: its aggregate and its vector; and what the steps find, from the words that the records hold.
-- Assumes nothing.
use mathlib.Core.Path.{◌≡◌, ap, ◌∙◌}
use mathlib.Core.List.{List, map, map-map}
use Rattle.std.specs.Prelude.{None, Some}
use Prim.Native.Nat.{ℕ, ◌+◌, ◌*◌, ◌<◌}
use native.Mathlib.Nat.{mul_comm}
use native.Mathlib.Omega.{arith}
use lib.ListN.{get_or, take, drop}
use lib.Seq.{get_or-take, get_or-drop, drop-drop}
use Rattle.std.proofs.lemmas.List.{drop-take}
use Rattle.bits.specs.Word.{bit, and_all}
use Rattle.bits.proofs.ListLaws.{map_ext}
use Rattle.area.specs.Shape.{blocks, desk_shape, record_words, aggregate_start, vector_start}
use Rattle.index.specs.Key.{Key}
use Rattle.lookup.specs.Walk.{row_at, ends, summaries_at, vector_at}
use Rattle.lookup.specs.Scan.{scan, meet, resolve}
use Rattle.lookup.specs.Look.{lookup_steps}
use Rattle.lookup.specs.InCode.{aggregate_at}

-- word i of record n
pub row_word : (area : List ℕ) (n i : ℕ) → i < record_words → get_or (row_at desk_shape area n) i 0 ≡ get_or area (record_words * n + i) 0
unfolding row_at
row_word area n i h =
    get_or-take record_words (drop (n * record_words) area) i 0 h
    ∙ get_or-drop (n * record_words) area i 0
    ∙ ap (λ (k : ℕ). get_or area (k + i) 0) (mul_comm n record_words)

-- the aggregate
aggregate_read : (area : List ℕ) (n : ℕ) → get_or (summaries_at desk_shape area n) 0 0 ≡ aggregate_at area n
unfolding summaries_at
aggregate_read area n =
    get_or-take 1 (drop aggregate_start (row_at desk_shape area n)) 0 0 (omega arith) ∙ get_or-drop aggregate_start (row_at desk_shape area n) 0 0 ∙ row_word area n aggregate_start (omega arith)

-- the vector
pub vector_part : (area : List ℕ) (n : ℕ) → vector_at desk_shape area n ≡ take blocks (drop (record_words * n + vector_start) area)
unfolding vector_at row_at
vector_part area n =
    drop-take vector_start blocks (drop (n * record_words) area)
    ∙ ap (take blocks) (drop-drop vector_start (n * record_words) area ∙ ap (λ (k : ℕ). drop k area) (omega arith))

-- ---- what the steps find

module _ (area : List ℕ) (ks : List Key) where
  pub steps_none : ends desk_shape area ks ≡ None → lookup_steps desk_shape area ks ≡ None
  unfolding lookup_steps
  steps_none e = rw (e, lookup_steps)

  -- from the words that the records hold
  pub steps_some : (ns : List ℕ) → ends desk_shape area ks ≡ Some ns
      → lookup_steps desk_shape area ks ≡ Some (scan 32 (bit (and_all 32 (map (aggregate_at area) ns))) (meet desk_shape (map (vector_at desk_shape area) ns)) blocks 0)
  unfolding lookup_steps resolve
  steps_some ns e =
      let words : map (λ s. get_or s 0 0) (map (summaries_at desk_shape area) ns) ≡ map (aggregate_at area) ns =
      map-map (λ s. get_or s 0 0) (summaries_at desk_shape area) ns
      ∙ map_ext (λ n. get_or (summaries_at desk_shape area n) 0 0) (aggregate_at area) (aggregate_read area) ns
      in
      rw (e, lookup_steps)
      (ap (λ (l : List ℕ). Some (scan 32 (bit (and_all 32 l)) (meet desk_shape (map (vector_at desk_shape area) ns)) blocks 0)) words)
