-- The image word by word: records of one length stand one after the other, so that a word's place is its record's number times that
-- length and its place in the record.
-- Assumes nothing.
use mathlib.Core.Path.{◌≡◌, refl, ap, ◌∙◌}
use mathlib.Core.Bool.{Bool, true, false}
use mathlib.Core.List.{List, [], ◌++◌, map, flatten}
use Prim.Native.Nat.{ℕ, suc, ◌+◌, ◌*◌, ◌<◌}
use native.Mathlib.Omega.{arith}
use lib.ListN.{length, get_or, take, drop, length-append, length-map}
use lib.Seq.{take_at, drop_at}
use Rattle.bits.specs.Word.{digit, pack}
use Rattle.bits.proofs.EachLaws.{get_d_map}
use Rattle.bits.proofs.PackLaws.{length_aggregate}
use Rattle.bits.proofs.RowLaws.{Rows, length_rows, row_at, in_row}
use Rattle.rules.specs.Rule.{Rule}
use Rattle.area.specs.Shape.{Shape, width, one_level, desk_shape}
use Rattle.index.specs.Key.{Key, hit}
use Rattle.index.specs.Keys.{keys}
use Rattle.index.specs.Image.{child, vector, record_of, image}
use Rattle.index.specs.Need.{need}
use Rattle.index.proofs.KeyLaws.{no_key, Stands}
use Rattle.index.proofs.CountLaws.{records_law}
use Rattle.index.proofs.VectorLaws.{length_vector}

-- ---- one record

module _ (S : Shape) (rules : List Rule) (ks : List Key) (k : Key) where
  pub record_child : (b : Bool) → get_or (record_of S rules ks k) (digit b) 0 ≡ child ks k b
  unfolding record_of
  record_child true = refl
  record_child false = refl

-- what a shape's summary is asked: that it has its length
abbrev pub Sized : Shape → Type 0
Sized S = (h : List Bool) → length (S.summary (pack S.size S.blocks h)) ≡ S.summaries

pub one_level_sized : (fields size blocks : ℕ) → Sized (one_level fields size blocks)
one_level_sized fields size blocks h = length_aggregate size 1 (pack size blocks h)

pub desk_sized : Sized desk_shape
desk_sized = one_level_sized desk_shape.fields desk_shape.size desk_shape.blocks

module _ (S : Shape) (sized : Sized S) (rules : List Rule) where
  pub length_summary : (k : Key) → length (S.summary (vector S rules k)) ≡ S.summaries
  unfolding vector
  length_summary k = sized (map (hit k) rules)

  pub length_record_of : (ks : List Key) (k : Key) → length (record_of S rules ks k) ≡ width S
  unfolding record_of
  length_record_of ks k =
      omega (arith, length-append (S.summary (vector S rules k)) (vector S rules k), length_summary k, length_vector S rules k)

  pub record_summary : (ks : List Key) (k : Key) → take S.summaries (drop 2 (record_of S rules ks k)) ≡ S.summary (vector S rules k)
  unfolding record_of
  record_summary ks k = take_at (S.summary (vector S rules k)) (vector S rules k) S.summaries (length_summary k)

  pub record_vector : (ks : List Key) (k : Key) → drop (2 + S.summaries) (record_of S rules ks k) ≡ vector S rules k
  unfolding record_of
  record_vector ks k =
      let two : 2 + S.summaries ≡ suc (suc S.summaries) = omega arith in
      rw two (drop_at (S.summary (vector S rules k)) (vector S rules k) S.summaries (length_summary k))

  -- ---- the image

  records_wide : (ks : List Key) → Rows (width S) (map (record_of S rules ks) ks)
  records_wide ks i h =
      rw (get_d_map (record_of S rules ks) ks i [] no_key (rw length-map at h)) (length_record_of ks (get_or ks i no_key))

  -- the image has the words needed
  pub length_image : length (image S rules) ≡ need S rules
  unfolding image need
  length_image =
      let ks = keys S.fields rules in
      length_rows (width S) (map (record_of S rules ks) ks) (records_wide ks)
      ∙ ap (λ (n : ℕ). n * width S) (length-map ks (record_of S rules ks) ∙ records_law S.fields rules)

  record_row : (ks : List Key) (n : ℕ) (k : Key) → Stands ks n k → (rest : List ℕ)
      → take (width S) (drop (n * width S) (flatten (map (record_of S rules ks) ks) ++ rest)) ≡ record_of S rules ks k
  record_row ks n k stands rest =
      row_at (width S) (map (record_of S rules ks) ks) (records_wide ks) n (rw length-map stands.inside) rest
      ∙ rw (get_d_map (record_of S rules ks) ks n [] no_key stands.inside, stands.there)

  -- the record of a key, whatever follows the image
  module _ (n : ℕ) (k : Key) (stands : Stands (keys S.fields rules) n k) (rest : List ℕ) where
    pub image_record : take (width S) (drop (n * width S) (image S rules ++ rest)) ≡ record_of S rules (keys S.fields rules) k
    unfolding image
    image_record = record_row (keys S.fields rules) n k stands rest

    -- and its words
    pub image_word : (j : ℕ) → j < width S
        → get_or (image S rules ++ rest) (n * width S + j) 0 ≡ get_or (record_of S rules (keys S.fields rules) k) j 0
    image_word j = in_row (width S) (image S rules ++ rest) n (record_of S rules (keys S.fields rules) k) image_record j 0
