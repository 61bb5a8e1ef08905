-- What lookup asks of a shape, and that one level of aggregation over a vector gives it; a second level over the first is one more shape that does.
-- Assumes nothing.
use mathlib.Core.Path.{◌≡◌, refl, ap, ap₂, ◌∙◌}
use mathlib.Core.Bool.{Bool, ◌&&◌}
use mathlib.Core.List.{List, ◌++◌, map}
use Prim.Native.Nat.{ℕ, suc, ◌+◌, ◌*◌, ◌/◌, ◌%◌, ◌≤◌, ◌<◌}
use native.Mathlib.Nat.{zero-mul, zero-add, div-lt_iff_lt-mul, mod-lt, div-add-mod', zero-lt-suc}
use native.Mathlib.Omega.{arith}
use lib.ListN.{get_or, length-append}
use Rattle.bits.specs.Word.{pack, bit, nonzero, aggregate, and_all}
use Rattle.bits.specs.Tests.{all}
use Rattle.bits.proofs.ListLaws.{all_ext, all_map, all_implied, and_implied}
use Rattle.bits.proofs.WordLaws.{bit_nonzero}
use Rattle.bits.proofs.WordSetLaws.{bit_all}
use Rattle.bits.proofs.PackLaws.{aggregate_bit, length_aggregate}
use Rattle.area.specs.Shape.{Shape, one_level, desk_shape}
use Rattle.index.proofs.ImageLaws.{Sized, one_level_sized}

-- what stands over the vector of some tests
abbrev pub over : Shape → List Bool → List ℕ
over S h = S.summary (pack S.size S.blocks h)

pub record Lawful (S : Shape) : Type 0 where
  pub places : 0 < S.size
  -- what stands over a vector has its length
  pub sized : Sized S
  -- the blocks to be tried are those in which each field has a word that is not zero
  pub tried_law : (hs : List (List Bool)) (b : ℕ) → b < S.blocks
      → S.tried (map (over S) hs) b ≡ all (λ h. nonzero (get_or (pack S.size S.blocks h) b 0)) hs

-- the fields' words at one place, intersected, at one bit
and_at : (size b : ℕ) → b < size → (w : List ℕ → ℕ) (g : List Bool → List ℕ) (hs : List (List Bool))
    → bit (and_all size (map w (map g hs))) b ≡ all (λ h. bit (w (g h)) b) hs
and_at size b l w g hs =
    bit_all size b l (map w (map g hs)) ∙ all_map (λ x. bit x b) w (map g hs) ∙ all_map (λ s. bit (w s) b) g hs

-- the first aggregate word over some words
first_bit : (size : ℕ) (ws : List ℕ) (b : ℕ) → b < size → bit (get_or (aggregate size 1 ws) 0 0) b ≡ nonzero (get_or ws b 0)
first_bit size ws b h =
    aggregate_bit size 1 ws 0 b (zero-lt-suc 0) h
    ∙ ap (λ (n : ℕ). nonzero (get_or ws n 0)) (ap (λ (n : ℕ). n + b) (zero-mul size) ∙ zero-add b)

-- ---- one level: a word over a vector of at most `size` words

pub one_lawful : (fields size blocks : ℕ) → 0 < size → blocks ≤ size → Lawful (one_level fields size blocks)
one_lawful fields size blocks pos fits = record {
  places = pos;
  sized = one_level_sized fields size blocks;
  tried_law = λ hs b l.
      let small : b < size = omega arith in
      and_at size b small (λ s. get_or s 0 0) (λ h. aggregate size 1 (pack size blocks h)) hs
      ∙ all_ext (λ h. bit (get_or (aggregate size 1 (pack size blocks h)) 0 0) b) (λ h. nonzero (get_or (pack size blocks h) b 0))
      (λ h. first_bit size (pack size blocks h) b small) hs;
}

pub desk_lawful : Lawful desk_shape
desk_lawful = one_lawful 5 32 8 (omega arith) (omega arith)

-- ---- two levels: a word over `groups` aggregate words, and these over `groups * size` words

abbrev pub two_level : ℕ → ℕ → ℕ → Shape
two_level fields size groups = record {
  fields = fields;
  size = size;
  blocks = groups * size;
  summaries = suc groups;
  summary = λ v. aggregate size 1 (aggregate size groups v) ++ aggregate size groups v;
  tried = λ over b.
      bit (and_all size (map (λ s. get_or s 0 0) over)) (b / size) && bit (and_all size (map (λ s. get_or s (suc (b / size)) 0) over)) (b % size);
}

-- a word over the words ws, then ws: place 0, and the places after it
top_word : (size : ℕ) (ws : List ℕ) → get_or (aggregate size 1 ws ++ ws) 0 0 ≡ get_or (aggregate size 1 ws) 0 0
unfolding aggregate pack
top_word size ws = refl

next_word : (size : ℕ) (ws : List ℕ) (b : ℕ) → get_or (aggregate size 1 ws ++ ws) (suc b) 0 ≡ get_or ws b 0
unfolding aggregate pack
next_word size ws b = refl

module _ (fields size groups : ℕ) (pos : 0 < size) (fits : groups ≤ size) (hs : List (List Bool)) (b : ℕ) (below : b < groups * size) where
  -- the aggregate words of some tests
  agg : List Bool → List ℕ
  agg h = aggregate size groups (pack size (groups * size) h)

  group : b / size < groups
  group = (div-lt_iff_lt-mul pos).1 below

  -- the top word tells which aggregate words are not zero
  top_tried : bit (and_all size (map (λ s. get_or s 0 0) (map (over (two_level fields size groups)) hs))) (b / size) ≡ all (λ h. nonzero (get_or (agg h) (b / size) 0)) hs
  unfolding agg
  top_tried =
      let h = group in
      let small : b / size < size = omega arith in
      and_at size (b / size) small (λ s. get_or s 0 0) (over (two_level fields size groups)) hs
      ∙ all_ext (λ h. bit (get_or (aggregate size 1 (agg h) ++ agg h) 0 0) (b / size)) (λ h. nonzero (get_or (agg h) (b / size) 0))
      (λ h. ap (λ (x : ℕ). bit x (b / size)) (top_word size (agg h)) ∙ first_bit size (agg h) (b / size) small) hs

  -- an aggregate word tells which words of its group are not zero
  group_tried : bit (and_all size (map (λ s. get_or s (suc (b / size)) 0) (map (over (two_level fields size groups)) hs))) (b % size)
      ≡ all (λ h. bit (get_or (agg h) (b / size) 0) (b % size)) hs
  unfolding agg
  group_tried =
      and_at size (b % size) (mod-lt b pos) (λ s. get_or s (suc (b / size)) 0) (over (two_level fields size groups)) hs
      ∙ all_ext (λ h. bit (get_or (aggregate size 1 (agg h) ++ agg h) (suc (b / size)) 0) (b % size)) (λ h. bit (get_or (agg h) (b / size) 0) (b % size))
      (λ h. ap (λ (x : ℕ). bit x (b % size)) (next_word size (agg h) (b / size))) hs

  -- and then the top word tells no more
  both_tried : (all (λ h. nonzero (get_or (agg h) (b / size) 0)) hs && all (λ h. bit (get_or (agg h) (b / size) 0) (b % size)) hs)
      ≡ all (λ h. nonzero (get_or (pack size (groups * size) h) b 0)) hs
  unfolding agg
  both_tried =
      and_implied (all (λ h. nonzero (get_or (agg h) (b / size) 0)) hs) (all (λ h. bit (get_or (agg h) (b / size) 0) (b % size)) hs)
      (all_implied (λ h. bit (get_or (agg h) (b / size) 0) (b % size)) (λ h. nonzero (get_or (agg h) (b / size) 0))
      (λ h. bit_nonzero (get_or (agg h) (b / size) 0) (b % size)) hs)
      ∙ all_ext (λ h. bit (get_or (agg h) (b / size) 0) (b % size)) (λ h. nonzero (get_or (pack size (groups * size) h) b 0))
      (λ h. aggregate_bit size groups (pack size (groups * size) h) (b / size) (b % size) group (mod-lt b pos)
      ∙ ap (λ (n : ℕ). nonzero (get_or (pack size (groups * size) h) n 0)) (div-add-mod' b size)) hs

pub two_lawful : (fields size groups : ℕ) → 0 < size → groups ≤ size → Lawful (two_level fields size groups)
two_lawful fields size groups pos fits = record {
  places = pos;
  sized = λ h.
      let ws : List ℕ = aggregate size groups (pack size (groups * size) h) in
      omega (arith, length-append (aggregate size 1 ws) ws, length_aggregate size 1 ws, length_aggregate size groups (pack size (groups * size) h));
  tried_law = λ hs b l.
      ap₂ (λ x y. x && y) (top_tried fields size groups pos fits hs b l) (group_tried fields size groups pos fits hs b l) ∙ both_tried fields size groups pos fits hs b l;
}
