-- The shape of an index record: how many fields, how a vector is cut into words, and what stands over the vector.
-- Assumes nothing.
use Rattle.std.specs.Prelude.{Bool, List, map, ℕ, ◌+◌, get_or}
use Rattle.bits.specs.Word.{aggregate, and_all, bit}

pub record Shape : Type 0 where
  pub fields : ℕ
  -- the places of a word, and the words of a vector
  pub size : ℕ
  pub blocks : ℕ
  -- the words that stand over a vector: how many they are and what they hold
  pub summaries : ℕ
  pub summary : List ℕ → List ℕ
  -- which blocks the fields' summaries leave to be tried
  pub tried : List (List ℕ) → ℕ → Bool

-- "records of 11 words: child for bit 0, child for bit 1, aggregate, eight vector words"
abbrev pub width : Shape → ℕ
width S = 2 + (S.summaries + S.blocks)

-- one aggregate word over a vector; "Blocks 0 to 7 whose five aggregate bits are all set are tried"
abbrev pub one_level : ℕ → ℕ → ℕ → Shape
one_level fields size blocks = record {
  fields = fields;
  size = size;
  blocks = blocks;
  summaries = 1;
  summary = aggregate size 1;
  tried = λ over b. bit (and_all size (map (λ s. get_or s 0 0) over)) b;
}

-- the desk's: five fields, eight words of 32 places
abbrev pub desk_shape : Shape
desk_shape = one_level 5 32 8

-- "records of 11 words"
abbrev pub record_words : ℕ
record_words = width desk_shape

-- "child for bit 0, child for bit 1, aggregate": after the two children
abbrev pub aggregate_start : ℕ
aggregate_start = 2

-- "aggregate, eight vector words": the vector comes last
abbrev pub vector_start : ℕ
vector_start = aggregate_start + desk_shape.summaries

-- "eight vector words"
abbrev pub blocks : ℕ
blocks = desk_shape.blocks
