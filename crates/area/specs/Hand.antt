-- Handing on the vectors of an area's records.
-- Assumes nothing.
use Rattle.std.specs.Prelude.{cond, List, ℕ, ◌+◌, ◌*◌, eqb, get_or, set}
use Rattle.std.specs.Int.Bits.{bit_or}
use Rattle.area.specs.Shape.{blocks, record_words, vector_start}
use Rattle.area.specs.Upto.{upto}

-- word v of record r's vector, and record r's child for bit b
abbrev pub vector_word : List ℕ → ℕ → ℕ → ℕ
vector_word a r v = get_or a (record_words * r + vector_start + v) 0

abbrev pub child_word : List ℕ → ℕ → ℕ → ℕ
child_word a r b = get_or a (record_words * r + b) 0

-- word w of record k's vector goes into that of record c's
abbrev pub or_word : ℕ → ℕ → ℕ → List ℕ → List ℕ
or_word k c w a = set a (record_words * c + vector_start + w) (bit_or (vector_word a c w) (vector_word a k w))

-- record k's vector goes into record c's
unfoldable pub joined : ℕ → ℕ → List ℕ → List ℕ
joined k c a = upto (or_word k c) blocks a

-- record k's vector goes into its child's for bit b, where it has one
unfoldable pub to_child : ℕ → ℕ → List ℕ → List ℕ
to_child k b a = cond (eqb (child_word a k b) 0) a (joined k (child_word a k b) a)

-- the first n records hand on, in their order, each to both its children
unfoldable pub handed : ℕ → List ℕ → List ℕ
handed n a = upto (λ k x. to_child k 1 (to_child k 0 x)) n a
