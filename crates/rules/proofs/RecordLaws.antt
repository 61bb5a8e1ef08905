-- The chunks of bytes by their places; those of a table's bytes are its records.
-- Assumes nothing.
use mathlib.Core.Path.{◌≡◌, ◌∙◌}
use mathlib.Core.List.{List, []}
use Prim.Native.Nat.{ℕ, zero, suc, ◌*◌, ◌<◌}
use native.Mathlib.Omega.{arith}
use lib.ListN.{get_or, take, drop}
use lib.Seq.{drop-drop}
use native.Mathlib.Nat.{zero-mul, suc-mul, add_comm}
use Rattle.std.specs.Simd.{first_chunks}
use Rattle.rules.specs.Table.{record_size, record_at}

pub chunk_at : (size k j : ℕ) (l : List ℕ) → j < k → get_or (first_chunks size k l) j [] ≡ take size (drop (j * size) l)
chunk_at size zero j l h = absurd (omega (arith, h))
chunk_at size (suc k) zero l h = rw (zero-mul size)
chunk_at size (suc k) (suc j) l h = chunk_at size k j (drop size l) (omega arith) ∙ rw (drop-drop (j * size) size l, suc-mul j size, add_comm size (j * size))

pub chunk_record : (table : List ℕ) (k place : ℕ) → place < k → get_or (first_chunks record_size k table) place [] ≡ record_at table place
unfolding record_at
chunk_record table k place h = chunk_at record_size k place table h
