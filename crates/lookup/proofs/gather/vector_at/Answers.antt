-- `vector_at` meets its contract: the record's vector is the end of its row.
use mathlib.Core.Path.{◌≡◌, sym, ap, ◌∙◌}
use Prim.Native.Nat.{ℕ, ◌+◌, ◌-◌, ◌*◌}
use native.Mathlib.Omega.{arith}
use lib.ListN.{take, drop}
use Rattle.area.specs.Shape.{record_words, vector_start, blocks}
use Rattle.lookup.proofs.ReadLaws.{vector_part}
use Rattle.lookup.proofs.gather.vector_at.Goals as goal

pub returns : goal.returns
returns c =
    let start = record_words * c.args.row + vector_start in
    let size : start + blocks - start ≡ blocks = omega arith in
    c.vector.ensures
    ∙ ap (λ (n : ℕ). take n (drop start c.args.area.now)) size
    ∙ sym (vector_part c.args.area.now c.args.row)
