-- `aggregate_all` meets its contract. The loop's invariant: the first k records have their aggregates.
use mathlib.Core.Path.{◌≡◌, sym, ◌∙◌}
use Prim.Native.Nat.{◌+◌, ◌*◌}
use native.Mathlib.Omega.{arith}
use Rattle.area.specs.Shape.{blocks, record_words, vector_start}
use Rattle.area.specs.Sums.{sum_at}
use Rattle.area.proofs.SumLaws.{sum_of_part, summed_none, summed_more}
use Rattle.area.proofs.sums.aggregate_all.Goals as goal

pub loop-k-init : goal.loop-k-init
loop-k-init c = sym (summed_none _)

pub loop-k-preserved : goal.loop-k-preserved
loop-k-preserved c =
    let l = c.loop-k in
    let sum : c.aggregate-sum.result ≡ sum_at l.area (record_words * l.k + vector_start) blocks =
    c.aggregate-sum.ensures ∙ rw c.vector.ensures (sum_of_part l.area _ blocks (omega arith))
    in
    rw (sum, l.invariant) (summed_more _ _)
