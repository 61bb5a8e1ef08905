-- `is_listed` meets its contract: the three tests, one after another.
use mathlib.Core.Path.{sym, ◌∙◌}
use mathlib.Core.Bool.{true≢false}
use Rattle.overlap.specs.Pairs.{listed}
use Rattle.overlap.proofs.pairs.is_listed.Goals as goal
use Rattle.overlap.proofs.pairs.is_listed.Goals.{then-shares, else-shares}

pub returns-then-not-covers : goal.returns-then-not-covers
unfolding listed
returns-then-not-covers c =
    rw (← c.covers-then-not-covers.ensures)
    (elim c.if-shares.branch [
      | then-shares w ↦ rw (← c.shares.ensures, w.if-shares.true, ← w.covers.ensures, sym w.value-is ∙ c.if-not-covers.true)
      | else-shares w ↦ absurd (true≢false (sym c.if-not-covers.true ∙ w.value-is ∙ w.if-shares.false))
    ])

pub returns-else-not-covers : goal.returns-else-not-covers
unfolding listed
returns-else-not-covers c =
    elim c.if-shares.branch [
      | then-shares w ↦ rw (← c.shares.ensures, w.if-shares.true, ← w.covers.ensures, sym w.value-is ∙ c.if-not-covers.false) c.if-not-covers.false
      | else-shares w ↦ rw (← c.shares.ensures, w.if-shares.false) c.if-not-covers.false
    ]
