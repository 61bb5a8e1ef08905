-- `is_overtaken` meets its contract: a pair that keeps its order is not overtaken, whatever its rules.
use mathlib.Core.Path.{ap₂, ◌∙◌}
use lib.ListN.{get_or}
use borrow.Author.Tests.{lt-ltb, le-ltb}
use Rattle.overlap.specs.Judge.{clashes}
use Rattle.overlap.specs.Obstacle.{overtaken_by}
use Rattle.overlap.proofs.RecordLaws.{rule_at_lem}
use Rattle.overlap.proofs.judge.is_overtaken.Goals as goal

pub returns-then-places-higher : goal.returns-then-places-higher
unfolding overtaken_by
returns-then-places-higher c =
    let a = c.args in
    let t = a.table.bytes.now in
    rw (lt-ltb (get_or a.places.now a.higher 0) (get_or a.places.now a.lower 0) c.if-places-higher.true)
    (c.clash.ensures
    ∙ ap₂ clashes (rule_at_lem t a.lower c.requires.1 _ c.record.ensures) (rule_at_lem t a.higher c.requires.2 _ c.record-then-places-higher.ensures))

pub returns-else-places-higher : goal.returns-else-places-higher
unfolding overtaken_by
returns-else-places-higher c =
    let a = c.args in
    rw (le-ltb (get_or a.places.now a.higher 0) (get_or a.places.now a.lower 0) c.if-places-higher.false)
