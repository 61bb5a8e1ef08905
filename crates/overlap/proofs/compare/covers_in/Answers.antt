-- `covers_in` meets its contract: a prefix that is no longer decides, and a longer one covers nothing.
use mathlib.Core.Path.{sym, ◌∙◌}
use native.Mathlib.Omega.{arith}
use borrow.Author.Tests.{lt-leb}
use Rattle.overlap.proofs.RecordLaws.{read, short_cover, long_cover}
use Rattle.overlap.proofs.compare.covers_in.Goals as goal

pub returns-then-first-second : goal.returns-then-first-second
returns-then-first-second c =
    let p = c.prefix-first.ensures in
    let q = c.prefix-second.ensures in
    let first = read c.prefix-first.result c.args.a.sound c.requires p.value p.len p.width in
    let second = read c.prefix-second.result c.args.b.sound c.requires q.value q.len q.width in
    c.leads.ensures
    ∙ short_cover first second c.if-first-second.true

pub returns-else-first-second : goal.returns-else-first-second
returns-else-first-second c =
    let p = c.prefix-first.ensures in
    let q = c.prefix-second.ensures in
    let first = read c.prefix-first.result c.args.a.sound c.requires p.value p.len p.width in
    let second = read c.prefix-second.result c.args.b.sound c.requires q.value q.len q.width in
    lt-leb _ _ (omega arith)
    ∙ sym (long_cover first second (omega arith))
