-- `shares_in` meets its contract: the shorter prefix decides.
use mathlib.Core.Path.{◌∙◌}
use native.Mathlib.Omega.{arith}
use Rattle.rules.proofs.OverlapLaws.{span_swap}
use Rattle.overlap.proofs.RecordLaws.{read, short_share}
use Rattle.overlap.proofs.compare.shares_in.Goals as goal

pub returns-then-first-second : goal.returns-then-first-second
returns-then-first-second c =
    let p = c.prefix-first.ensures in
    let q = c.prefix-second.ensures in
    let first = read c.prefix-first.result c.args.a.sound c.requires p.value p.len p.width in
    let second = read c.prefix-second.result c.args.b.sound c.requires q.value q.len q.width in
    c.leads.ensures
    ∙ short_share first second c.if-first-second.true

pub returns-else-first-second : goal.returns-else-first-second
returns-else-first-second c =
    let p = c.prefix-first.ensures in
    let q = c.prefix-second.ensures in
    let first = read c.prefix-first.result c.args.a.sound c.requires p.value p.len p.width in
    let second = read c.prefix-second.result c.args.b.sound c.requires q.value q.len q.width in
    c.leads-else-first-second.ensures
    ∙ short_share second first (omega arith)
    ∙ span_swap _ _
