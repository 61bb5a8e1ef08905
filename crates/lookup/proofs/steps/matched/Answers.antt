-- `matched` meets its contract: 9 past the last rule, 5 for an unknown action, else the match.
use mathlib.Core.Path.{◌≡◌, sym, ap, ◌∙◌}
use mathlib.Core.List.{List}
use Prim.Native.Nat.{ℕ, ◌/◌, ◌<◌}
use native.Mathlib.Omega.{arith}
use lib.ListN.{length}
use borrow.Author.Tests.{lt-ltb, le-ltb}
use Rattle.rules.specs.Action.{action_in}
use Rattle.rules.specs.Refusal.{told, said}
use Rattle.rules.specs.Table.{record_size, record_at}
use Rattle.rules.proofs.TableLaws.{length_record}
use Rattle.lookup.specs.InCode.{outcome_said}
use Rattle.lookup.proofs.LookLaws.{said_far, said_no_action, said_known}
use Rattle.lookup.proofs.steps.matched.Goals as goal

pub returns-then-table-place : goal.returns-then-table-place
unfolding told said
returns-then-table-place c =
    let a = c.args in
    sym (said_far a.table.now a.falses a.place (le-ltb a.place (length a.table.now / 24) c.if-table-place.true))

pub returns-in_default : goal.returns-in_default
unfolding told said
returns-in_default c =
    let a = c.args in
    sym (said_no_action a.table.now a.falses a.place (lt-ltb a.place (length a.table.now / 24) c.if-table-place.false)
    (sym (c.action_of.ensures ∙ ap action_in c.record_at-rule.ensures) ∙ c.in_default.is))

pub returns : goal.returns
unfolding told outcome_said
returns c =
    let a = c.args in
    sym (said_known a.table.now a.falses a.place _ (lt-ltb a.place (length a.table.now / 24) c.if-table-place.false)
    (sym (c.action_of.ensures ∙ ap action_in c.record_at-rule.ensures) ∙ c.in-Some.is))
