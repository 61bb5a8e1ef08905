-- `go_through` meets its contract: 9 where a walk met damage, else what the blocks gave.
use mathlib.Core.Path.{sym, ap, ap₂, ◌∙◌}
use mathlib.Core.List.{List}
use Prim.Native.Nat.{ℕ}
use Rattle.bits.specs.Word.{bit, and_all}
use Rattle.rules.specs.Refusal.{told, said}
use Rattle.area.specs.Shape.{blocks, desk_shape}
use Rattle.lookup.specs.Scan.{scan, meet}
use Rattle.lookup.specs.Look.{found_said, steps_said}
use Rattle.lookup.proofs.ReadLaws.{steps_none, steps_some}
use Rattle.lookup.proofs.FieldTurns.{keys_of}
use Rattle.lookup.proofs.steps.go_through.Goals as goal

pub returns-in_default : goal.returns-in_default
unfolding told said steps_said
returns-in_default c =
    let a = c.args in
    sym (ap (steps_said a.table.now) (steps_none a.area.now (keys_of a.header.now) (sym c.in_default.ensures.ends)))

pub returns : goal.returns
unfolding steps_said
returns c =
    let a = c.args in
    let table = a.table.now in
    c.said_of.ensures
    ∙ ap (found_said table) c.try_blocks.ensures
    ∙ ap₂ (λ (l : List ℕ) (vs : List (List ℕ)). found_said table (scan 32 (bit (and_all 32 l)) (meet desk_shape vs) blocks 0)) c.aggregates_at-aggregates.ensures c.vectors_at-vectors.ensures
    ∙ sym (ap (steps_said table) (steps_some a.area.now (keys_of a.header.now) c.in-Some.records (sym c.in-Some.ensures.ends)))
