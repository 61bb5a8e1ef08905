-- `look` meets its contract: 8, 1, 2, 9, then the steps.
use mathlib.Core.Path.{◌≡◌, sym, ap, ◌∙◌}
use mathlib.Core.List.{List}
use Prim.Native.Nat.{ℕ, ◌/◌, ◌%◌}
use lib.ListN.{length}
use lib.Dec.{eqb}
use mathlib.Core.Bool.{true}
use borrow.Author.Tests.{eq-eqb, ne_eqb, lt-ltb, le-ltb}
use native.Mathlib.Omega.{arith}
use Rattle.std.proofs.lemmas.Option.{MatchOption-at_some}
use Rattle.rules.specs.Refusal.{told, said}
use Rattle.rules.specs.Header.{header_values}
use Rattle.area.specs.Shape.{desk_shape}
use Rattle.lookup.specs.Look.{header_keys, widths, lookup_steps, steps_said, least_words}
use Rattle.lookup.proofs.LookLaws.{look_header, look_ragged, look_many, look_short, look_steps}
use Rattle.lookup.proofs.steps.look.Goals as goal

-- a header's length, and that of a whole number of rules, as the definitions test them
thirteen : (header : List ℕ) → length header ≡ 13 → eqb (length header) 13 ≡ true
thirteen header e = eq-eqb (length header) 13 e

whole : (table : List ℕ) → length table % 24 ≡ 0 → eqb (length table % 24) 0 ≡ true
whole table e = eq-eqb (length table % 24) 0 e

pub returns-then-header-ne-HEADER_BYTES : goal.returns-then-header-ne-HEADER_BYTES
unfolding told said
returns-then-header-ne-HEADER_BYTES c =
    let a = c.args in
    sym (look_header a.table.now a.area.now a.header.now (ne_eqb (length a.header.now) 13 c.if-header-ne-HEADER_BYTES.true))

pub returns-then-table-ne0 : goal.returns-then-table-ne0
unfolding told said
returns-then-table-ne0 c =
    let a = c.args in
    sym (look_ragged a.table.now a.area.now a.header.now (thirteen a.header.now (omega arith)) (ne_eqb (length a.table.now % 24) 0 c.if-table-ne0.true))

pub returns-then-table-gt-MOST_RULES : goal.returns-then-table-gt-MOST_RULES
unfolding told said
returns-then-table-gt-MOST_RULES c =
    let a = c.args in
    sym (look_many a.table.now a.area.now a.header.now (thirteen a.header.now (omega arith)) (whole a.table.now (omega arith)) (lt-ltb 256 (length a.table.now / 24) c.if-table-gt-MOST_RULES.true))

pub returns-then-area : goal.returns-then-area
unfolding told said
returns-then-area c =
    let a = c.args in
    sym (look_short a.table.now a.area.now a.header.now (thirteen a.header.now (omega arith)) (whole a.table.now (omega arith)) (le-ltb 256 (length c.args.table.now / 24) c.if-table-gt-MOST_RULES.false)
    (lt-ltb (length a.area.now) least_words c.if-area.true))

pub returns : goal.returns
returns c =
    let a = c.args in
    let same = (MatchOption-at_some _ _ _ c.unwrap.ensures c.as_array.ensures.cases).same in
    c.go_through.ensures
    ∙ ap (λ (h : List ℕ). steps_said a.table.now (lookup_steps desk_shape a.area.now (header_keys widths (header_values h)))) same
    ∙ sym (look_steps a.table.now a.area.now a.header.now (thirteen a.header.now (omega arith)) (whole a.table.now (omega arith)) (le-ltb 256 (length c.args.table.now / 24) c.if-table-gt-MOST_RULES.false)
    (le-ltb (length a.area.now) least_words c.if-area.false))
