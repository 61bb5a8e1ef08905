-- `go_down` meets its contract. The loop's invariant: from here, by the bits that are left, the walk ends where the whole walk ends.
use mathlib.Core.Path.{◌≡◌, sym, ap, ◌∙◌}
use mathlib.Core.Logic.{⊎_elim}
use Prim.Native.Nat.{ℕ, ◌+◌, ◌-◌, ◌*◌}
use native.Mathlib.Omega.{arith}
use lib.ListN.{get_or}
use Rattle.bits.specs.Path.{bits}
use Rattle.area.specs.Shape.{desk_shape, record_words}
use Rattle.lookup.specs.Walk.{walk_from}
use Rattle.lookup.proofs.WalkTurns.{step_stop, step_bad, step_on, bad_low, bad_high, bad_none}
use Rattle.lookup.proofs.walk.go_down.Goals as goal

pub loop-j-init : goal.loop-j-init
loop-j-init c =
    let a = c.args in
    let all : a.width - 0 ≡ a.width = omega arith in
    (omega arith, omega arith, ap (λ (k : ℕ). walk_from desk_shape a.area.now a.root (bits k a.value)) all)

pub overflow_cast-child : goal.overflow_cast-child
overflow_cast-child c = omega (arith, c.type_inv.area (record_words * c.loop-j.row + c.bit_of.result))

pub returns-then-child-eq0 : goal.returns-then-child-eq0
returns-then-child-eq0 c =
    let a = c.args in
    sym (step_stop a.area.now c.loop-j.row a.value a.width c.loop-j.j _ c.loop-j-test.true c.bit_of.ensures c.if-child-eq0.true)
    ∙ c.loop-j.invariant.2

pub returns-then-child-lt-FIELDS : goal.returns-then-child-lt-FIELDS
returns-then-child-lt-FIELDS c =
    let a = c.args in
    let area = a.area.now in
    let child = get_or area (record_words * c.loop-j.row + c.bit_of.result) 0 in
    sym (step_bad area c.loop-j.row a.value a.width c.loop-j.j _ c.loop-j-test.true c.bit_of.ensures c.if-child-eq0.false
    (⊎_elim (bad_low area child) (λ t. bad_high area child t.1) c.then-child-lt-FIELDS.either))
    ∙ c.loop-j.invariant.2

pub loop-j-preserved : goal.loop-j-preserved
loop-j-preserved c =
    let a = c.args in
    let area = a.area.now in
    let child = get_or area (record_words * c.loop-j.row + c.bit_of.result) 0 in
    let high = c.if-records-child.false in (
      omega arith,
      high,
      sym (step_on area c.loop-j.row a.value a.width c.loop-j.j _ c.loop-j-test.true c.bit_of.ensures c.if-child-eq0.false
          (bad_none area child (omega arith) high))
          ∙ c.loop-j.invariant.2,
    )

pub returns : goal.returns
unfolding walk_from bits
returns c =
    let a = c.args in
    let none_left : a.width - c.loop-j.j ≡ 0 = omega arith in
    ap (λ (k : ℕ). walk_from desk_shape a.area.now c.loop-j.row (bits k a.value)) (sym none_left) ∙ c.loop-j.invariant.2
