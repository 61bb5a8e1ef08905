-- `count_in` meets its contract.
use mathlib.Core.Path.{◌≡◌, refl, sym}
use Prim.Native.Nat.{ℕ}
use native.Mathlib.Omega.{arith}
use Rattle.std.specs.Prelude.{Result, Ok, Err}
use Rattle.std.specs.declared.io.Error.{Error}
use Rattle.std.proofs.lemmas.Result.{err_from_is_err_and}
use Rattle.ruledesk.specs.Reading.{counted_in}
use Rattle.ruledesk.proofs.ReadingLaws.{lengthened_none, lengthened_more, lengthened_large}
use Rattle.ruledesk.proofs.read.count_in.Goals as goal

failed : (whole : ℕ) (answer : Result ℕ Error) → ((n : ℕ) → answer ≡ Ok n → ⊥) → Err (record {}) ≡ counted_in whole answer
unfolding counted_in
failed whole (Ok n) other = absurd (other n refl)
failed whole (Err e) other = refl

pub returns-in_default : goal.returns-in_default
returns-in_default c = failed c.args.whole c.args.answer c.in_default.not-Ok

pub returns-then-count-eq0 : goal.returns-then-count-eq0
unfolding counted_in
returns-then-count-eq0 c = rw c.in-Ok.is (sym (lengthened_none c.args.whole c.in-Ok.count c.if-count-eq0.true))

pub returns-in_err-ok_or : goal.returns-in_err-ok_or
unfolding counted_in
returns-in_err-ok_or c =
    let large = rw c.in_err-ok_or.ensures.ok_part at c.checked_add.ensures in
    let p = err_from_is_err_and c.from_residual.result c.from_residual.ensures.1 in
    rw (c.in-Ok.is, p.1) (sym (lengthened_large c.args.whole c.in-Ok.count c.if-count-eq0.false (omega (arith, large))))

pub returns : goal.returns
unfolding counted_in
returns c =
    let sum = rw c.in_ok-ok_or.ensures.ok_part at c.checked_add.ensures in
    rw (c.in-Ok.is, sum.1) (sym (lengthened_more c.args.whole c.in-Ok.count c.if-count-eq0.false sum.0))
