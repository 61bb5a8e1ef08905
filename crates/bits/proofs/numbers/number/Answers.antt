-- `number` meets its contract. The loop's invariant: n is the number of the bytes so far.
use mathlib.Core.Path.{◌≡◌, sym, ap₂, ◌∙◌}
use Prim.Native.Nat.{ℕ, ◌+◌, ◌*◌, ◌<◌}
use native.Mathlib.Omega.{arith}
use lib.ListN.{length}
use Rattle.bits.proofs.NumberLaws.{number_none, number_whole, number_next, byte_more, byte_room}
use Rattle.bits.proofs.numbers.number.Goals as goal

pub loop-byte-init : goal.loop-byte-init
loop-byte-init c = (sym (number_none c.args.bytes.now 0), omega arith)

pub overflow_mul-n : goal.overflow_mul-n
overflow_mul-n c = let l = c.loop-byte in omega (arith, byte_room l.n l.byte-index l.invariant.1 (omega arith))

pub overflow_add-n : goal.overflow_add-n
overflow_add-n c =
    let l = c.loop-byte in
    omega (arith, byte_room l.n l.byte-index l.invariant.1 (omega arith), c.from.ensures, c.type_inv.bytes l.byte-index)

pub loop-byte-preserved : goal.loop-byte-preserved
loop-byte-preserved c =
    let l = c.loop-byte in
    let byte : c.from.result < 256 = omega (arith, c.from.ensures, c.type_inv.bytes l.byte-index) in (
      ap₂ (λ (n b : ℕ). n * 256 + b) l.invariant.0 c.from.ensures ∙ number_next c.args.bytes.now l.byte-index c.loop-byte-test.true,
      byte_more l.n c.from.result l.byte-index l.invariant.1 byte,
    )

pub returns : goal.returns
returns c =
    let l = c.loop-byte in
    let e : l.byte-index ≡ length c.args.bytes.now = omega arith in
    rw (← e) (l.invariant.0 ∙ number_whole c.args.bytes.now l.byte-index c.loop-byte-test.false, l.invariant.1)
