-- `same_leading` meets its contract: the word's leading zeros are those above the width and, after them, one for each bit in common.
use mathlib.Core.Path.{◌≡◌, ap, ◌∙◌}
use Prim.Native.Nat.{ℕ, ◌+◌, ◌-◌, ◌^◌, ◌≤◌, ◌<◌}
use native.Mathlib.Omega.{arith}
use mir.Facts.{Fits-below}
use lib.Bits.{bit_xor}
use lib.Count.{count_leading_zeros, leading_le}
use Rattle.bits.specs.Path.{bits, common}
use Rattle.bits.proofs.CommonLaws.{common_zeros}
use Rattle.bits.proofs.prefixes.Prefix.same_leading.Goals as goal

zeros : (d w a b : ℕ) → d ≡ bit_xor a b → w ≤ 32 → a < 2 ^ w → b < 2 ^ w
    → count_leading_zeros 32 d ≡ 32 - w + common (bits w a) (bits w b)
zeros d w a b is narrow first second = ap (count_leading_zeros 32) is ∙ common_zeros 32 w a b narrow first second

pub overflow_cast-result : goal.overflow_cast-result
overflow_cast-result c = Fits-below tt (leading_le 32 c.differing.result)

pub overflow_sub-result-2 : goal.overflow_sub-result-2
overflow_sub-result-2 c =
    let p = c.args.self in
    let q = c.args.other in
    omega (arith, zeros c.differing.result p.width p.value q.value c.differing.ensures p.narrow p.fits (rw (← c.requires) q.fits))

pub returns : goal.returns
returns c =
    let p = c.args.self in
    let q = c.args.other in
    omega (arith, zeros c.differing.result p.width p.value q.value c.differing.ensures p.narrow p.fits (rw (← c.requires) q.fits))
