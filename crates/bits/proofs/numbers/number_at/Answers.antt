-- `number_at` meets its contract: that of the bytes' part.
use mathlib.Core.Path.{◌≡◌}
use Prim.Native.Nat.{◌+◌, ◌-◌}
use native.Mathlib.Omega.{arith}
use lib.ListN.{length, take, drop, length-take, length-drop}
use Rattle.bits.specs.Number.{number_at}
use Rattle.bits.proofs.numbers.number_at.Goals as goal

pub returns : goal.returns
unfolding number_at
returns c =
    let a = c.args in
    let e : a.at + a.size - a.at ≡ a.size = omega arith in
    let h = rw e at c.number.ensures in
    let long : length (take a.size (drop a.at a.bytes.now)) ≡ a.size =
    omega (arith, length-take a.size (drop a.at a.bytes.now), length-drop a.at a.bytes.now)
    in
    (h.0, rw long at h.1)
