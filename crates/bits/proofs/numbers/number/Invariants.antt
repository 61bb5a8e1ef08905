-- `number` meets its contract. The loop's invariant: n is the number of the bytes so far.
use mathlib.Core.Path.{◌≡◌}
use Prim.Native.Nat.{◌*◌, ◌^◌, ◌<◌}
use Rattle.bits.specs.Number.{number_at}
use Rattle.bits.proofs.numbers.number.Given as goal

abbrev pub invariant-loop-byte : goal.invariant-loop-byte
invariant-loop-byte l = (l.n ≡ number_at l.bytes 0 l.byte-index) × (l.n < 2 ^ (8 * l.byte-index))
