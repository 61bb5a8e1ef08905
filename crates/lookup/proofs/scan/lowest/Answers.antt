-- `lowest` meets its contract: the zeros are at most the word's 32 bits.
use mathlib.Core.Path.{refl}
use native.Mathlib.Omega.{arith}
use lib.Count.{trailing_le}
use Rattle.lookup.proofs.scan.lowest.Goals as goal

pub overflow_cast-result : goal.overflow_cast-result
overflow_cast-result c = omega (arith, trailing_le 32 c.args.word)

pub returns : goal.returns
returns c = (refl, trailing_le 32 c.args.word)
