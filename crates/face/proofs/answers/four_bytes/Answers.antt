-- `four_bytes` meets its contract.
use mathlib.Core.Path.{◌∙◌}
use native.Mathlib.Omega.{arith}
use Rattle.face.proofs.ByteLaws.{four_bytes}
use Rattle.face.proofs.answers.four_bytes.Goals as goal

pub returns : goal.returns
returns c = c.to_be_bytes.ensures ∙ four_bytes c.args.number (omega (arith, c.ranges.number.fits))
