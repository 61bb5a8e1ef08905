-- `two_bytes` meets its contract.
use mathlib.Core.Path.{◌∙◌}
use native.Mathlib.Omega.{arith}
use Rattle.face.proofs.ByteLaws.{two_bytes}
use Rattle.face.proofs.answers.two_bytes.Goals as goal

pub returns : goal.returns
returns c = c.to_be_bytes.ensures ∙ two_bytes c.args.number (omega (arith, c.ranges.number.fits))
