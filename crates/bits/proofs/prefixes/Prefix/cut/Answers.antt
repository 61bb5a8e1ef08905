-- `cut` meets its contract: the mask of the length's place in the word clears what stands after it.
use mathlib.Core.Path.{ap, ◌∙◌}
use lib.Bits.{bit_and}
use Rattle.bits.proofs.MaskLaws.{mask_cut}
use Rattle.bits.proofs.prefixes.Prefix.cut.Goals as goal

pub returns : goal.returns
returns c =
    let p = c.args.self in
    ap (bit_and c.args.value) c.mask.ensures ∙ mask_cut p.width c.args.value p.len p.short p.narrow c.requires
