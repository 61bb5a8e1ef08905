-- `is_stray` meets its contract: a value that is not its own cut has a bit after the prefix.
use mathlib.Core.Path.{ap, sym, ◌∙◌}
use mathlib.Core.Bool.{not}
use Prim.Native.Nat.{ℕ}
use lib.Dec.{eqb}
use Rattle.bits.proofs.MaskLaws.{cut_whole}
use Rattle.bits.proofs.PathLaws.{stray_number}
use Rattle.bits.proofs.prefixes.Prefix.is_stray.Goals as goal

pub returns : goal.returns
returns c =
    let p = c.args.self in
    ap (λ (n : ℕ). not (eqb n p.value)) c.cut.ensures
    ∙ ap not (cut_whole p.width p.len p.value)
    ∙ sym (stray_number p.width p.value p.len p.short)
