-- `leads` meets its contract: both are cut after the prefix, and what is left is the same.
use mathlib.Core.Path.{ap₂, sym, ◌∙◌}
use lib.Dec.{eqb}
use Rattle.bits.proofs.MaskLaws.{cut_same}
use Rattle.bits.proofs.PathLaws.{leads_number}
use Rattle.bits.proofs.prefixes.Prefix.leads.Goals as goal

pub returns : goal.returns
returns c =
    let p = c.args.self in
    let q = c.args.other in
    rw c.requires (
    ap₂ eqb c.cut.ensures c.cut-2.ensures
    ∙ cut_same p.width p.len p.value q.value
    ∙ sym (leads_number p.width p.len p.value q.value p.short p.fits (rw (← c.requires) q.fits))
    )
