-- `field_need` meets its contract: what is shared is no longer than the prefix.
use mathlib.Core.Path.{ap₂}
use Prim.Native.Nat.{ℕ, ◌-◌}
use Rattle.index.proofs.NeedLaws.{longest_le}
use Rattle.index.proofs.SumLaws.{field_length}
use Rattle.index.proofs.sizing.field_need.Goals as goal

pub overflow_sub-result : goal.overflow_sub-result
overflow_sub-result c =
    let long = field_length _ c.args.table.accepted _ c.requires.1 _ c.requires.0 _ c.record.ensures _ c.prefix.ensures.len in
    rw (c.longest_common.ensures, long) (longest_le _ _)

pub returns : goal.returns
returns c =
    let long = field_length _ c.args.table.accepted _ c.requires.1 _ c.requires.0 _ c.record.ensures _ c.prefix.ensures.len in
    ap₂ (λ (l s : ℕ). l - s) long c.longest_common.ensures
