-- `value_of` meets its contract: each value stands in whole bytes.
use mathlib.Core.Path.{subst}
use Prim.Native.Nat.{ℕ, ◌^◌, ◌<◌}
use Rattle.std.proofs.Common.{rules}
use Rattle.rules.specs.Field.{value_in}
use Rattle.rules.proofs.FieldLaws.{field_sound}
use Rattle.rules.proofs.fields.value_of.Goals as goal

pub returns : goal.returns
unfolding value_in
returns c =
    let whole = (field_sound c.args.f (search rules)).whole in
    (c.number_at.ensures.0, subst (λ (n : ℕ). c.number_at.result < 2 ^ n) whole c.number_at.ensures.1)
