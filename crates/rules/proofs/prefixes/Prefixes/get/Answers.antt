-- `get` meets its contract: no prefix is longer than its field.
use Prim.Native.Nat.{◌≤◌}
use lib.Dec.{ltb}
use borrow.Author.Tests.{ltb-false}
use Rattle.rules.specs.Field.{field_at, length_in}
use Rattle.rules.specs.Table.{long_prefix}
use Rattle.rules.proofs.FieldLaws.{field_none}
use Rattle.rules.proofs.prefixes.Prefixes.get.Goals as goal

pub invariant_of-result : goal.invariant_of-result
unfolding long_prefix
invariant_of-result c =
    let a = c.args in
    let b = a.self.bytes.now in
    let short : length_in b (field_at a.f) ≤ (field_at a.f).width =
    ltb-false _ _ (field_none (λ g. ltb g.width (length_in b g)) a.f c.requires a.self.fitting)
    in
    record {
      short = rw (c.length_of.ensures, c.width_of.ensures.0) short;
      narrow = c.width_of.ensures.1;
      fits = rw c.width_of.ensures.0 c.value_of.ensures.1;
    }
