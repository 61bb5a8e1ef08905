-- `has_long_prefix` meets its contract: the test of each field in turn.
use mathlib.Core.Path.{refl}
use mathlib.Core.Bool.{Bool}
use mathlib.Core.List.{List}
use Prim.Native.Nat.{ℕ}
use lib.Dec.{ltb}
use Rattle.std.proofs.Common.{rules, tests}
use Rattle.std.proofs.lemmas.Iterator.{YieldsList-from_range}
use Rattle.std.proofs.lemmas.Iterator.Search.{any_from_yields_List}
use Rattle.bits.specs.Tests.{any}
use Rattle.rules.specs.Field.{field_at, length_in}
use Rattle.rules.specs.Table.{long_prefix}
use Rattle.rules.proofs.prefixes.has_long_prefix.Goals as goal

long : List ℕ → ℕ → Bool
long bytes f = ltb (field_at f).width (length_in bytes (field_at f))

pub returns : goal.returns
unfolding any long_prefix long
returns c =
    any_from_yields_List (long c.args.bytes.now) _ _ c.any.result c.any.ensures.ran (YieldsList-from_range 0 5 5 refl refl) (λ x b q k. search (rules, tests))
