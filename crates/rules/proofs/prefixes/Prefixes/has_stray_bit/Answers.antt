-- `has_stray_bit` meets its contract: the test of each field in turn.
use mathlib.Core.Path.{refl}
use mathlib.Core.Bool.{Bool}
use mathlib.Core.List.{List}
use Prim.Native.Nat.{ℕ}
use Rattle.std.proofs.Common.{rules, tests}
use Rattle.std.proofs.lemmas.Iterator.{YieldsList-from_range}
use Rattle.std.proofs.lemmas.Iterator.Search.{any_from_yields_List}
use Rattle.bits.specs.Path.{stray}
use Rattle.bits.specs.Tests.{any}
use Rattle.rules.specs.Field.{field_at, value_in, length_in}
use Rattle.rules.specs.Table.{stray_bit}
use Rattle.rules.proofs.prefixes.Prefixes.has_stray_bit.Goals as goal

strays : List ℕ → ℕ → Bool
strays bytes f = stray (field_at f).width (value_in bytes (field_at f)) (length_in bytes (field_at f))

pub returns : goal.returns
unfolding any stray_bit strays
returns c =
    any_from_yields_List (strays c.args.self.bytes.now) _ _ c.any.result c.any.ensures.ran (YieldsList-from_range 0 5 5 refl refl) (λ x b q k. search (rules, tests))
