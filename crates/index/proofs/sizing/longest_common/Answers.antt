-- `longest_common` meets its contract: the largest of what the prefix shares with each earlier rule's.
use mathlib.Core.Path.{◌∙◌}
use native.Mathlib.Omega.{arith}
use Prim.Native.Nat.{max}
use Rattle.std.specs.List.{range_with_len}
use Rattle.std.proofs.Common.{rules}
use Rattle.std.proofs.lemmas.Iterator.{YieldsList-from_range, YieldsList-from_map}
use Rattle.std.proofs.lemmas.Iterator.Consumers.{fold_from_yields_List}
use Rattle.std.proofs.lemmas.List.Folds.{fold-map}
use Rattle.rules.specs.Table.{record_at}
use Rattle.index.specs.Steps.{path_of}
use Rattle.index.proofs.SumLaws.{shared, longest_folds}
use Rattle.index.proofs.sizing.longest_common.Goals as goal

pub returns : goal.returns
unfolding path_of
returns c =
    let t = c.args.table.bytes.now in
    let i = c.args.i in
    let p = path_of (record_at t i) c.args.f in
    let shares = shared t c.args.f p in
    fold_from_yields_List _ max 0 c.fold.result c.fold.ensures.ran (YieldsList-from_map _ shares (YieldsList-from_range 0 i i c.map.ensures.source (omega arith)) c.map.ensures.closure (λ x b q k. search rules)) (λ a x b q k. search rules)
    ∙ fold-map max shares 0 (range_with_len 0 i)
    ∙ longest_folds t c.args.f p c.requires.0 i (omega arith)
