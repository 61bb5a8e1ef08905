-- `record_at` meets its contract: the part is 24 bytes long.
use mathlib.Core.Path.{◌≡◌, ap, ◌∙◌}
use Prim.Native.Nat.{ℕ, ◌+◌, ◌-◌, ◌*◌}
use lib.ListN.{take, drop}
use native.Mathlib.Omega.{arith}
use Rattle.std.proofs.lemmas.Option.{MatchOption-at_some}
use Rattle.rules.specs.Table.{record_at}
use Rattle.rules.proofs.records.record_at.Goals as goal

pub returns : goal.returns
unfolding record_at
returns c =
    let a = c.args in
    let e : (a.place * 24 + 24) - a.place * 24 ≡ 24 = omega arith in
    (MatchOption-at_some _ _ _ c.unwrap.ensures c.as_array.ensures.cases).same ∙ ap (λ (n : ℕ). take n (drop (a.place * 24) a.table.now)) e
