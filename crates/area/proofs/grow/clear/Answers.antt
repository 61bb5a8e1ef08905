-- `clear` meets its contract: the part is zeros, and what stands before and after it stays.
use mathlib.Core.Path.{◌≡◌, ap, ◌∙◌}
use Prim.Native.Nat.{ℕ, ◌+◌, ◌-◌}
use native.Mathlib.Omega.{arith}
use lib.ListN.{replicate}
use lib.Seq.{drop-drop}
use Rattle.std.proofs.lemmas.List.Edits.{length-between}
use Rattle.area.specs.Grow.{zeroed}
use Rattle.area.proofs.grow.clear.Goals as goal

pub returns : goal.returns
unfolding zeroed
returns c =
    let a = c.args in
    let to_end : a.start + (a.end - a.start) ≡ a.end = omega arith in
    let zeros : c.fill.new.self ≡ replicate (a.end - a.start) 0 =
    c.fill.ensures.after (λ y e. e) ∙ ap (λ (n : ℕ). replicate n 0) (length-between a.area.now a.start a.end (omega arith))
    in
    rw (zeros, drop-drop, to_end)
