-- `walk` meets its contract: it goes down by all bits of the value that is read, and one that starts in the area ends there.
use mathlib.Core.Path.{◌≡◌, sym, ap₂, ◌∙◌}
use mathlib.Core.List.{List}
use Prim.Native.Nat.{ℕ, ◌/◌, ◌<◌}
use native.Mathlib.Omega.{arith}
use lib.ListN.{length}
use Rattle.std.specs.Prelude.{Option, None, Some, IfSome}
use Rattle.bits.specs.Path.{Path, bits}
use Rattle.area.specs.Shape.{desk_shape, record_words}
use Rattle.lookup.specs.Walk.{walk_from, walk}
use Rattle.lookup.proofs.WalkTurns.{walk_inside}
use Rattle.lookup.proofs.walk.walk.Goals as goal

ends_inside : (area : List ℕ) (p : Path) (n : ℕ) (end : Option ℕ) → n < length area / record_words → end ≡ walk_from desk_shape area n p
    → IfSome end (λ m. m < length area / record_words)
ends_inside area p n None h e = tt
ends_inside area p n (Some m) h e = walk_inside area p n m h (sym e)

pub returns : goal.returns
unfolding walk
returns c =
    record {
      end = c.go_down.ensures
          ∙ ap₂ (λ (w v : ℕ). walk_from desk_shape c.args.area.now c.args.f (bits w v)) c.width_of.ensures.0 c.value_of.ensures.0;
      inside = ends_inside c.args.area.now _ c.args.f _ (omega arith) c.go_down.ensures;
    }
