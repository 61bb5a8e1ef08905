-- `or_into` meets its contract. The loop's invariant: the first w words are joined.
use mathlib.Core.Path.{◌≡◌}
use Rattle.area.specs.Upto.{upto}
use Rattle.area.specs.Hand.{or_word}
use Rattle.area.proofs.hand.or_into.Given as goal

abbrev pub invariant-loop-w : goal.invariant-loop-w
invariant-loop-w l = l.area ≡ upto (or_word l.k l.c) l.w l.initial.area
