-- `walk` meets its contract. The loop's invariant: words, record and next record are those of the first j steps.
use mathlib.Core.Path.{◌≡◌}
use Rattle.area.specs.Grow.{walked}
use Rattle.area.specs.Growing.{standing}
use Rattle.area.proofs.grow.Growth.walk.Given as goal

abbrev pub invariant-loop-j : goal.invariant-loop-j
invariant-loop-j l = record {
  same_words : l.self.words.ghost_name ≡ l.initial.self.words.ghost_name;
  moved : standing l.self l.at ≡ walked l.prefix.width l.prefix.value l.j (standing l.initial.self l.root);
}
