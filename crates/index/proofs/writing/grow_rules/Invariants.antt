-- `grow_rules` meets its contract. The loop's invariant: the first i rules are in.
use mathlib.Core.Path.{◌≡◌}
use Rattle.area.specs.Growing.{standing}
use Rattle.index.specs.Steps.{rules_in}
use Rattle.index.proofs.writing.grow_rules.Given as goal

abbrev pub invariant-loop-i : goal.invariant-loop-i
invariant-loop-i l = record {
  same_words : l.growth.words.ghost_name ≡ l.initial.growth.words.ghost_name;
  grown : standing l.growth 0 ≡ rules_in l.table.bytes.now l.i (standing l.initial.growth 0);
}
