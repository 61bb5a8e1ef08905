-- `grow_rule` meets its contract. The loop's invariant: the first f fields are in.
use mathlib.Core.Path.{◌≡◌}
use Rattle.area.specs.Upto.{upto}
use Rattle.area.specs.Growing.{standing}
use Rattle.index.specs.Steps.{field_in}
use Rattle.index.proofs.writing.grow_rule.Given as goal

abbrev pub invariant-loop-f : goal.invariant-loop-f
invariant-loop-f l = record {
  same_words : l.growth.words.ghost_name ≡ l.initial.growth.words.ghost_name;
  grown : standing l.growth 0 ≡ upto (field_in l.rule.bytes.now l.i) l.f (standing l.initial.growth 0);
}
