-- `grow_rules` meets its contract. The loop's invariant: the first i rules are in.
use mathlib.Core.Path.{refl, sym, ap, ◌∙◌}
use native.Mathlib.Omega.{arith}
use Rattle.area.specs.Upto.{upto}
use Rattle.area.proofs.UptoLaws.{upto_more}
use Rattle.rules.specs.Table.{record_at, rule_count}
use Rattle.index.specs.Steps.{rule_in, rules_in}
use Rattle.index.proofs.StepLaws.{all_sound, rules_good, growth_turn}
use Rattle.index.proofs.writing.grow_rules.Goals as goal

pub loop-i-init : goal.loop-i-init
unfolding rules_in upto
loop-i-init c = record { same_words = refl; grown = refl }

pub grow_rule-requires-clause-room : goal.grow_rule-requires-clause-room
unfolding rules_in
grow_rule-requires-clause-room c =
    let t = c.args.table.bytes.now in
    rw c.record.ensures
    (growth_turn (λ i. rule_in (record_at t i) i) (rule_count t) (rules_good t (all_sound t c.args.table.accepted).1) c.args.growth.now c.requires.room c.loop-i.i (omega (arith, c.len-i-end.ensures)) c.loop-i.growth c.loop-i.invariant.grown)

pub loop-i-preserved : goal.loop-i-preserved
unfolding rules_in
loop-i-preserved c =
    let t = c.args.table.bytes.now in
    let i = c.loop-i.i in
    let was = c.loop-i.invariant in record {
      same_words = c.grow_rule.ensures.same_words ∙ was.same_words;
      grown =
          rw c.record.ensures at c.grow_rule.ensures.grown
          ∙ ap (rule_in (record_at t i) i) was.grown
          ∙ sym (upto_more (λ j. rule_in (record_at t j) j) i _);
    }
