-- `grow_rule` meets its contract. The loop's invariant: the first f fields are in.
use mathlib.Core.Path.{◌≡◌, refl, sym, ap, ◌∙◌}
use Prim.Native.Nat.{ℕ}
use native.Mathlib.Omega.{arith}
use Rattle.area.specs.Upto.{upto}
use Rattle.area.specs.Growing.{standing}
use Rattle.area.proofs.UptoLaws.{upto_none, upto_more}
use Rattle.index.specs.Steps.{field_in, rule_in}
use Rattle.index.proofs.StepLaws.{field_good, field_asks, field_done, growth_turn}
use Rattle.index.proofs.writing.grow_rule.Goals as goal

pub loop-f-init : goal.loop-f-init
loop-f-init c = record { same_words = refl; grown = sym (upto_none (field_in _ _) _) }

pub insert-requires-clause-room : goal.insert-requires-clause-room
unfolding rule_in
insert-requires-clause-room c =
    let bytes = c.args.rule.bytes.now in
    let i = c.args.i in
    let p = c.prefix.ensures in
    field_asks bytes i c.loop-f.f c.prefix.result p.value p.len p.width c.loop-f.growth
    (growth_turn (field_in bytes i) 5 (λ g h. field_good _ _ g c.requires.in_table h) c.args.growth.now c.requires.room c.loop-f.f c.loop-f-test.true c.loop-f.growth c.loop-f.invariant.grown)

pub loop-f-preserved : goal.loop-f-preserved
loop-f-preserved c =
    let bytes = c.args.rule.bytes.now in
    let i = c.args.i in
    let p = c.prefix.ensures in
    let was = c.loop-f.invariant in record {
      same_words = c.insert.ensures.same_words ∙ was.same_words;
      grown =
          field_done bytes i c.loop-f.f c.prefix.result p.value p.len p.width c.loop-f.growth c.insert.new.self c.insert.ensures.inserted
          ∙ ap (field_in bytes i c.loop-f.f) was.grown
          ∙ sym (upto_more (field_in bytes i) c.loop-f.f _);
    }

pub returns-clause-grown : goal.returns-clause-grown
unfolding rule_in
returns-clause-grown c =
    let past : c.loop-f.f ≡ 5 = omega arith in
    c.loop-f.invariant.grown ∙ ap (λ (n : ℕ). upto (field_in c.args.rule.bytes.now c.args.i) n (standing c.args.growth.now 0)) past
