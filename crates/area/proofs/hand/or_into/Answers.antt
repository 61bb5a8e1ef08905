-- `or_into` meets its contract. The loop's invariant: the first w words are joined.
use mathlib.Core.Path.{◌≡◌, sym, ap, ◌∙◌}
use mathlib.Core.List.{List}
use Prim.Native.Nat.{ℕ, ◌+◌, ◌*◌}
use native.Mathlib.Nat.{le_refl}
use native.Mathlib.Omega.{arith}
use lib.ListN.{get_or}
use Rattle.std.proofs.lemmas.List.Edits.{get_or-between}
use Rattle.area.specs.Shape.{blocks, record_words, vector_start}
use Rattle.area.specs.Hand.{vector_word, or_word, joined}
use Rattle.area.proofs.UptoLaws.{upto_none, upto_more}
use Rattle.area.proofs.HandLaws.{or_later}
use Rattle.area.proofs.hand.or_into.Goals as goal

pub loop-w-init : goal.loop-w-init
loop-w-init c = sym (upto_none (or_word c.args.k c.args.c) _)

pub loop-w-preserved : goal.loop-w-preserved
loop-w-preserved c =
    let a = c.args in
    let l = c.loop-w in
    let from = record_words * a.k + vector_start in
    let word : get_or c.vector.result.now l.w 0 ≡ vector_word l.area a.k l.w =
    ap (λ (v : List ℕ). get_or v l.w 0) c.vector.ensures
    ∙ get_or-between a.area.now from (from + blocks) l.w 0 (omega arith)
    ∙ rw l.invariant (sym (or_later a.k a.c l.w a.k l.w a.area.now (le_refl _) c.loop-w-test.true))
    in
    rw (word, l.invariant) (sym (upto_more (or_word a.k a.c) l.w a.area.now))

pub returns : goal.returns
unfolding joined
returns c =
    let past : c.loop-w.w ≡ blocks = omega arith in
    rw past at c.loop-w.invariant
