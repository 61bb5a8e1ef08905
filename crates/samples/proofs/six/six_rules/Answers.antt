-- `six_rules` meets its contract: each record is added to those that stand at the table's start.
use mathlib.Core.Path.{◌≡◌, ap, ◌∙◌}
use mathlib.Core.List.{[], ◌∷◌}
use native.Mathlib.Omega.{arith}
use lib.ListN.{get_or}
use Rattle.std.specs.Simd.{first_chunks}
use Rattle.rules.specs.Table.{record_size}
use Rattle.rules.proofs.RecordLaws.{chunk_record}
use Rattle.desk.specs.Worked.{six_rules}
use Rattle.samples.specs.Sample.{written}
use Rattle.samples.proofs.SampleLaws.{written_next}
use Rattle.samples.proofs.six.six_rules.Goals as goal

pub loop-place-preserved : goal.loop-place-preserved
loop-place-preserved c =
    let k = c.loop-place.place in
    let rules = c.delivering_rule.result ∷ c.delivering_rule-2.result ∷ c.delivering_rule-3.result ∷ c.delivering_rule-4.result ∷ c.delivering_rule-5.result ∷ c.delivering_rule-6.result ∷ [] in
    let e : rules ≡ first_chunks record_size 6 six_rules =
    rw (c.delivering_rule.ensures, c.delivering_rule-2.ensures, c.delivering_rule-3.ensures, c.delivering_rule-4.ensures, c.delivering_rule-5.ensures, c.delivering_rule-6.ensures) in
    λ room.
    written_next six_rules c.args.table.now k (omega arith) (omega arith) _ _ (c.loop-place.invariant room)
    (c.write_record.ensures ∙ ap (λ rules. written c.loop-place.table k (get_or rules k [])) e ∙ ap (written c.loop-place.table k) (chunk_record six_rules 6 k c.loop-place-test.true))

pub returns : goal.returns
returns c = record { starts = λ room. let e : c.loop-place.place ≡ 6 = omega arith in rw e at c.loop-place.invariant room }
