-- `check_table` meets its contract. The loop's invariant: the rules so far are not at fault.
use mathlib.Core.Path.{◌≡◌, sym, ap, ◌∙◌}
use mathlib.Core.List.{List, []}
use Prim.Native.Nat.{ℕ, ◌/◌, ◌<◌}
use native.Mathlib.Omega.{arith}
use lib.ListN.{length, get_or}
use borrow.Author.Tests.{eqb-true, lt-ltb}
use Rattle.std.specs.Simd.{first_chunks}
use Rattle.std.proofs.lemmas.Result.{err_from_is_err_and}
use Rattle.rules.specs.Refusal.{said, told}
use Rattle.rules.specs.Table.{record_size, record_at, rule_said, verdict}
use Rattle.rules.proofs.RecordLaws.{chunk_record}
use Rattle.rules.proofs.FaultLaws.{passed_here, stopped_here}
use Rattle.rules.proofs.TableLaws.{sound_accepted}
use Rattle.rules.proofs.check.check_table.Goals as goal

pub returns-then-not-is_empty : goal.returns-then-not-is_empty
unfolding told said verdict
returns-then-not-is_empty c = rw (← c.as_chunks.ensures.back_len, ← c.if-not-is_empty.ensures)

pub returns-then-records-gt-MOST_RULES : goal.returns-then-records-gt-MOST_RULES
unfolding told said verdict
returns-then-records-gt-MOST_RULES c =
    rw (← c.as_chunks.ensures.back_len, ← c.if-not-is_empty.ensures, lt-ltb 256 (length c.args.table.now / 24) (omega (arith, c.as_chunks.ensures.front_len)))

-- what is said of a chunk is said of the record
said_of : (table a : List ℕ) (records : List (List ℕ)) (k place : ℕ) → records ≡ first_chunks record_size k table → place < k
    → a ≡ rule_said place (get_or records place []) → a ≡ rule_said place (record_at table place)
said_of table a records k place chunks inside says =
    says ∙ ap (λ (l : List (List ℕ)). rule_said place (get_or l place [])) chunks ∙ ap (rule_said place) (chunk_record table k place inside)

pub returns-in_err-check_rule : goal.returns-in_err-check_rule
unfolding told
returns-in_err-check_rule c =
    let t = c.args.table.now in
    let place = c.loop-place.place in
    let p = err_from_is_err_and c.from_residual.result c.from_residual.ensures.1 in
    let chunks = c.as_chunks.ensures in
    let whole = sym chunks.back_len ∙ eqb-true _ _ (sym c.if-not-is_empty.ensures) in
    rw (p.1, p.2)
    (stopped_here t place whole (omega (arith, chunks.front_len)) (omega (arith, chunks.front_len)) c.loop-place.invariant _
    (said_of t _ _ _ place chunks.front (omega (arith, chunks.front_len)) c.in_err-check_rule.ensures))

pub loop-place-preserved : goal.loop-place-preserved
unfolding told
loop-place-preserved c =
    let t = c.args.table.now in
    let place = c.loop-place.place in
    let chunks = c.as_chunks.ensures in
    passed_here t place c.loop-place.invariant (said_of t _ _ _ place chunks.front (omega (arith, chunks.front_len)) c.in_ok-check_rule.ensures)

pub returns : goal.returns
unfolding told
returns c =
    let chunks = c.as_chunks.ensures in
    sym
    (sound_accepted c.args.table.now
    (record {
      whole = sym chunks.back_len ∙ eqb-true _ _ (sym c.if-not-is_empty.ensures);
      few = omega (arith, chunks.front_len);
      faultless = λ place h. c.loop-place.invariant place (omega (arith, chunks.front_len));
    }))
