-- How much memory always suffices, as `include/ruledesk.h` and the Rust wrapper say: from the number of rules alone.
-- Assumes nothing.
use mathlib.Core.Path.{◌≡◌, ap}
use mathlib.Core.List.{List}
use Prim.Native.Nat.{ℕ, zero, suc, ◌+◌, ◌-◌, ◌*◌, ◌≤◌, ◌<◌}
use native.Mathlib.Nat.{mul-suc, suc-mul}
use native.Mathlib.Numerals.{add-one}
use native.Mathlib.Omega.{arith}
use lib.ListN.{length, take, length-append}
use Rattle.bits.specs.Path.{Path}
use Rattle.bits.specs.Tests.{up_from}
use Rattle.rules.specs.Field.{field_at}
use Rattle.rules.specs.Table.{rule_count, rules_of, record_at, SoundRule, Accepted}
use Rattle.rules.proofs.RuleLaws.{length_fits}
use Rattle.index.specs.Key.{Key}
use Rattle.index.specs.Keys.{inserts}
use Rattle.index.specs.Need.{fresh, records, need}
use Rattle.index.specs.Steps.{path_of}
use Rattle.index.proofs.NeedLaws.{one_each, rule_inserts_lem, records_more, records_none, records_all, length_path}
use Rattle.overlap.specs.Steps.{listed_with, listed_from}
use Rattle.overlap.proofs.LoopLaws.{row_few, rows_parts, rows_done, rows_all}
use Rattle.desk.specs.BuildCall.{words_needed}
use Rattle.desk.specs.PairsCall.{pair_count}
use Rattle.rules.proofs.TableLaws.{accepted_record}

-- ---- words: a rule adds at most as many records as its prefixes have bits, 32, 32, 16, 16 and 8

fresh_five : (earlier : List Key) (q : ℕ → Path) → fresh earlier (one_each q 0 5) ≤ length (q 0) + length (q 1) + length (q 2) + length (q 3) + length (q 4)
unfolding fresh up_from
fresh_five earlier q = omega arith

module _ (bytes : List ℕ) (sound : SoundRule bytes) where
  path_fits : (f : ℕ) → f < 5 → length (path_of bytes f) ≤ (field_at f).width
  path_fits f h = omega (arith, length_path bytes sound f h, length_fits bytes sound.faultless f h)

  rule_adds : (earlier : List Key) → fresh earlier (one_each (path_of bytes) 0 5) ≤ 104
  rule_adds earlier =
      omega (arith, fresh_five earlier (path_of bytes), path_fits 0 (omega arith), path_fits 1 (omega arith), path_fits 2 (omega arith), path_fits 3 (omega arith), path_fits 4 (omega arith))

module _ (table : List ℕ) (ok : Accepted table) where
  records_first : (i : ℕ) → i ≤ rule_count table → records 5 (take i (rules_of table)) ≤ 5 + 104 * i
  records_first zero h = omega (arith, records_none table)
  records_first (suc i) h =
      let earlier = inserts 5 (take i (rules_of table)) in
      let added = rule_adds (record_at table i) (accepted_record table ok i h) earlier in
      rw (← add-one i) (omega (arith, records_first i (omega arith), records_more table i h, ap (fresh earlier) (rule_inserts_lem table i h), added))

  pub enough_words : words_needed table ≤ 11 * (5 + 104 * rule_count table)
  unfolding need
  enough_words = omega (arith, records_first (rule_count table) (omega arith), records_all table)

-- ---- entries: each rule with each other, once

square : (m : ℕ) → suc m * suc m ≡ m * m + 2 * m + 1
square m = omega (arith, suc-mul m (suc m), mul-suc m m)

-- of the last m places
listed_few : (table : List ℕ) (m i : ℕ) → i + m ≡ rule_count table → 2 * length (listed_from table i) + m ≤ m * m
listed_few table zero i e = omega (arith, ap length (rows_done table i (omega arith)))
listed_few table (suc m) i e =
    let n = rule_count table in
    omega (
      arith,
      ap length (rows_parts table i (omega arith)),
      length-append (listed_with table i) (listed_from table (i + 1)),
      row_few table i (i + 1) (n - (i + 1)),
      listed_few table m (i + 1) (omega arith),
      square m,
    )

less_itself : (n k : ℕ) → k + n ≤ n * n → k ≤ n * (n - 1)
less_itself zero k h = omega arith
less_itself (suc m) k h =
    let e : suc m - 1 ≡ m = omega arith in
    rw e (omega (arith, mul-suc (suc m) m))

pub enough_entries : (table : List ℕ) → 2 * pair_count table ≤ rule_count table * (rule_count table - 1)
enough_entries table =
    let n = rule_count table in
    less_itself n (2 * pair_count table) (omega (arith, listed_few table n 0 (omega arith), ap length (rows_all table)))
