-- Records written one after another from the start of a table.
-- Assumes nothing.
use mathlib.Core.Path.{◌≡◌, sym, ap, ◌∙◌}
use mathlib.Core.List.{List, ◌++◌}
use Prim.Native.Nat.{ℕ, ◌+◌, ◌*◌, ◌≤◌, ◌<◌}
use native.Mathlib.Omega.{arith}
use lib.ListN.{length, take, drop, length-append, length-drop, length-take}
use lib.Seq.{paste, take-add, take_at, drop-append-add, drop-drop, take_all}
use borrow.Author.Tests.{lt-ltb, le-ltb}
use Rattle.rules.specs.Table.{record_size, record_at, rule_count}
use Rattle.rules.proofs.TableLaws.{length_record}
use Rattle.samples.specs.Sample.{written}

pub written_there : (table rule : List ℕ) (place : ℕ) → place < rule_count table → written table place rule ≡ paste table (place * record_size) rule record_size
unfolding written
written_there table rule place h = rw (lt-ltb place (rule_count table) h)

pub written_nowhere : (table rule : List ℕ) (place : ℕ) → rule_count table ≤ place → written table place rule ≡ table
unfolding written
written_nowhere table rule place h = rw (le-ltb place (rule_count table) h)

-- the first records of `rules` stand over those of the table, and the next one is written
module _ (rules table : List ℕ) (place : ℕ) (given : (place + 1) * record_size ≤ length rules) (room : (place + 1) * record_size ≤ length table) where
  abbrev front : List ℕ
  front = take (place * record_size) rules

  whole : length front ≡ place * record_size
  whole = simp length-take (omega arith)

  more : front ++ record_at rules place ≡ take ((place + 1) * record_size) rules
  unfolding record_at
  more = sym (take-add (place * record_size) record_size rules) ∙ ap (λ (n : ℕ). take n rules) (omega arith)

  beyond : drop (place * record_size + record_size) (front ++ drop (place * record_size) table) ≡ drop ((place + 1) * record_size) table
  beyond =
      let next : place * record_size + record_size ≡ (place + 1) * record_size = omega arith in
      ap (λ (n : ℕ). drop (n + record_size) (front ++ drop (place * record_size) table)) (sym whole)
      ∙ drop-append-add front (drop (place * record_size) table) record_size
      ∙ drop-drop record_size (place * record_size) table
      ∙ ap (λ (n : ℕ). drop n table) next

  pub written_next : (before after : List ℕ) → before ≡ take (place * record_size) rules ++ drop (place * record_size) table → after ≡ written before place (record_at rules place)
      → after ≡ take ((place + 1) * record_size) rules ++ drop ((place + 1) * record_size) table
  written_next before after e w =
      let rest = drop (place * record_size) table in
      let rule = record_at rules place in
      let full : length (front ++ rest) ≡ length table = simp (length-append, length-drop, whole) (omega arith) in
      let stands : after ≡ (front ++ rule) ++ drop ((place + 1) * record_size) table =
      w
      ∙ ap (λ (t : List ℕ). written t place rule) e
      ∙ written_there (front ++ rest) rule place (omega arith)
      ∙ rw (take_at front rest (place * record_size) whole, take_all record_size rule (omega (arith, length_record rules place given)), beyond) in
      rw more at stands
