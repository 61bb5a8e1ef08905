-- Moves in bytes: the moved table is as long as the table, its records are the table's in their new order, and so are its rules. It is
-- accepted where the table is; and moves in place, back and in a row do to bytes what they do to rules.
-- Assumes nothing.
use mathlib.Core.Path.{◌≡◌, sym, ap, ◌∙◌}
use mathlib.Core.Bool.{true}
use mathlib.Core.List.{List, [], ◌∷◌, map, flatten, append-nil}
use Prim.Native.Nat.{ℕ, ◌*◌, ◌<◌}
use native.Mathlib.Omega.{arith}
use lib.ListN.{length, take, length-map}
use lib.Seq.{ext_get_or, take-length}
use Rattle.bits.specs.Number.{Bytes}
use Rattle.bits.proofs.EachLaws.{get_d_map, map_along}
use Rattle.bits.proofs.NumberLaws.{bytes_append}
use Rattle.bits.proofs.RowLaws.{Rows, length_rows, row_at, rows_of}
use Rattle.rules.specs.Rule.{rule_of}
use Rattle.rules.specs.Match.{no_rule}
use Rattle.rules.specs.Table.{record_size, rule_count, record_at, rules_of, fault, Accepted}
use Rattle.rules.proofs.TableLaws.{length_record, accepted_sound, sound_accepted}
use Rattle.overlap.specs.Order.{is_order, old_place, moved, moved_table, in_place, way_back, and_then}
use Rattle.rules.proofs.MatchLaws.{rules_size, rules_at, record_bytes}
use Rattle.overlap.proofs.OrderLaws.{Order, order}
use Rattle.overlap.proofs.MadeOrders.{way_order, then_back}
use Rattle.overlap.proofs.MoveLaws.{moved_size, moved_at}

-- ---- the moved table

pub moved_bytes : (table o : List ℕ) → Bytes table → Bytes (moved_table table o)
unfolding moved_table flatten
moved_bytes table [] b = λ k. omega arith
moved_bytes table (place ∷ o) b = bytes_append (record_at table place) (moved_table table o) (record_bytes table b place) (moved_bytes table o b)

module _ (table o : List ℕ) (e : is_order (rule_count table) o ≡ true) where
  O : Order (rule_count table) o
  O = order (rule_count table) o e

  whole : Rows record_size (map (record_at table) o)
  whole k h =
      let l : k < rule_count table = omega (arith, length-map o (record_at table), O.size) in
      ap length (get_d_map (record_at table) o k [] 0 (rw O.size l))
      ∙ length_record table (old_place o k) (omega (arith, O.below k l))

  size : length (moved_table table o) ≡ rule_count table * record_size
  unfolding moved_table
  size = length_rows record_size (map (record_at table) o) whole ∙ ap (λ (n : ℕ). n * record_size) (length-map o (record_at table) ∙ O.size)

  pub moved_count : rule_count (moved_table table o) ≡ rule_count table
  moved_count = omega (arith, size)

  pub moved_length : length table ≡ rule_count table * record_size → length (moved_table table o) ≡ length table
  moved_length w = size ∙ sym w

  pub moved_record : (k : ℕ) → k < rule_count table → record_at (moved_table table o) k ≡ record_at table (old_place o k)
  unfolding moved_table record_at
  moved_record k h =
      let l : k < length o = rw O.size h in
      ap (λ (l : List ℕ). record_at l k) (sym (append-nil (flatten (map (record_at table) o))))
      ∙ row_at record_size (map (record_at table) o) whole k (rw (length-map o (record_at table)) l) []
      ∙ get_d_map (record_at table) o k [] 0 l

  pub moved_rules : rules_of (moved_table table o) ≡ moved (rules_of table) o
  moved_rules =
      let n = rules_size (moved_table table o) ∙ moved_count in
      ext_get_or no_rule (rules_of (moved_table table o)) (moved (rules_of table) o) (n ∙ sym (moved_size (rules_of table) o ∙ O.size))
      (λ k h.
      let l : k < rule_count table = omega arith in
      rules_at (moved_table table o) k (rw moved_count l)
      ∙ ap rule_of (moved_record k l)
      ∙ sym (moved_at (rules_of table) o k (rw O.size l) ∙ rules_at table (old_place o k) (O.below k l)))

  pub moved_accepted : Accepted table → Accepted (moved_table table o)
  moved_accepted a =
      let s = accepted_sound table a in
      sound_accepted (moved_table table o) (record {
        whole = omega (arith, size);
        few = rw moved_count s.few;
        faultless = λ k h.
            let l : k < rule_count table = rw moved_count at h in
            ap fault (moved_record k l) ∙ s.faultless (old_place o k) (O.below k l);
      })

-- ---- in place, back, and in a row

pub accepted_whole : (table : List ℕ) → Accepted table → length table ≡ rule_count table * record_size
accepted_whole table a = omega (arith, (accepted_sound table a).whole)

pub bytes_in_place : (table : List ℕ) → length table ≡ rule_count table * record_size → moved_table table (in_place (rule_count table)) ≡ table
unfolding moved_table in_place record_at
bytes_in_place table w = rows_of record_size table 0 (rule_count table) ∙ ap (λ (n : ℕ). take n table) (sym w) ∙ take-length table

pub bytes_compose : (table o p : List ℕ) → is_order (rule_count table) o ≡ true → is_order (rule_count (moved_table table o)) p ≡ true
    → moved_table (moved_table table o) p ≡ moved_table table (and_then o p)
unfolding moved_table and_then
bytes_compose table o p e f =
    let P = order (rule_count table) p (rw (moved_count table o e) at f) in
    ap flatten (map_along (record_at table) (record_at (moved_table table o)) (old_place o) (rule_count table) p (moved_record table o e)
    (λ k h. P.below k (omega (arith, P.size))))

pub bytes_undo : (table o : List ℕ) → length table ≡ rule_count table * record_size → is_order (rule_count table) o ≡ true
    → moved_table (moved_table table o) (way_back (rule_count table) o) ≡ table
bytes_undo table o w e =
    let n = rule_count table in
    let O = order n o e in
    bytes_compose table o (way_back n o) e (rw (moved_count table o e) (way_order n o O))
    ∙ ap (moved_table table) (then_back n o O)
    ∙ bytes_in_place table w
