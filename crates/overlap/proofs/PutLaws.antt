-- Records written one after another through parts of a lent output, each from its new place on.
-- Assumes nothing.
use mathlib.Core.Path.{◌≡◌, refl, sym, ap, ◌∙◌}
use mathlib.Core.List.{List, [], ◌∷◌, ◌++◌, map, map-append, flatten, append_assoc, append-nil}
use Prim.Native.Nat.{ℕ, zero, suc, ◌+◌, ◌-◌, ◌*◌, ◌≤◌, ◌<◌}
use native.Mathlib.Numerals.{add-one}
use native.Mathlib.Omega.{arith}
use lib.ListN.{length, take, drop, length-append, length-drop}
use lib.Seq.{sets-eq, take-suc, take_at, drop_at, drop-drop}
use borrow.Rule.Slice.PartMut.{put_mid, Post-is}
use Rattle.bits.specs.Writing.{Writes}
use Rattle.bits.proofs.WritingLaws.{writes_front}
use Rattle.bits.proofs.ListLaws.{flatten_append, part_from, after_part}
use Rattle.rules.specs.Table.{record_size, rule_count, record_at}
use Rattle.rules.proofs.TableLaws.{length_record}
use Rattle.overlap.specs.Order.{old_place, moved_table}
use Rattle.overlap.proofs.OrderLaws.{Order}

-- ---- the records of the first places of an order

moved_append : (table xs ys : List ℕ) → moved_table table (xs ++ ys) ≡ moved_table table xs ++ moved_table table ys
unfolding moved_table
moved_append table xs ys = ap flatten (map-append (record_at table) xs ys) ∙ flatten_append (map (record_at table) xs) (map (record_at table) ys)

moved_single : (table : List ℕ) (x : ℕ) → moved_table table (x ∷ []) ≡ record_at table x
unfolding moved_table flatten
moved_single table x = append-nil (record_at table x)

pub moved_none : (table : List ℕ) → moved_table table [] ≡ []
unfolding moved_table flatten
moved_none table = refl

pub moved_more : (table order : List ℕ) (place : ℕ) → place < length order
    → moved_table table (take (place + 1) order) ≡ moved_table table (take place order) ++ record_at table (old_place order place)
moved_more table order place h =
    ap (λ (n : ℕ). moved_table table (take n order)) (add-one place)
    ∙ ap (moved_table table) (take-suc order place 0 h)
    ∙ moved_append table (take place order) (old_place order place ∷ [])
    ∙ ap (λ (r : List ℕ). moved_table table (take place order) ++ r) (moved_single table (old_place order place))

module _ (table order : List ℕ) (O : Order (rule_count table) order) where
  -- the record that goes to a place is whole
  pub old_record : (place : ℕ) → place < length order → length (record_at table (old_place order place)) ≡ record_size
  old_record place h = length_record table (old_place order place) (omega (arith, O.below place (omega (arith, O.size))))

  pub moved_front : (place : ℕ) → place ≤ length order → length (moved_table table (take place order)) ≡ place * record_size
  moved_front zero h = ap length (moved_none table)
  moved_front (suc place) h =
      ap (λ (n : ℕ). length (moved_table table (take n order))) (sym (add-one place))
      ∙ ap length (moved_more table order place h)
      ∙ length-append (moved_table table (take place order)) (record_at table (old_place order place))
      ∙ omega (arith, moved_front place (omega arith), old_record place h)

-- ---- one record more

-- what stands after a record was put through the part that starts at a: A is what was written before, r the record, and d what stood there at first
pub put_one : (A r d o : List ℕ) (a : ℕ) → o ≡ A ++ drop a d → length A ≡ a
    → put_mid a (length o - a) o (r ++ drop record_size (take (length o - a) (drop a o))) ≡ (A ++ r) ++ drop (a + record_size) d
put_one A r d o a ho hA =
    rw (part_from a o, after_part a o, ho, take_at A (drop a d) a hA, drop_at A (drop a d) a hA, drop-drop record_size a d, append-nil)
    (sym (append_assoc A r (drop (a + record_size) d)))

-- ---- numbers written through a part

-- a part as long as what is copied into it
pub writes_copied : (list words : List ℕ) (at next : ℕ) → next ≡ at + length words → next ≤ length list → Writes list at words (put_mid at (next - at) list words) next
writes_copied list words at next ends room = record {
  written =
      ap (λ (l : List ℕ). take at list ++ (words ++ l)) (Post-is at next list (omega (arith, ends)) ∙ ap (λ (k : ℕ). drop k list) ends)
      ∙ sym (append_assoc (take at list) words (drop (at + length words) list))
      ∙ sym (sets-eq words list at (omega (arith, ends)));
  ends = ends;
}

-- the part from an entry on, in which they stand at the front
pub writes_within : (list words after : List ℕ) (at n : ℕ) → at + length words ≤ length list
    → Writes (take (length list - at) (drop at list)) 0 words after n → Writes list at words (put_mid at (length list - at) list after) (at + n)
writes_within list words after at n room w =
    let v : Writes (drop at list) 0 words after n = rw (part_from at list) at w in
    let front : after ≡ words ++ drop (at + length words) list =
    writes_front (rw length-drop (omega arith)) v ∙ ap (λ (l : List ℕ). words ++ l) (drop-drop (length words) at list)
    in
    record {
      written =
          (λ i. take at list ++ (front i ++ after_part at list i))
          ∙ ap (λ (l : List ℕ). take at list ++ l) (append-nil (words ++ drop (at + length words) list))
          ∙ sym (append_assoc (take at list) words (drop (at + length words) list))
          ∙ sym (sets-eq words list at room);
      ends = omega (arith, w.ends);
    }
