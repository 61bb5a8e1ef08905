-- The part of the table that stands at a place: it is empty exactly where no whole record stands there.
-- Assumes nothing.
use mathlib.Core.Path.{◌≡◌, ap, ◌∙◌}
use mathlib.Core.Logic.{⊎_elim}
use mathlib.Core.List.{List, []}
use Prim.Native.Nat.{ℕ, ◌*◌, ◌≤◌, ◌<◌}
use native.Mathlib.Omega.{arith}
use lib.ListN.{length}
use borrow.Author.Tests.{lt-ltb, le-ltb}
use Rattle.bits.proofs.TestLaws.{less}
use Rattle.rules.specs.Table.{record_size, rule_count, record_at}
use Rattle.rules.proofs.TableLaws.{length_record}
use Rattle.desk.specs.Show.{shown_part}
use Rattle.face.specs.Points.{Points}

module _ (table : List ℕ) (place : ℕ) where
  inside : place < rule_count table → shown_part table place ≡ record_at table place
  unfolding shown_part
  inside h = rw (lt-ltb place (rule_count table) h)

  outside : rule_count table ≤ place → shown_part table place ≡ []
  unfolding shown_part
  outside h = rw (le-ltb place (rule_count table) h)

  full : place < rule_count table → length (shown_part table place) ≡ record_size
  full h = ap length (inside h) ∙ length_record table place (omega arith)

  module _ (part : List ℕ) (shows : part ≡ shown_part table place) where
    none_there : length part ≡ 0 → rule_count table ≤ place
    none_there e = ⊎_elim (λ (h : place < rule_count table). omega (arith, e, full h, ap length shows)) (λ h. h) (less place (rule_count table))

    pub one_there : (length part ≡ 0 → ⊥) → place < rule_count table
    one_there some = ⊎_elim (λ h. h) (λ (h : rule_count table ≤ place). absurd (some (ap length (shows ∙ outside h)))) (less place (rule_count table))

    pub points_none : length part ≡ 0 → Points table place (record { start = 0; length = length part })
    points_none e =
        let h = none_there e in
        record {
          part = rw (e, outside h);
          long = ap length shows;
          from = rw (le-ltb place (rule_count table) h);
        }

    pub points_some : (length part ≡ 0 → ⊥) → Points table place (record { start = place * record_size; length = length part })
    unfolding record_at
    points_some some =
        let h = one_there some in
        record {
          part = rw (shows, full h, inside h);
          long = ap length shows;
          from = rw (lt-ltb place (rule_count table) h);
        }
