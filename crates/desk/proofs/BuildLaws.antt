-- The ways to satisfy the statement of `build`: a refused table, a short area, and the index written.
-- Assumes nothing.
use Rattle.std.specs.Prelude.{Ok, Err}
use mathlib.Core.Path.{◌≡◌, refl, sym, ap, ap₂, ◌∙◌}
use mathlib.Core.List.{List, [], ◌∷◌, ◌++◌}
use Prim.Native.Nat.{ℕ, ◌≤◌, ◌<◌}
use lib.ListN.{length, take, drop}
use lib.Seq.{take_at, drop_at}
use Rattle.rules.specs.declared.Refusal.{Refusal}
use Rattle.rules.specs.declared.Refusal.TheVariants.{ShortArea}
use Rattle.rules.specs.Refusal.{told, said}
use Rattle.rules.specs.Table.{rules_of, verdict, Accepted}
use Rattle.area.specs.Shape.{desk_shape}
use Rattle.index.specs.Image.{image}
use Rattle.index.proofs.ImageLaws.{desk_sized, length_image}
use Rattle.desk.specs.Lent.{room_said}
use Rattle.desk.specs.BuildCall.{words_needed, build_said, area_left, Builds}
use Rattle.desk.proofs.LentLaws.{room_value, room_refused, room_short, room_done, done_accepted, done_written}

module _ (table area : List ℕ) where
  abbrev written : List ℕ
  written = image desk_shape (rules_of table) ++ drop (words_needed table) area

  plain : said ShortArea ≡ 7 ∷ []
  unfolding said
  plain = refl

  pub refused_builds : (r : Refusal) → said r ≡ verdict table → Builds table area (Err r) area
  unfolding told build_said area_left
  refused_builds r e =
      let w = room_refused table area written ShortArea 7 (words_needed table) (words_needed table) plain r e in
      record { answer = w.0; lent = w.1 }

  pub short_builds : Accepted table → length area < words_needed table → Builds table area (Err ShortArea) area
  unfolding told build_said area_left
  short_builds ok h =
      let w = room_short table area written ShortArea 7 (words_needed table) (words_needed table) plain ok h in
      record { answer = w.0; lent = w.1 }

  pub done_builds : Accepted table → words_needed table ≤ length area → Builds table area (Ok (words_needed table)) written
  unfolding told build_said area_left
  done_builds ok h =
      let w = room_done table area written ShortArea 7 (words_needed table) (words_needed table) plain ok h in
      record { answer = w.0; lent = w.1 }

-- the other way round: a build that is done says how many words the index takes
pub built_words : {table area after : List ℕ} {words : ℕ} → Builds table area (Ok words) after → words ≡ words_needed table
unfolding told build_said
built_words {table = table} {area = area} {words = words} b = room_value table area 6 (words_needed table) (words_needed table) words (sym b.answer)

-- after it the table is accepted, and the words needed are the image
pub built_image : {table area after : List ℕ} {words : ℕ} → Builds table area (Ok words) after
    → Accepted table × (take (words_needed table) after ≡ image desk_shape (rules_of table))
unfolding told build_said area_left
built_image {table = table} {area = area} {after = after} {words = words} b =
    let says : build_said table area ≡ 0 ∷ words ∷ [] = sym b.answer in
    let left : after ≡ written table area = b.lent ∙ done_written (build_said table area) (written table area) area (words ∷ []) says in (
      done_accepted table (room_said 7 (words_needed table) area (words_needed table)) (words ∷ []) says,
      ap (take (words_needed table)) left
          ∙ take_at (image desk_shape (rules_of table)) (drop (words_needed table) area) (words_needed table) (length_image desk_shape desk_sized (rules_of table)),
    )

-- and the words after them stay
pub built_beyond : {table area after : List ℕ} {words : ℕ} → Builds table area (Ok words) after → drop words after ≡ drop words area
unfolding told build_said area_left
built_beyond {table = table} {area = area} {after = after} {words = words} b =
    let size = built_words b in
    let left : after ≡ written table area = b.lent ∙ done_written (build_said table area) (written table area) area (words ∷ []) (sym b.answer) in
    ap₂ (λ (n : ℕ) (l : List ℕ). drop n l) size left
    ∙ drop_at (image desk_shape (rules_of table)) (drop (words_needed table) area) (words_needed table) (length_image desk_shape desk_sized (rules_of table))
    ∙ ap (λ (n : ℕ). drop n area) (sym size)
