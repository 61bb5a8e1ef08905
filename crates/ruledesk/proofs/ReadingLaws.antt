-- What is held stays where the room changes behind it, and what comes goes on from it, kept or only counted.
-- Assumes nothing.
use mathlib.Core.Path.{◌≡◌, sym, ap, ◌∙◌}
use mathlib.Core.Logic.{⊎_elim}
use mathlib.Core.List.{List, [], ◌++◌, append-nil}
use Prim.Native.Nat.{ℕ, ◌+◌, ◌-◌, ◌^◌, ◌≤◌, ◌<◌}
use native.Mathlib.Nat.{add-zero}
use native.Mathlib.Omega.{arith}
use lib.ListN.{length, take, drop, length-append, length-drop, drop_of_length-le}
use lib.Seq.{take_all, take-append-add, take-append-le, length-take-le}
use borrow.Rule.Slice.PartMut.{put_mid}
use borrow.Author.Tests.{lt-ltb, le-ltb, eq-eqb, ne_eqb}
use Rattle.std.specs.Prelude.{Some, None, Result, Ok, Err}
use Rattle.std.specs.Io.{ReadsAtMost}
use Rattle.std.specs.declared.io.Error.{Error}
use Rattle.bits.specs.Number.{Bytes}
use Rattle.bits.proofs.TestLaws.{less}
use Rattle.bits.proofs.ListLaws.{alike}
use Rattle.bits.proofs.NumberLaws.{bytes_append, part_bytes}
use Rattle.ruledesk.specs.Program.{Holds}
use Rattle.ruledesk.specs.Reading.{Got, lengthened, counted_in, ReadInto, Adds, Reads, Came}
use Rattle.ruledesk.proofs.ProgramLaws.{holds_whole}

-- ---- what is held

-- so many bytes more
module _ {room bytes : List ℕ} {whole : ℕ} (h : Holds bytes room whole) (part : List ℕ) (each : Bytes part) (count : ℕ) (few : count ≤ length part) where
  more_size : length (bytes ++ take count part) ≡ whole + count
  more_size = omega (arith, h.size, length-append bytes (take count part), length-take-le count part few)

  holds_more : (after : List ℕ) → take (length after) (bytes ++ take count part) ≡ take (whole + count) after → Holds (bytes ++ take count part) after (whole + count)
  holds_more after front = record {
    each = bytes_append bytes (take count part) h.each (part_bytes part each count 0);
    size = more_size;
    front = front;
  }

  -- the first of a part that stands behind what is held
  pub holds_behind : whole ≤ length room → Holds (bytes ++ take count part) (take whole room ++ part) (whole + count)
  holds_behind inside =
      let front = take whole room in
      let size : length front ≡ whole = length-take-le whole room inside in
      holds_more (front ++ part)
      (take_all (length (front ++ part)) (bytes ++ take count part) (omega (arith, more_size, size, length-append front part))
      ∙ ap (λ (l : List ℕ). l ++ take count part) (holds_whole h inside)
      ∙ sym (take-append-add front part count)
      ∙ ap (λ (n : ℕ). take (n + count) (front ++ part)) size)

  -- once the room is full they are counted
  pub holds_past : length room ≤ whole → Holds (bytes ++ take count part) room (whole + count)
  holds_past full =
      holds_more room
      (take-append-le (length room) bytes (take count part) (omega (arith, h.size))
      ∙ h.front
      ∙ take_all whole room full
      ∙ sym (take_all (whole + count) room (omega arith)))

-- a part to the end that was lent, as it comes back
pub put_rest : (room part : List ℕ) (from : ℕ) → put_mid from (length room - from) room part ≡ take from room ++ part
put_rest room part from =
    let none : drop (length room - from) (drop from room) ≡ [] = drop_of_length-le (drop from room) {i = length room - from} (simp length-drop (omega arith)) in
    rw none (ap (λ (l : List ℕ). take from room ++ l) (append-nil part))

-- ---- the length after a read

module _ (whole count : ℕ) where
  pub lengthened_none : count ≡ 0 → lengthened whole count ≡ Ok None
  unfolding lengthened
  lengthened_none none = rw (eq-eqb count 0 none)

  module _ (some : count ≡ 0 → ⊥) where
    pub lengthened_more : whole + count < 2 ^ 64 → lengthened whole count ≡ Ok (Some (whole + count))
    unfolding lengthened
    lengthened_more small = rw (ne_eqb count 0 some, lt-ltb (whole + count) (2 ^ 64) small)

    pub lengthened_large : 2 ^ 64 ≤ whole + count → lengthened whole count ≡ Err (record {})
    unfolding lengthened
    lengthened_large large = rw (ne_eqb count 0 some, le-ltb (whole + count) (2 ^ 64) large)

-- ---- one read

module _ {whole : ℕ} {part : List ℕ} {got : Got} (into : ReadInto whole part got) where
  module _ (before after : List ℕ)
      (goes_on : (bytes : List ℕ) → Holds bytes before whole → (count : ℕ) → count ≤ length part → Holds (bytes ++ take count part) after (whole + count)) where
    reads_lengthened : (count : ℕ) → count ≤ length part → Reads before whole after (lengthened whole count)
    unfolding Reads
    reads_lengthened count few =
        let size : length (take count part) ≡ count = length-take-le count part few in
        ⊎_elim
        (λ (none : count ≡ 0). rw (lengthened_none whole count none) (λ bytes h. rw (append-nil, add-zero) at (goes_on bytes h 0 (omega arith))))
        (λ (some : count ≡ 0 → ⊥).
        ⊎_elim
        (λ (small : whole + count < 2 ^ 64).
        rw (lengthened_more whole count some small) record {
          piece = take count part;
          some = omega (arith, size);
          sum = omega (arith, size);
          behind = λ bytes h. goes_on bytes h count few;
        })
        (λ (large : 2 ^ 64 ≤ whole + count). rw (lengthened_large whole count some large) tt)
        (less (whole + count) (2 ^ 64)))
        (alike count 0)

    -- whatever was answered
    reads_counted : (answer : Result ℕ Error) → ReadsAtMost answer part → Reads before whole after (counted_in whole answer)
    unfolding Reads counted_in
    reads_counted (Ok count) few = reads_lengthened count few.0
    reads_counted (Err e) few = tt

    reads_into : Reads before whole after got
    reads_into = rw into.counted (reads_counted into.answer into.few)

  module _ (room : List ℕ) where
    -- into a part behind what is held
    pub reads_behind : whole ≤ length room → Reads room whole (take whole room ++ part) got
    reads_behind inside = reads_into room (take whole room ++ part) (λ bytes h count few. holds_behind h part into.each count few inside)

    -- once the room is full
    pub reads_past : length room ≤ whole → Reads room whole room got
    reads_past full = reads_into room room (λ bytes h count few. holds_past h part into.each count few full)

-- ---- all reads

pub came_end : {before after : List ℕ} {whole : ℕ} → Reads before whole after (Ok None) → Came before whole → Came after whole
unfolding Reads
came_end read c = record { bytes = c.bytes; held = read c.bytes c.held }

pub came_more : {before after : List ℕ} {whole next : ℕ} → Adds before whole after next → Came before whole → Came after next
came_more a c = record { bytes = c.bytes ++ a.piece; held = a.behind c.bytes c.held }
