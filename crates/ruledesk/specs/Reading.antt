-- Reading to the end, in the code's terms: held bytes stay, what comes stands behind them, and the whole length is the sum of what came.
-- Nothing is said of what a read brings.
-- Assumes nothing.
use Rattle.std.specs.Prelude.{◌≡◌, ◌⊎◌, cond, List, ◌++◌, ℕ, ◌+◌, ◌^◌, ◌<◌, eqb, ltb, length, Option, Some, None, Result, Ok, Err}
use Rattle.std.specs.Io.{ReadsAtMost}
use Rattle.std.specs.declared.io.Error.{Error}
use Rattle.bits.specs.Number.{Bytes}
use Rattle.ruledesk.specs.declared.read.Unreadable.{Unreadable}
use Rattle.ruledesk.specs.Program.{Holds}

-- ---- one read

-- the whole length after a read: nothing at the end
abbrev pub Got : Type 0
Got = Result (Option ℕ) Unreadable

-- "the file's whole length, however long", with so many bytes more: none at the end; a length that is no `usize` cannot be read to its end
unfoldable pub lengthened : ℕ → ℕ → Got
lengthened whole count = cond (eqb count 0) (Ok None) (cond (ltb (whole + count) (2 ^ 64)) (Ok (Some (whole + count))) (Err (record {})))

-- by what `read` answered: an error, or how many bytes came
unfoldable pub counted_in : ℕ → Result ℕ Error → Got
counted_in whole (Ok count) = lengthened whole count
counted_in whole (Err e) = Err (record {})

-- the bytes of a part that was lent to `read`, and the length by its answer, which is at most the part's
pub record ReadInto (whole : ℕ) (part : List ℕ) (got : Got) : Type 0 where
  pub each : Bytes part
  pub answer : Result ℕ Error
  pub few : ReadsAtMost answer part
  pub counted : got ≡ counted_in whole answer

-- bytes that came stand behind whatever bytes were held, and the whole length is the sum
pub record Adds (before : List ℕ) (whole : ℕ) (after : List ℕ) (next : ℕ) : Type 0 where
  pub piece : List ℕ
  pub some : 0 < length piece
  pub sum : next ≡ whole + length piece
  pub behind : (bytes : List ℕ) → Holds bytes before whole → Holds (bytes ++ piece) after next

-- what a read leaves in the room: at the end whatever was held; after an error nothing is said
unfoldable pub Reads : List ℕ → ℕ → List ℕ → Got → Type 0
Reads before whole after (Ok (Some next)) = Adds before whole after next
Reads before whole after (Ok None) = (bytes : List ℕ) → Holds bytes before whole → Holds bytes after whole
Reads before whole after (Err e) = Unit

-- ---- all reads

-- some bytes of which the room holds the first, as many as there is room for: there are such for every room and length (`held_some`)
pub record Came (room : List ℕ) (whole : ℕ) : Type 0 where
  pub bytes : List ℕ
  pub held : Holds bytes room whole

-- "an unreadable file counts as 1"
abbrev pub unreadable : ℕ
unreadable = 1

-- so many came, or it cannot be read
abbrev pub WholeRead : List ℕ → ℕ → Type 0
WholeRead room whole = Came room whole ⊎ (whole ≡ unreadable)
