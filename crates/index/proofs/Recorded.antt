-- What an area holds while records grow in it: for each record its children's numbers and the bits of the rules whose path was put in
-- and ends there, and beyond the records what was there before. First of a walk in it, then between two walks.
-- Assumes nothing.
use mathlib.Core.Path.{◌≡◌}
use mathlib.Core.Bool.{Bool, false}
use mathlib.Core.List.{List}
use Prim.Native.Nat.{ℕ, ◌+◌, ◌*◌, ◌≤◌, ◌<◌}
use lib.ListN.{length, get_or}
use Rattle.bits.specs.Word.{digit}
use Rattle.area.specs.Shape.{blocks, record_words, vector_start}
use Rattle.area.specs.Grow.{State}
use Rattle.index.specs.Key.{Key, has_record}
use Rattle.index.specs.Image.{child}
use Rattle.index.proofs.KeyLaws.{Stands}
use Rattle.index.proofs.GrownLaws.{Rooted}
use Rattle.index.proofs.OrderLaws.{Once, Parented}
use Rattle.index.proofs.MarkLaws.{Mark, marked_at, mark_words}

-- the keys so far are each once, with their parents and the five roots, and every mark is at one of them
pub record Sound5 (ks : List Key) (marks : List Mark) : Type 0 where
  pub once : Once ks
  pub parented : Parented ks
  pub rooted : Rooted 5 ks
  pub marked : (k : Key) → has_record k ks ≡ false → (i : ℕ) → marked_at marks k i ≡ false

-- an area that was a₀, with the records of these keys and these marks of n rules
pub record Recorded (n : ℕ) (a₀ : List ℕ) (ks : List Key) (marks : List Mark) (a : List ℕ) : Type 0 where
  pub long : length a ≡ length a₀
  pub kids : (i : ℕ) (k : Key) (b : Bool) → Stands ks i k → get_or a (record_words * i + digit b) 0 ≡ child ks k b
  pub words : (i : ℕ) (k : Key) (v : ℕ) → Stands ks i k → v < blocks → get_or a (record_words * i + vector_start + v) 0 ≡ get_or (mark_words n marks k) v 0
  pub rest : (j : ℕ) → record_words * length ks ≤ j → get_or a j 0 ≡ get_or a₀ j 0

-- a walk stands at the record of a key
pub record Walking (n : ℕ) (a₀ : List ℕ) (ks : List Key) (marks : List Mark) (k : Key) (s : State) : Type 0 where
  pub sound : Sound5 ks marks
  pub recorded : Recorded n a₀ ks marks s.area
  pub next : s.next ≡ length ks
  pub here : Stands ks s.at k

-- between two walks no place matters
pub record Between (n : ℕ) (a₀ : List ℕ) (ks : List Key) (marks : List Mark) (s : State) : Type 0 where
  pub sound : Sound5 ks marks
  pub recorded : Recorded n a₀ ks marks s.area
  pub next : s.next ≡ length ks
