-- Laws of growing: a step keeps an area ready where there is room, and so does any run of such steps.
-- Assumes nothing.
use mathlib.Core.Path.{◌≡◌, refl, sym, ap, ◌∙◌}
use mathlib.Core.Logic.{⊎_elim}
use mathlib.Core.List.{List}
use Prim.Native.Nat.{ℕ, zero, suc, ◌+◌, ◌*◌, ◌/◌, ◌≤◌, ◌<◌}
use native.Mathlib.Nat.{le_refl, le_trans, eq-or-lt_of_le, eq-zero-or-pos}
use native.Mathlib.Numerals.{add-one}
use native.Mathlib.Decide.{le_ind}
use native.Mathlib.Omega.{arith}
use lib.ListN.{length, set, length-set}
use lib.Seq.{get_or-set_other}
use borrow.Author.Tests.{eq-eqb, ne_eqb}
use Rattle.bits.specs.Path.{bit_of}
use Rattle.bits.proofs.StoreLaws.{either_way}
use Rattle.bits.proofs.DigitLaws.{bit_small}
use Rattle.area.specs.Shape.{record_words, vector_start}
use Rattle.area.specs.Upto.{upto}
use Rattle.area.specs.declared.grow.Growth.{Growth}
use Rattle.area.specs.Growing.{standing}
use Rattle.area.specs.Grow.{zeroed, State, mk, made, kid, down, walked, with_bit, Kids, Ready, Roomy}
use Rattle.area.proofs.ZeroLaws.{length_zeroed, zeroed_after_set, zeroed_below, zeroed_inside}

-- a growing area is ready at each of its records
pub growth_ready : (g : Growth) (t : ℕ) → t < g.next → Ready (standing g t)
growth_ready g t h = record { roots = g.roots; inside = h; whole = g.whole; kids = g.kids }

-- ---- one step

pub down_new : (b : ℕ) (s : State) → kid b s ≡ 0 → down b s ≡ made b s.area s.at s.next
unfolding down
down_new b s e = rw (eq-eqb (kid b s) 0 e)

pub down_old : (b : ℕ) (s : State) → (kid b s ≡ 0 → ⊥) → down b s ≡ mk s.area (kid b s) s.next
unfolding down
down_old b s e = rw (ne_eqb (kid b s) 0 e)

-- where there is room for a step that makes a record, there is room for that record
pub made_room : (b m : ℕ) (s : State) → kid b s ≡ 0 → Roomy (down b s) m → Roomy (mk s.area s.at (s.next + 1)) m
unfolding made
made_room b m s e room = let made_here = rw (down_new b s e) at room in record { room = made_here.room; small = made_here.small }

-- every fact of a step: of a record made, and of a child followed
pub by_kid : (P : State → Type 0) (b : ℕ) (s : State) → (kid b s ≡ 0 → P (made b s.area s.at s.next))
    → (0 < kid b s → P (mk s.area (kid b s) s.next)) → P (down b s)
by_kid P b s new old =
    ⊎_elim (λ e. rw (down_new b s e) (new e)) (λ l. rw (down_old b s (λ e. omega arith)) (old l)) (eq-zero-or-pos (kid b s))

pub down_le : (b : ℕ) (s : State) → s.next ≤ (down b s).next
unfolding made
down_le b s = by_kid (λ t. s.next ≤ t.next) b s (λ e. omega arith) (λ l. omega arith)

pub made_length : (b : ℕ) (a : List ℕ) (t n : ℕ) → record_words * (n + 1) ≤ length a → length (made b a t n).area ≡ length a
unfolding made
made_length b a t n room =
    length_zeroed (record_words * n) (record_words * n + record_words) (set a (record_words * t + b) n) (omega arith) (simp length-set (omega arith)) ∙ length-set a (record_words * t + b) n

-- a cleared record has no children
pub cleared_kids : (a : List ℕ) (n : ℕ) → record_words * (n + 1) ≤ length a → Kids a n → Kids (zeroed (record_words * n) (record_words * n + record_words) a) (n + 1)
unfolding Kids
cleared_kids a n room kids k c hk hc =
    let from = record_words * n in
    ⊎_elim
    (λ (e : k ≡ n). rw (zeroed_inside from (from + record_words) (record_words * k + c) a (omega arith) (omega arith) (omega arith) (omega arith)) (omega arith))
    (λ (h : k < n). rw (zeroed_below from (from + record_words) (record_words * k + c) a (omega arith) (omega arith) (omega arith)) (omega (arith, kids k c h hc)))
    (eq-or-lt_of_le {n = k} {m = n} (omega arith))

pub linked_kids : (a : List ℕ) (i v n : ℕ) → v < n → Kids a n → Kids (set a i v) n
unfolding Kids
linked_kids a i v n l kids k b hk hb = either_way (λ w. w < n) a i v (record_words * k + b) 0 l (kids k b hk hb)

-- it is the same to clear a record before it becomes a child
pub made_linked : (b : ℕ) (a : List ℕ) (t n : ℕ) → b < 2 → t < n → record_words * (n + 1) ≤ length a
    → made b a t n ≡ mk (set (zeroed (record_words * n) (record_words * n + record_words) a) (record_words * t + b) n) n (n + 1)
unfolding made
made_linked b a t n hb ht room =
    ap (λ (l : List ℕ). mk l n (n + 1)) (sym (zeroed_after_set (record_words * n) (record_words * n + record_words) (record_words * t + b) n a (omega arith) (omega arith) (omega arith)))

module _ (b : ℕ) (s : State) (hb : b < 2) (r : Ready s) where
  made_kids : record_words * (s.next + 1) ≤ length s.area → Kids (made b s.area s.at s.next).area (s.next + 1)
  made_kids room =
      rw (made_linked b s.area s.at s.next hb r.inside room)
      (linked_kids _ _ s.next (s.next + 1) (omega arith) (cleared_kids s.area s.next room r.kids))

  pub down_length : Roomy (down b s) (length s.area) → length (down b s).area ≡ length s.area
  unfolding made
  down_length = by_kid (λ t. Roomy t (length s.area) → length t.area ≡ length s.area) b s
      (λ e room. made_length b s.area s.at s.next room.room) (λ l room. refl)

  pub down_ready : Roomy (down b s) (length s.area) → Ready (down b s)
  unfolding made Kids
  down_ready = by_kid (λ t. Roomy t (length s.area) → Ready t) b s
      (λ e room. record { roots = omega (arith, r.roots); inside = omega arith; whole = omega (arith, room.room, made_length b s.area s.at s.next room.room); kids = made_kids room.room })
      (λ l room. record { roots = r.roots; inside = r.kids s.at b r.inside hb; whole = r.whole; kids = r.kids })

-- ---- steps that can be taken one after another: none takes a record back, and where there is room for what a step makes, it keeps
-- the state ready and the area as long as it was

pub record StateKept (s t : State) : Type 0 where
  pub ready : Ready t
  pub long : length t.area ≡ length s.area

pub record Good (step : State → State) : Type 0 where
  pub more : (s : State) → s.next ≤ (step s).next
  pub keeps : (s : State) → Ready s → Roomy (step s) (length s.area) → StateKept s (step s)

module _ (step : ℕ → State → State) (n : ℕ) (good : (j : ℕ) → j < n → Good (step j)) where
  upto_le : (s : State) (j m : ℕ) → j ≤ m → m ≤ n → (upto step j s).next ≤ (upto step m s).next
  unfolding upto
  upto_le s j m h = le_ind (λ (k : ℕ). k ≤ n → (upto step j s).next ≤ (upto step k s).next) (λ l. le_refl _)
      (λ k hk e l. le_trans (e (omega arith)) ((good k l).more _)) m h

  module _ (s : State) (r : Ready s) (room : Roomy (upto step n s) (length s.area)) where
    -- there is room for each state on the way
    on_way : (j : ℕ) → j ≤ n → Roomy (upto step j s) (length s.area)
    on_way j h = let le = upto_le s j n h (le_refl n) in record { room = omega (arith, le, room.room); small = omega (arith, le, room.small) }

    -- and each is ready
    pub state : (j : ℕ) → j ≤ n → StateKept s (upto step j s)
    unfolding upto
    state zero h = record { ready = r; long = refl }
    state (suc j) h =
        let was = state j (omega arith) in
        let now = (good j h).keeps (upto step j s) was.ready (rw was.long (on_way (suc j) h)) in
        record { ready = now.ready; long = now.long ∙ was.long }

    -- so turn j may be taken, of any state that is the one reached
    pub turn : (j : ℕ) → j < n → (t : State) → t ≡ upto step j s → Ready t × Roomy (step j t) (length t.area)
    unfolding upto
    turn j h t e = let was = state j (omega arith) in rw (e, was.long) (was.ready, on_way (suc j) h)

  pub upto_good : Good (upto step n)
  unfolding upto
  upto_good = record {
    more = λ s. upto_le s 0 n (omega arith) (le_refl n);
    keeps = λ s r room. state s r room n (le_refl n);
  }

-- ---- a walk

down_good : (b : ℕ) → b < 2 → Good (down b)
down_good b hb = record {
  more = down_le b;
  keeps = λ s r room. record { ready = down_ready b s hb r room; long = down_length b s hb r room };
}

-- a walk's steps can be taken one after another, so that where there is room for the whole walk, each state of it is ready
steps_good : (w v n j : ℕ) → j < n → Good (down (bit_of w v j))
steps_good w v n j h = down_good _ (bit_small w v j)

pub walked_good : (w v n : ℕ) → Good (walked w v n)
unfolding walked
walked_good w v n = upto_good (λ j. down (bit_of w v j)) n (steps_good w v n)

pub walked_none : (w v : ℕ) (s : State) → walked w v 0 s ≡ s
unfolding walked upto
walked_none w v s = refl

-- one more step, of any state t and bit b that are those of the walk
module _ (w v : ℕ) (s : State) (j : ℕ) (t : State) (b : ℕ) (here : t ≡ walked w v j s) (bit : b ≡ bit_of w v j) where
  pub walked_more : down b t ≡ walked w v (j + 1) s
  unfolding walked upto
  walked_more = rw (here, bit, add-one)

  pub walked_step : (n : ℕ) → Ready s → Roomy (walked w v n s) (length s.area) → j < n → (b < 2) × (t.at < t.next) × Roomy (down b t) (length t.area)
  unfolding walked
  walked_step n r room l =
      let taken = turn (λ i. down (bit_of w v i)) n (steps_good w v n) s r room j l t here in
      rw bit (bit_small w v j, taken.0.inside, taken.1)

pub walked_inside : (w v n : ℕ) (s t : State) → Ready s → Roomy (walked w v n s) (length s.area) → t ≡ walked w v n s → t.at < t.next
walked_inside w v n s t r room e = rw e ((walked_good w v n).keeps s r room).ready.inside

-- ---- setting a bit touches neither children nor length

pub bit_kids : (t i n : ℕ) (a : List ℕ) → i < 256 → Kids a n → Kids (with_bit t i a) n
unfolding Kids with_bit
bit_kids t i n a h kids k b hk hb = rw (get_or-set_other a (record_words * t + vector_start + i / 32) (record_words * k + b) _ 0 (λ e. omega arith)) (kids k b hk hb)

pub bit_length : (t i : ℕ) (a : List ℕ) → length (with_bit t i a) ≡ length a
unfolding with_bit
bit_length t i a = simp length-set
