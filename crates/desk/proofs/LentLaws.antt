-- Lent memory: a refusal leaves it unchanged. And the calls that judge the table, then the room, and only then write: the three ways
-- that they end.
-- Assumes nothing.
use mathlib.Core.Path.{◌≡◌, sym, ap, ◌∙◌}
use mathlib.Core.Logic.{⊎_elim}
use mathlib.Core.Bool.{Bool, true, false, cond}
use mathlib.Core.List.{List, [], ◌∷◌, head-eq_of_cons-eq}
use Prim.Native.Nat.{ℕ, zero, suc, ◌≤◌, ◌<◌}
use native.Mathlib.Omega.{arith}
use lib.Dec.{ltb}
use lib.ListN.{length, get_or}
use borrow.Author.Tests.{lt-ltb, le-ltb}
use Rattle.rules.specs.declared.Refusal.{Refusal}
use Rattle.rules.specs.Refusal.{said, first_refusal}
use Rattle.rules.specs.Table.{verdict, Accepted}
use Rattle.rules.proofs.SaidLaws.{numbered, refused_first}
use Rattle.rules.proofs.TestWords.{accepted_or_refused}
use Rattle.desk.specs.Lent.{room_said, lent_after}

-- what is said, and what is left: after a refusal, the memory as it was
pub lent_refused : (r : Refusal) (says written before : List ℕ) → says ≡ said r → (said r ≡ says) × (before ≡ lent_after says written before)
unfolding lent_after
lent_refused r says written before e = (sym e, sym (ap (λ (vs : List ℕ). lent_after vs written before) (e ∙ (numbered r).2)))

module _ (table lent written : List ℕ) (short : Refusal) (number needed value : ℕ) (plain : said short ≡ number ∷ []) where
  abbrev says : List ℕ
  says = first_refusal (verdict table) (room_said number needed lent value)

  -- a refused table
  pub room_refused : (r : Refusal) → said r ≡ verdict table → (said r ≡ says) × (lent ≡ lent_after says written lent)
  room_refused r e =
      let rest = room_said number needed lent value in
      lent_refused r says written lent (ap (λ (vs : List ℕ). first_refusal vs rest) (sym e) ∙ refused_first r rest)

  module _ (ok : Accepted table) where
    says_room : says ≡ room_said number needed lent value
    unfolding first_refusal
    says_room = ap (λ (vs : List ℕ). first_refusal vs (room_said number needed lent value)) ok

    -- no room
    pub room_short : length lent < needed → (said short ≡ says) × (lent ≡ lent_after says written lent)
    unfolding room_said
    room_short h = lent_refused short says written lent (says_room ∙ rw (lt-ltb (length lent) needed h) (sym plain))

    -- done
    pub room_done : needed ≤ length lent → (0 ∷ value ∷ [] ≡ says) × (written ≡ lent_after says written lent)
    unfolding room_said lent_after
    room_done h =
        let e : says ≡ 0 ∷ value ∷ [] = says_room ∙ rw (le-ltb (length lent) needed h) in
        (sym e, sym (ap (λ (vs : List ℕ). lent_after vs written lent) e))

-- the other way round

-- a list of checks that is done: none refused, and the last one is done
pub first_last : (a b vs : List ℕ) → first_refusal a b ≡ 0 ∷ vs → b ≡ 0 ∷ vs
unfolding first_refusal
first_last [] b vs e = e
first_last (zero ∷ ws) b vs e = e
first_last (suc n ∷ ws) b vs e = absurd (omega (arith, head-eq_of_cons-eq e))

-- what is done after the room was judged carries the value
pub room_value : (table lent : List ℕ) (number needed value said : ℕ) → first_refusal (verdict table) (room_said (suc number) needed lent value) ≡ 0 ∷ said ∷ [] → said ≡ value
unfolding room_said
room_value table lent number needed value said e =
    go (ltb (length lent) needed) (first_last (verdict table) (room_said (suc number) needed lent value) (said ∷ []) e)
  where
    go : (short : Bool) → cond short (suc number ∷ []) (0 ∷ value ∷ []) ≡ 0 ∷ said ∷ [] → said ≡ value
    go true q = absurd (omega (arith, head-eq_of_cons-eq q))
    go false q = sym (ap (λ (l : List ℕ). get_or l 1 0) q)

-- what is done had an accepted table, and what was to be written is left
pub done_accepted : (table rest vs : List ℕ) → first_refusal (verdict table) rest ≡ 0 ∷ vs → Accepted table
unfolding first_refusal
done_accepted table rest vs e =
    ⊎_elim (λ (ok : Accepted table). ok)
    (λ (bad : (why : Refusal) × (said why ≡ verdict table)).
    let refused : said bad.0 ≡ 0 ∷ vs = sym (ap (λ (l : List ℕ). first_refusal l rest) (sym bad.1) ∙ refused_first bad.0 rest) ∙ e in
    absurd (omega (arith, head-eq_of_cons-eq (sym (numbered bad.0).2 ∙ refused))))
    (accepted_or_refused table)

pub done_written : (says written before vs : List ℕ) → says ≡ 0 ∷ vs → lent_after says written before ≡ written
unfolding lent_after
done_written _ written before vs e = ap (λ (l : List ℕ). lent_after l written before) e
