-- What is written one after another: two runs make one, and a loop writes what is left.
-- Assumes nothing.
use mathlib.Core.Path.{◌≡◌, refl, sym, ap, ◌∙◌}
use mathlib.Core.List.{List, [], ◌∷◌, ◌++◌}
use Prim.Native.Nat.{ℕ, suc, ◌+◌, ◌≤◌}
use native.Mathlib.Nat.{add-zero, add-suc, suc-add}
use native.Mathlib.Omega.{arith}
use lib.ListN.{length, set, drop, length-append}
use lib.Seq.{sets, length-sets, sets-eq}
use Rattle.bits.specs.Writing.{Writes}

sets_append : (vs ws l : List ℕ) (i : ℕ) → sets l i (vs ++ ws) ≡ sets (sets l i vs) (i + length vs) ws
sets_append [] ws l i = ap (λ (k : ℕ). sets l k ws) (sym (add-zero i))
sets_append (v ∷ vs) ws l i =
    sets_append vs ws (set l i v) (suc i)
    ∙ ap (λ (k : ℕ). sets (sets (set l i v) (suc i) vs) k ws) (suc-add i (length vs) ∙ sym (add-suc i (length vs)))

-- ---- runs

pub writes_nothing : (list : List ℕ) (at : ℕ) → Writes list at [] list at
writes_nothing list at = record { written = refl; ends = sym (add-zero at) }

-- one run after another
pub writes_both : {list : List ℕ} {at : ℕ} {first mid : List ℕ} {from : ℕ} {second after : List ℕ} {next : ℕ}
    → Writes list at first mid from → Writes mid from second after next → Writes list at (first ++ second) after next
writes_both {list} {at} {first} {mid} {from} {second} v w = record {
  written = w.written ∙ (λ k. sets (v.written k) (v.ends k) second) ∙ sym (sets_append first second list at);
  ends = omega (arith, v.ends, w.ends, length-append first second);
}

-- the list stays as long as it was
pub writes_kept : {list : List ℕ} {at : ℕ} {words after : List ℕ} {next : ℕ} → Writes list at words after next → length after ≡ length list
writes_kept {list} {at} {words} w = ap length w.written ∙ length-sets list at words

-- from the front
pub writes_front : {list words after : List ℕ} {next : ℕ} → length words ≤ length list → Writes list 0 words after next → after ≡ words ++ drop (length words) list
writes_front {list} {words} room w =
    let z : 0 + length words ≡ length words = omega arith in
    w.written ∙ sets-eq words list 0 (rw z room) ∙ ap (λ (k : ℕ). words ++ drop k list) z

-- ---- what is left

-- the words that are left, written here, are what all were at the start
pub record Leaves (list : List ℕ) (at : ℕ) (words : List ℕ) (after : List ℕ) (next : ℕ) (rest : List ℕ) : Type 0 where
  pub same : sets after next rest ≡ sets list at words
  pub ends : next + length rest ≡ at + length words
  pub kept : length after ≡ length list

pub leaves_all : (list : List ℕ) (at : ℕ) (words : List ℕ) → Leaves list at words list at words
leaves_all list at words = record { same = refl; ends = refl; kept = refl }

module _ {list : List ℕ} {at : ℕ} {words : List ℕ} {mid : List ℕ} {from : ℕ} {left : List ℕ} (inv : Leaves list at words mid from left) where
  -- there is room for the first of them
  pub leaves_room : (first rest : List ℕ) → left ≡ first ++ rest → at + length words ≤ length list → from + length first ≤ length mid
  leaves_room first rest parts room = omega (arith, inv.ends, inv.kept, ap length parts, length-append first rest)

  -- which are then written
  pub leaves_rest : {first after : List ℕ} {next : ℕ} (rest : List ℕ) → left ≡ first ++ rest → Writes mid from first after next → Leaves list at words after next rest
  leaves_rest {first} {after} {next} rest parts w = record {
    same =
        (λ k. sets (w.written k) (w.ends k) rest)
        ∙ sym (sets_append first rest mid from)
        ∙ ap (sets mid from) (sym parts)
        ∙ inv.same;
    ends = omega (arith, inv.ends, w.ends, ap length parts, length-append first rest);
    kept = writes_kept w ∙ inv.kept;
  }

  -- none are left
  pub leaves_none : left ≡ [] → Writes list at words mid from
  leaves_none over = record {
    written = sym (ap (sets mid from) over) ∙ inv.same;
    ends = omega (arith, inv.ends, ap length over);
  }
