-- One field's walk as the code goes it: a step by a bit of the value, which children are damaged, and that a walk stays in the area.
-- Assumes nothing.
use mathlib.Core.Path.{◌≡◌, sym, ap, ap₂, ◌∙◌}
use mathlib.Core.Logic.{⊎_elim}
use mathlib.Core.Bool.{Bool, true, false, ◌||◌}
use mathlib.Core.List.{List, [], ◌∷◌}
use Rattle.std.specs.Prelude.{None, Some}
use Prim.Native.Nat.{ℕ, ◌+◌, ◌-◌, ◌*◌, ◌/◌, ◌≤◌, ◌<◌}
use native.Mathlib.Omega.{arith}
use lib.Dec.{eqb, ltb, leb}
use lib.ListN.{length, get_or}
use borrow.Author.Tests.{eq-eqb, ne_eqb, lt-ltb, le-ltb, le-leb, lt-leb, leb-false}
use Rattle.bits.specs.Path.{Path, bits, bit_of}
use Rattle.bits.proofs.TestLaws.{decided, or_falses}
use Rattle.bits.proofs.ListLaws.{or_left, or_right}
use Rattle.bits.proofs.DigitLaws.{digit_of, bit_small, bits_from}
use Rattle.area.specs.Shape.{desk_shape, record_words}
use Rattle.lookup.specs.Walk.{row_at, bad, walk_from}
use Rattle.lookup.proofs.WalkLaws.{next, walk_stop, walk_bad, walk_on}
use Rattle.lookup.proofs.ReadLaws.{row_word}

-- ---- one step

module _ (area : List ℕ) (n value width j b : ℕ) (inside : j < width) (is : b ≡ bit_of width value j) where
  -- the child for bit j of the value
  abbrev pub child_at : ℕ
  child_at = get_or area (record_words * n + b) 0

  -- the bit as a test, and what is left after it
  abbrev top : Bool
  top = eqb (bit_of width value j) 1

  abbrev rest : Path
  rest = bits (width - (j + 1)) value

  child_read : next desk_shape area n top ≡ child_at
  child_read =
      let small = bit_small width value j in
      ap (λ (x : ℕ). get_or (row_at desk_shape area n) x 0) (digit_of (bit_of width value j) small ∙ sym is) ∙ row_word area n b (omega arith)

  pub step_stop : child_at ≡ 0 → walk_from desk_shape area n (bits (width - j) value) ≡ Some n
  step_stop e = ap (walk_from desk_shape area n) (bits_from width value j inside) ∙ walk_stop desk_shape area n top rest (eq-eqb (next desk_shape area n top) 0 (child_read ∙ e))

  pub step_bad : (child_at ≡ 0 → ⊥) → bad desk_shape area child_at ≡ true → walk_from desk_shape area n (bits (width - j) value) ≡ None
  step_bad z d =
      ap (walk_from desk_shape area n) (bits_from width value j inside)
      ∙ walk_bad desk_shape area n top rest (ne_eqb (next desk_shape area n top) 0 (λ e. z (sym child_read ∙ e))) (ap (bad desk_shape area) child_read ∙ d)

  pub step_on : (child_at ≡ 0 → ⊥) → bad desk_shape area child_at ≡ false
      → walk_from desk_shape area n (bits (width - j) value) ≡ walk_from desk_shape area child_at (bits (width - (j + 1)) value)
  step_on z d =
      ap (walk_from desk_shape area n) (bits_from width value j inside)
      ∙ walk_on desk_shape area n top rest (ne_eqb (next desk_shape area n top) 0 (λ e. z (sym child_read ∙ e))) (ap (bad desk_shape area) child_read ∙ d)
      ∙ ap (λ (c : ℕ). walk_from desk_shape area c rest) child_read

-- ---- which children are damaged

pub bad_low : (area : List ℕ) (c : ℕ) → c < 5 → bad desk_shape area c ≡ true
unfolding bad
bad_low area c h = or_left (ltb c 5) (leb (length area / record_words) c) (lt-ltb c 5 h)

pub bad_high : (area : List ℕ) (c : ℕ) → length area / record_words ≤ c → bad desk_shape area c ≡ true
unfolding bad
bad_high area c h = or_right (ltb c 5) (leb (length area / record_words) c) (le-leb (length area / record_words) c h)

pub bad_none : (area : List ℕ) (c : ℕ) → 5 ≤ c → c < length area / record_words → bad desk_shape area c ≡ false
unfolding bad
bad_none area c low high = ap₂ (λ s t. s || t) (le-ltb c 5 low) (lt-leb (length area / record_words) c high)

good_inside : (area : List ℕ) (c : ℕ) → bad desk_shape area c ≡ false → c < length area / record_words
unfolding bad
good_inside area c d = leb-false (length area / record_words) c (or_falses (ltb c 5) (leb (length area / record_words) c) d).1

some_same : (n m : ℕ) → Some n ≡ Some m → n ≡ m
some_same n m e = cc

none_some : (m : ℕ) → None ≡ Some m → ⊥
none_some m e = let z : ◌≡◌ {A = ℕ} 0 1 = cc in omega arith

-- ---- a whole walk

-- one that starts in the area ends there
pub walk_inside : (area : List ℕ) (p : Path) (n m : ℕ) → n < length area / record_words → walk_from desk_shape area n p ≡ Some m → m < length area / record_words
unfolding walk_from
walk_inside area [] n m h e = let same = some_same n m e in omega arith
walk_inside area (b ∷ bs) n m h e =
    let c = next desk_shape area n b in
    ⊎_elim (λ (z : eqb c 0 ≡ true). let same = some_same n m (sym (walk_stop desk_shape area n b bs z) ∙ e) in omega arith)
    (λ (z : eqb c 0 ≡ false).
    ⊎_elim (λ (d : bad desk_shape area c ≡ true). absurd (none_some m (sym (walk_bad desk_shape area n b bs z d) ∙ e)))
    (λ (d : bad desk_shape area c ≡ false). walk_inside area bs c m (good_inside area c d) (sym (walk_on desk_shape area n b bs z d) ∙ e))
    (decided (bad desk_shape area c)))
    (decided (eqb c 0))
