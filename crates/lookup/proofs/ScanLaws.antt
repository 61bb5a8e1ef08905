-- The blocks in order give the lowest place that passes, and count the false blocks before it.
-- Assumes nothing.
use mathlib.Core.Path.{◌≡◌, refl, sym, ap, ap₂, ◌∙◌}
use mathlib.Core.Logic.{⊎_elim}
use mathlib.Core.Bool.{Bool, true, false, not, ◌&&◌}
use mathlib.Core.List.{List, [], ◌∷◌}
use Rattle.std.specs.Prelude.{Option, None, Some}
use Prim.Native.Nat.{ℕ, zero, suc, ◌+◌, ◌-◌, ◌*◌, ◌/◌, ◌≤◌, ◌<◌}
use native.Mathlib.Nat.{zero-mul, suc-mul, zero-add, add-zero, add-sub_of_le}
use native.Mathlib.Omega.{arith}
use lib.Arith.{digits_div}
use lib.Count.{count_trailing_zeros}
use lib.Dec.{eqb}
use lib.ListN.{length, get_or, take, drop, length-take, length-drop}
use lib.Seq.{get_or-take, get_or-drop}
use borrow.Author.Tests.{not-true, not-false}
use Rattle.bits.specs.Word.{word_of, nonzero}
use Rattle.bits.specs.Tests.{any, lowest, count}
use Rattle.bits.proofs.TestLaws.{decided, or_falses, less, Lowest, Never, lowest_none, lowest_some}
use Rattle.bits.proofs.WordLaws.{nonzero_word, trailing_word}
use Rattle.rules.specs.Match.{blocks_before}
use Rattle.lookup.specs.Scan.{Found, found, scan}

-- ---- one block

module _ (size : ℕ) (tried : ℕ → Bool) (word : ℕ → ℕ) (k b : ℕ) where
  -- one that is not tried is passed over
  pub scan_past : tried b ≡ false → scan size tried word (suc k) b ≡ scan size tried word k (suc b)
  unfolding scan
  scan_past e = rw (e, scan)

  -- a false block is counted
  pub scan_false : tried b ≡ true → eqb (word b) 0 ≡ true
      → scan size tried word (suc k) b ≡ found (scan size tried word k (suc b)).place (suc (scan size tried word k (suc b)).falses)
  unfolding scan
  scan_false e z = rw (e, scan) (rw z)

  -- the first with a nonzero intersection gives the place
  pub scan_wins : tried b ≡ true → eqb (word b) 0 ≡ false → scan size tried word (suc k) b ≡ found (Some (b * size + count_trailing_zeros size (word b))) 0
  unfolding scan
  scan_wins e z = rw (e, scan) (rw z)

-- ---- a block of the tests

-- the tests of block b
abbrev pub chunk : ℕ → List Bool → ℕ → List Bool
chunk size m b = take size (drop (b * size) m)

-- a place passes
abbrev pub passes : List Bool → ℕ → Bool
passes m j = get_or m j false

chunk_at : (size : ℕ) (m : List Bool) (b i : ℕ) → i < size → passes (chunk size m b) i ≡ passes m (b * size + i)
chunk_at size m b i h = get_or-take size (drop (b * size) m) i false h ∙ get_or-drop (b * size) m i false

no_pass : (l : List Bool) (i : ℕ) → any (λ x. x) l ≡ false → passes l i ≡ false
unfolding any
no_pass [] i e = refl
no_pass (x ∷ l) zero e = (or_falses x (any (λ y. y) l) e).0
no_pass (x ∷ l) (suc i) e = no_pass l i (or_falses x (any (λ y. y) l) e).1

module _ (size : ℕ) (m : List Bool) (b : ℕ) (before : Never (passes m) (b * size)) where
  -- no place before the next block passes, where none before this block does and none of this block
  never_next : any (λ x. x) (chunk size m b) ≡ false → Never (passes m) (suc b * size)
  never_next e j h =
      ⊎_elim (before j)
      (λ (g : b * size ≤ j).
      let inside : j - b * size < size = omega (arith, suc-mul b size) in
      ap (passes m) (sym (add-sub_of_le g)) ∙ sym (chunk_at size m b (j - b * size) inside) ∙ no_pass (chunk size m b) (j - b * size) e)
      (less j (b * size))

  chunk_le : length (chunk size m b) ≤ size
  chunk_le = omega (arith, length-take size (drop (b * size) m))

  -- the trailing zeros of this block's word are the lowest place that passes, where some place of the block does
  lowest_here : any (λ x. x) (chunk size m b) ≡ true → Lowest (passes m) (length m) (b * size + count_trailing_zeros size (word_of (chunk size m b)))
  lowest_here e =
      let t : ℕ = count_trailing_zeros size (word_of (chunk size m b)) in
      let low = trailing_word size (chunk size m b) chunk_le e in
      let small : t < size = omega (arith, low.below, chunk_le) in
      record {
        below = omega (arith, low.below, length-take size (drop (b * size) m), length-drop (b * size) m);
        passes = sym (chunk_at size m b t small) ∙ low.passes;
        first = λ j h. ⊎_elim (before j)
            (λ (g : b * size ≤ j).
            let i : ℕ = j - b * size in
            let inside : i < t = omega arith in
            ap (passes m) (sym (add-sub_of_le g)) ∙ sym (chunk_at size m b i (omega arith)) ∙ low.first i inside)
            (less j (b * size));
      }

  trailing_small : any (λ x. x) (chunk size m b) ≡ true → count_trailing_zeros size (word_of (chunk size m b)) < size
  trailing_small e = omega (arith, (trailing_word size (chunk size m b) chunk_le e).below, chunk_le)

-- ---- the blocks that are left

-- a block is false: it is open, and no place of it passes
abbrev pub wrong : ℕ → List Bool → (ℕ → Bool) → ℕ → Bool
wrong size m opens b = opens b && not (any (λ x. x) (chunk size m b))

count_wrong : (test : ℕ → Bool) (n : ℕ) → test n ≡ true → count test (suc n) ≡ suc (count test n)
unfolding count
count_wrong test n e = rw (e, count)

count_right : (test : ℕ → Bool) (n : ℕ) → test n ≡ false → count test (suc n) ≡ count test n
unfolding count
count_right test n e = rw (e, count)

-- the lowest place that passes
abbrev pub winner : List Bool → Option ℕ
winner m = lowest (passes m) (length m)

-- what is found from block b on: the winner, and, with the false blocks below b, all those before the winner's block
record Scanned (size : ℕ) (m : List Bool) (blocks : ℕ) (opens : ℕ → Bool) (b : ℕ) (r : Found) : Type 0 where
  place : r.place ≡ winner m
  falses : r.falses + count (wrong size m opens) b ≡ count (wrong size m opens) (blocks_before size blocks (winner m))

module _ (size : ℕ) (pos : 0 < size) (m : List Bool) (blocks : ℕ) (fits : length m ≤ blocks * size) (tried opens : ℕ → Bool) (word : ℕ → ℕ)
    (right : (b : ℕ) → b < blocks → tried b ≡ opens b)
    (words : (b : ℕ) → b < blocks → word b ≡ word_of (chunk size m b))
    (some-opens : (b : ℕ) → any (λ x. x) (chunk size m b) ≡ true → opens b ≡ true) where
  zero_word : (b : ℕ) → b < blocks → nonzero (word b) ≡ any (λ x. x) (chunk size m b)
  zero_word b h = ap nonzero (words b h) ∙ nonzero_word (chunk size m b)

  win : (k b : ℕ) → b < blocks → Never (passes m) (b * size) → any (λ x. x) (chunk size m b) ≡ true → Scanned size m blocks opens b (scan size tried word (suc k) b)
  unfolding blocks_before
  win k b h before e =
      let t : ℕ = count_trailing_zeros size (word_of (chunk size m b)) in
      let is : winner m ≡ Some (b * size + t) = lowest_some (passes m) (length m) (b * size + t) (lowest_here size m b before e) in
      let block : (b * size + t) / size ≡ b = digits_div b (trailing_small size m b before e) in
      rw (scan_wins size tried word k b (right b h ∙ some-opens b e) (not-true (eqb (word b) 0) (zero_word b h ∙ e))) record {
        place = ap (λ (w : ℕ). Some (b * size + count_trailing_zeros size w)) (words b h) ∙ sym is;
        falses = zero-add (count (wrong size m opens) b) ∙ sym (ap (λ o. count (wrong size m opens) (blocks_before size blocks o)) is ∙ ap (count (wrong size m opens)) block);
      }

  lose : (k b : ℕ) → b < blocks → any (λ x. x) (chunk size m b) ≡ false
      → Scanned size m blocks opens (suc b) (scan size tried word k (suc b)) → Scanned size m blocks opens b (scan size tried word (suc k) b)
  lose k b h e rest = ⊎_elim opened shut (decided (opens b))
    where
      opened : opens b ≡ true → Scanned size m blocks opens b (scan size tried word (suc k) b)
      opened o =
          rw (scan_false size tried word k b (right b h ∙ o) (not-false (eqb (word b) 0) (zero_word b h ∙ e))) record {
            place = rest.place;
            falses = omega (arith, rest.falses, count_wrong (wrong size m opens) b (ap₂ (λ p q. p && not q) o e));
          }

      shut : opens b ≡ false → Scanned size m blocks opens b (scan size tried word (suc k) b)
      shut o =
          rw (scan_past size tried word k b (right b h ∙ o)) record {
            place = rest.place;
            falses = omega (arith, rest.falses, count_right (wrong size m opens) b (ap (λ p. p && not (any (λ x. x) (chunk size m b))) o));
          }

  scan_from : (k b : ℕ) → b + k ≡ blocks → Never (passes m) (b * size) → Scanned size m blocks opens b (scan size tried word k b)
  unfolding scan blocks_before
  scan_from zero b e before =
      let all : b ≡ blocks = omega arith in
      let is : winner m ≡ None = lowest_none (passes m) (length m) (λ j h. before j (rw all (omega arith))) in
      record {
        place = sym is;
        falses = zero-add (count (wrong size m opens) b) ∙ ap (count (wrong size m opens)) all ∙ sym (ap (λ o. count (wrong size m opens) (blocks_before size blocks o)) is);
      }
  scan_from (suc k) b e before =
      let h : b < blocks = omega arith in
      ⊎_elim (win k b h before) (λ n. lose k b h n (scan_from k (suc b) (omega arith) (never_next size m b before n)))
      (decided (any (λ x. x) (chunk size m b)))

  pub scan_all : scan size tried word blocks 0 ≡ found (winner m) (count (wrong size m opens) (blocks_before size blocks (winner m)))
  unfolding count
  scan_all =
      let s = scan_from blocks 0 (zero-add blocks) (λ j h. absurd (omega (arith, zero-mul size))) in
      ap₂ found s.place (sym (add-zero (scan size tried word blocks 0).falses) ∙ s.falses)
