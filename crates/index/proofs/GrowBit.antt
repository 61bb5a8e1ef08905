-- The rule's bit at the end of its path: one word of one record is another, and the marks are one more.
-- Assumes nothing.
use mathlib.Core.Path.{◌≡◌, sym, ap, ap₂, subst, ◌∙◌}
use mathlib.Core.Logic.{⊎_elim}
use mathlib.Core.Bool.{true, false, ◌&&◌, ◌||◌, and-false}
use mathlib.Core.List.{List}
use Prim.Native.Nat.{ℕ, ◌+◌, ◌*◌, ◌/◌, ◌%◌, ◌^◌, ◌≤◌, ◌<◌}
use native.Mathlib.Omega.{arith}
use lib.Bits.{bit_or}
use lib.Dec.{eqb}
use lib.ListN.{length, get_or, set}
use lib.Seq.{get_or-set_other}
use Rattle.bits.specs.Word.{digit}
use Rattle.bits.proofs.TestLaws.{decided, clash}
use Rattle.bits.proofs.StoreLaws.{set_part}
use Rattle.bits.proofs.DigitLaws.{digit_small}
use Rattle.area.specs.Shape.{blocks, record_words, vector_start}
use Rattle.area.specs.Grow.{State, with_bit}
use Rattle.area.proofs.GrowLaws.{bit_length}
use Rattle.index.specs.Key.{Key, same_key}
use Rattle.index.proofs.KeyLaws.{same_key_eq, same_key_refl, same_key_ne, Stands, stands_same, stands_has_record}
use Rattle.index.proofs.MarkLaws.{Mark, mark_words, length_words, with_mark, mark_more, mark_elsewhere, mark_here}
use Rattle.index.proofs.Recorded.{Sound5, Recorded, Walking}

module _ (n : ℕ) (a₀ : List ℕ) (ks : List Key) (marks : List Mark) (k : Key) (s : State) (w : Walking n a₀ ks marks k s)
    (i : ℕ) (h : i < n) (small : n ≤ 256) (room : record_words * length ks ≤ length a₀) where
  abbrev start : ℕ
  start = record_words * s.at + vector_start

  -- the record's own words
  own_word : (v : ℕ) → v < blocks → get_or (with_bit s.at i s.area) (start + v) 0 ≡ get_or (mark_words n (with_mark marks i k) k) v 0
  unfolding with_bit
  own_word v hv =
      let words = mark_words n marks k in
      let same : (v : ℕ) → v < blocks → get_or s.area (start + v) 0 ≡ get_or words v 0 = λ v h. w.recorded.words s.at k v w.here h in
      set_part s.area words start blocks (i / 32) _ 0 (omega (arith, w.here.inside, w.recorded.long)) (omega (arith, length_words n marks k)) same v hv
      ∙ ap (λ (x : ℕ). get_or (set words (i / 32) (bit_or x (2 ^ (i % 32)))) v 0) (same (i / 32) (omega arith))
      ∙ ap (λ (l : List ℕ). get_or l v 0) (sym (mark_here marks i k n h small))

  bit_words : (j : ℕ) (l : Key) (v : ℕ) → Stands ks j l → v < blocks
      → get_or (with_bit s.at i s.area) (record_words * j + vector_start + v) 0 ≡ get_or (mark_words n (with_mark marks i k) l) v 0
  unfolding with_bit
  bit_words j l v st hv =
      ⊎_elim
      (λ (e : same_key k l ≡ true).
      let same : k ≡ l = same_key_eq k l e in
      let it : j ≡ s.at = w.sound.once j s.at l st (subst (λ (x : Key). Stands ks s.at x) same w.here) in
      ap (λ (x : ℕ). get_or (with_bit s.at i s.area) (record_words * x + vector_start + v) 0) it
      ∙ own_word v hv
      ∙ ap (λ (x : Key). get_or (mark_words n (with_mark marks i k) x) v 0) same)
      (λ (e : same_key k l ≡ false).
      let apart : record_words * j + vector_start + v ≡ start + i / 32 → ⊥ =
      λ q.
      let it : j ≡ s.at = omega arith in
      clash (ap (same_key k) (sym (stands_same w.here (subst (λ (x : ℕ). Stands ks x l) it st))) ∙ same_key_refl k) e
      in
      get_or-set_other s.area (start + i / 32) (record_words * j + vector_start + v) _ 0 apart
      ∙ w.recorded.words j l v st hv
      ∙ ap (λ (x : List ℕ). get_or x v 0) (sym (mark_elsewhere marks i k n l e)))
      (decided (same_key k l))

  pub bit_recorded : Recorded n a₀ ks (with_mark marks i k) (with_bit s.at i s.area)
  bit_recorded = record {
    long = bit_length s.at i s.area ∙ w.recorded.long;
    kids = λ j l b st.
        unfold with_bit in
        get_or-set_other s.area (start + i / 32) (record_words * j + digit b) _ 0 (λ q. omega (arith, digit_small b)) ∙ w.recorded.kids j l b st;
    words = bit_words;
    rest = λ j hj. unfold with_bit in get_or-set_other s.area (start + i / 32) j _ 0 (λ q. omega (arith, w.here.inside)) ∙ w.recorded.rest j hj;
  }

  pub bit_sound : Sound5 ks (with_mark marks i k)
  bit_sound = record {
    once = w.sound.once;
    parented = w.sound.parented;
    rooted = w.sound.rooted;
    marked = λ l e r.
        mark_more marks i k l r
        ∙ ap₂ (λ a b. a || (eqb i r && b)) (w.sound.marked l e r)
        (same_key_ne k l (λ q. clash (stands_has_record ks s.at l (subst (λ (x : Key). Stands ks s.at x) q w.here)) e))
        ∙ and-false (eqb i r);
  }
