-- Laws of the aggregates: the sum of a run of words is the word of those that are not zero, and summing touches nothing else.
-- Assumes nothing.
use mathlib.Core.Path.{◌≡◌, refl, sym, ap, ap₂, subst, ◌∙◌}
use mathlib.Core.Logic.{⊎_elim}
use mathlib.Core.Bool.{Bool, not}
use mathlib.Core.List.{List, [], ◌∷◌, map, map-append}
use Prim.Native.Nat.{ℕ, zero, suc, ◌+◌, ◌*◌, ◌^◌, ◌≤◌, ◌<◌}
use native.Mathlib.Nat.{eq-zero-or-pos, eq-or-lt_of_le, zero-add, one-mul}
use native.Mathlib.Omega.{arith}
use lib.Bits.{bit_or, or_shifted_r}
use lib.ListN.{length, get_or, set, length-set}
use Rattle.std.specs.Prelude.{slice_range}
use Rattle.std.proofs.lemmas.List.Edits.{length-between, get_or-between}
use lib.Seq.{get_or-set_same, get_or-set_other}
use borrow.Author.Tests.{eq-eqb, ne_eqb}
use Rattle.bits.specs.Word.{digit, word_of, nonzero}
use Rattle.bits.specs.Tests.{up_from}
use Rattle.bits.proofs.EachLaws.{up_snoc}
use Rattle.bits.proofs.PlaceLaws.{length_places}
use Rattle.bits.proofs.WordLaws.{word_small, word_snoc}
use Rattle.area.specs.Shape.{blocks, record_words, aggregate_start, vector_start}
use Rattle.area.specs.Upto.{upto}
use Rattle.area.specs.Sums.{marked, sum_at, summed}
use Rattle.area.proofs.UptoLaws.{upto_more}

pub mark_none : (x w g : ℕ) → x ≡ 0 → marked x w g ≡ g
unfolding marked
mark_none x w g e = rw (eq-eqb x 0 e)

pub mark_some : (x w g : ℕ) → (x ≡ 0 → ⊥) → marked x w g ≡ bit_or g (2 ^ w)
unfolding marked
mark_some x w g e = rw (ne_eqb x 0 e)

pub sum_none : (a : List ℕ) (at : ℕ) → sum_at a at 0 ≡ 0
unfolding sum_at upto
sum_none a at = refl

pub sum_more : (a : List ℕ) (at n : ℕ) → marked (get_or a (at + n) 0) n (sum_at a at n) ≡ sum_at a at (n + 1)
unfolding sum_at
sum_more a at n = sym (upto_more (λ w g. marked (get_or a (at + w) 0) w g) n 0)

pub summed_none : (a : List ℕ) → summed 0 a ≡ a
unfolding summed upto
summed_none a = refl

pub summed_more : (a : List ℕ) (k : ℕ) → set (summed k a) (record_words * k + aggregate_start) (sum_at (summed k a) (record_words * k + vector_start) blocks) ≡ summed (k + 1) a
unfolding summed
summed_more a k = sym (upto_more (λ j x. set x (record_words * j + aggregate_start) (sum_at x (record_words * j + vector_start) blocks)) k a)

-- a sum is that of the words it reads, wherever they stand
sum_same : (a b : List ℕ) (at to n : ℕ) → ((w : ℕ) → w < n → get_or a (at + w) 0 ≡ get_or b (to + w) 0) → sum_at a at n ≡ sum_at b to n
unfolding sum_at upto
sum_same a b at to zero e = refl
sum_same a b at to (suc n) e = ap₂ (λ (x s : ℕ). marked x n s) (e n (omega arith)) (sum_same a b at to n (λ w h. e w (omega arith)))

-- so a part of an area has the sum of the words from where it starts
pub sum_of_part : (a : List ℕ) (at n : ℕ) → at + n ≤ length a → sum_at (slice_range a at (at + n)) 0 (length (slice_range a at (at + n))) ≡ sum_at a at n
sum_of_part a at n h =
    let long : length (slice_range a at (at + n)) ≡ n = length-between a at (at + n) h ∙ omega arith in
    rw long (sum_same _ a 0 at n (λ w l. rw zero-add (get_or-between a at (at + n) w 0 (omega arith))))

-- ---- what a sum says

abbrev flags : List ℕ → ℕ → ℕ → List Bool
flags a at n = map (λ w. nonzero (get_or a (at + w) 0)) (up_from 0 n)

flags_more : (a : List ℕ) (at n : ℕ) → word_of (flags a at (suc n)) ≡ word_of (flags a at n) + digit (nonzero (get_or a (at + n) 0)) * 2 ^ n
flags_more a at n =
    let g : ℕ → Bool = λ w. nonzero (get_or a (at + w) 0) in
    ap word_of (ap (map g) (up_snoc 0 n) ∙ map-append g (up_from 0 n) ((0 + n) ∷ []))
    ∙ word_snoc (flags a at n) (g (0 + n))
    ∙ ap₂ (λ (w m : ℕ). word_of (flags a at n) + digit (g w) * 2 ^ m) (zero-add n) (length_places g n)

flags_small : (a : List ℕ) (at n : ℕ) → word_of (flags a at n) < 2 ^ n
flags_small a at n =
    subst (λ (m : ℕ). word_of (flags a at n) < 2 ^ m) (length_places (λ w. nonzero (get_or a (at + w) 0)) n) (word_small (flags a at n))

flags_none : (a : List ℕ) (at : ℕ) → word_of (flags a at 0) ≡ 0
unfolding up_from word_of
flags_none a at = refl

pub sum_word : (a : List ℕ) (at n : ℕ) → sum_at a at n ≡ word_of (flags a at n)
unfolding sum_at upto
sum_word a at zero = sym (flags_none a at)
sum_word a at (suc n) =
    let x = get_or a (at + n) 0 in
    let g = word_of (flags a at n) in
    ap (marked x n) (sum_word a at n)
    ∙ ⊎_elim
    (λ (e : x ≡ 0). mark_none x n g e ∙ sym (flags_more a at n ∙ ap (λ (t : Bool). g + digit (not t) * 2 ^ n) (eq-eqb x 0 e) ∙ omega arith))
    (λ (l : 0 < x).
    let ne : x ≡ 0 → ⊥ = λ e. omega arith in
    mark_some x n g ne
    ∙ ap (bit_or g) (sym (one-mul (2 ^ n)))
    ∙ or_shifted_r 1 n g (flags_small a at n)
    ∙ sym (flags_more a at n ∙ ap (λ (t : Bool). g + digit (not t) * 2 ^ n) (ne_eqb x 0 ne) ∙ omega arith))
    (eq-zero-or-pos x)

-- ---- what summing leaves

pub summed_length : (n : ℕ) (a : List ℕ) → length (summed n a) ≡ length a
unfolding summed upto
summed_length zero a = refl
summed_length (suc n) a = length-set (summed n a) _ _ ∙ summed_length n a

pub summed_other : (j : ℕ) (a : List ℕ) → ((k : ℕ) → j ≡ record_words * k + aggregate_start → ⊥) → (n : ℕ) → get_or (summed n a) j 0 ≡ get_or a j 0
unfolding summed upto
summed_other j a ne zero = refl
summed_other j a ne (suc n) = get_or-set_other (summed n a) (record_words * n + aggregate_start) j _ 0 (ne n) ∙ summed_other j a ne n

pub summed_beyond : (j n : ℕ) (a : List ℕ) → record_words * n ≤ j → get_or (summed n a) j 0 ≡ get_or a j 0
unfolding summed upto
summed_beyond j zero a h = refl
summed_beyond j (suc n) a h = get_or-set_other (summed n a) (record_words * n + aggregate_start) j _ 0 (λ e. omega arith) ∙ summed_beyond j n a (omega arith)

pub summed_at : (k n : ℕ) (a : List ℕ) → k < n → record_words * n ≤ length a → get_or (summed n a) (record_words * k + aggregate_start) 0 ≡ sum_at a (record_words * k + vector_start) blocks
unfolding summed upto
summed_at k zero a h room = absurd (omega arith)
summed_at k (suc n) a h room =
    ⊎_elim
    (λ (e : k ≡ n).
    ap (λ (x : ℕ). get_or (set (summed n a) (record_words * n + aggregate_start) (sum_at (summed n a) (record_words * n + vector_start) blocks)) (record_words * x + aggregate_start) 0) e
    ∙ get_or-set_same (summed n a) (record_words * n + aggregate_start) _ 0 (omega (arith, summed_length n a))
    ∙ sum_same (summed n a) a (record_words * n + vector_start) (record_words * n + vector_start) blocks (λ w hw. summed_other (record_words * n + vector_start + w) a (λ m q. omega arith) n)
    ∙ ap (λ (x : ℕ). sum_at a (record_words * x + vector_start) blocks) (sym e))
    (λ (l : k < n). get_or-set_other (summed n a) (record_words * n + aggregate_start) (record_words * k + aggregate_start) _ 0 (λ q. omega arith) ∙ summed_at k n a l (omega arith))
    (eq-or-lt_of_le {n = k} {m = n} (omega arith))
