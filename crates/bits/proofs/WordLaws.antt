-- A word as a set of places: place by place, bit by bit; a word is zero where no place is set, and the count of its trailing zeros is its
-- lowest place.
-- Assumes nothing.
use mathlib.Core.Path.{◌≡◌, refl, sym, ap, ap₂, ◌∙◌}
use mathlib.Core.Bool.{Bool, true, false, not, false≢true}
use mathlib.Core.List.{List, [], ◌∷◌, ◌++◌}
use Prim.Native.Nat.{ℕ, zero, suc, ◌+◌, ◌*◌, ◌/◌, ◌%◌, ◌^◌, ◌≤◌, ◌<◌}
use native.Mathlib.Nat.{add-mul, mul_assoc, mul_comm, div-one, zero-div, div-div-eq-div-mul, pow-suc, zero-lt-suc, le_of_suc-le-suc}
use native.Mathlib.Omega.{arith}
use lib.Arith.{digits_div, digits_mod}
use lib.Count.{count_trailing_zeros, under}
use lib.Dec.{eqb}
use lib.ListN.{length, get_or}
use borrow.Author.Tests.{ne_eqb}
use Rattle.bits.specs.Tests.{any}
use Rattle.bits.specs.Word.{digit, word_of, bit, nonzero}
use Rattle.bits.proofs.DigitLaws.{digit_small, digit_back}
use Rattle.bits.proofs.TestLaws.{clash, same_eqb, Lowest}

-- ---- a word's lowest place, and the others

pub word_half : (b : Bool) (bs : List Bool) → word_of (b ∷ bs) / 2 ≡ word_of bs
unfolding word_of
word_half b bs = digits_div (word_of bs) (digit_small b)

pub word_odd : (b : Bool) (bs : List Bool) → word_of (b ∷ bs) % 2 ≡ digit b
unfolding word_of
word_odd b bs = digits_mod (word_of bs) (digit_small b)

-- a word of n places is below 2 ^ n
pub word_small : (l : List Bool) → word_of l < 2 ^ length l
unfolding word_of
word_small [] = zero-lt-suc 0
word_small (b ∷ l) = omega (arith, word_small l, digit_small b, pow-suc 2 (length l))

-- one place more at the end adds its power of two
pub word_snoc : (l : List Bool) (b : Bool) → word_of (l ++ (b ∷ [])) ≡ word_of l + digit b * 2 ^ length l
unfolding word_of
word_snoc [] b = omega arith
word_snoc (a ∷ l) b =
    let p = 2 ^ length l in
    ap (λ (x : ℕ). x * 2 + digit a) (word_snoc l b)
    ∙ ap (λ (x : ℕ). x + digit a)
    (add-mul (word_of l) (digit b * p) 2 ∙ ap (λ (x : ℕ). word_of l * 2 + x) (mul_assoc (digit b) p 2 ∙ ap (λ (x : ℕ). digit b * x) (sym (pow-suc 2 (length l)))))
    ∙ omega arith

-- ---- zero words

pub nonzero_word : (l : List Bool) → nonzero (word_of l) ≡ any (λ x. x) l
unfolding word_of any
nonzero_word [] = refl
nonzero_word (true ∷ l) = ap not (ne_eqb (word_of l * 2 + 1) 0 (λ e. omega arith))
nonzero_word (false ∷ l) = ap not (same_eqb (word_of l * 2 + 0) 0 (word_of l) 0 (λ e. omega arith) (λ e. omega arith)) ∙ nonzero_word l

-- ---- bit by bit

bit_zero : (n : ℕ) → bit n 0 ≡ eqb (n % 2) 1
unfolding bit
bit_zero n = ap (λ (x : ℕ). eqb (x % 2) 1) (div-one n)

bit_suc : (n b : ℕ) → bit n (suc b) ≡ bit (n / 2) b
unfolding bit
bit_suc n b =
    ap (λ (x : ℕ). eqb (n / x % 2) 1) (pow-suc 2 b ∙ mul_comm (2 ^ b) 2)
    ∙ ap (λ (x : ℕ). eqb (x % 2) 1) (sym (div-div-eq-div-mul n 2 (2 ^ b)))

bit_none : (b : ℕ) → bit 0 b ≡ false
unfolding bit
bit_none b = ap (λ (x : ℕ). eqb (x % 2) 1) (zero-div (2 ^ b))

pub bit_word : (l : List Bool) (b : ℕ) → bit (word_of l) b ≡ get_or l b false
bit_word [] b = unfold word_of in bit_none b
bit_word (a ∷ l) zero = bit_zero (word_of (a ∷ l)) ∙ ap (λ (x : ℕ). eqb x 1) (word_odd a l) ∙ digit_back a
bit_word (a ∷ l) (suc b) = bit_suc (word_of (a ∷ l)) b ∙ ap (λ (x : ℕ). bit x b) (word_half a l) ∙ bit_word l b

-- a word with a bit is not zero
pub bit_nonzero : (n b : ℕ) → bit n b ≡ true → nonzero n ≡ true
bit_nonzero zero b h = clash h (bit_none b)
bit_nonzero (suc n) b h = ap not (ne_eqb (suc n) 0 (λ e. omega arith))

-- ---- the count of trailing zeros is the lowest place

trailing_true : (k : ℕ) (l : List Bool) → count_trailing_zeros (suc k) (word_of (true ∷ l)) ≡ 0
unfolding count_trailing_zeros
trailing_true k l = ap (λ (x : ℕ). under x (count_trailing_zeros k (word_of (true ∷ l) / 2))) (word_odd true l)

trailing_false : (k : ℕ) (l : List Bool) → count_trailing_zeros (suc k) (word_of (false ∷ l)) ≡ suc (count_trailing_zeros k (word_of l))
unfolding count_trailing_zeros
trailing_false k l = ap₂ (λ (x y : ℕ). under x (count_trailing_zeros k y)) (word_odd false l) (word_half false l)

pub trailing_word : (k : ℕ) (l : List Bool) → length l ≤ k → any (λ x. x) l ≡ true → Lowest (λ j. get_or l j false) (length l) (count_trailing_zeros k (word_of l))
unfolding any
trailing_word k [] h t = absurd (false≢true t)
trailing_word zero (b ∷ l) h t = absurd (omega arith)
trailing_word (suc k) (true ∷ l) h t =
    rw (trailing_true k l) (record { below = omega arith; passes = refl; first = λ j l. absurd (omega arith) })
trailing_word (suc k) (false ∷ l) h t = rw (trailing_false k l) (up (trailing_word k l (le_of_suc-le-suc h) t))
  where
    up : {p : ℕ} → Lowest (λ j. get_or l j false) (length l) p → Lowest (λ j. get_or (false ∷ l) j false) (suc (length l)) (suc p)
    up {p} low = record { below = omega (arith, low.below); passes = low.passes; first = before }
      where
        before : (j : ℕ) → j < suc p → get_or (false ∷ l) j false ≡ false
        before zero g = refl
        before (suc j) g = low.first j (le_of_suc-le-suc g)
