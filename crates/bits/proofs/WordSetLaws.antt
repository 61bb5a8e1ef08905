-- Words as sets of places: intersected, united, and with one place set.
-- Assumes nothing.
use mathlib.Core.Path.{◌≡◌, refl, sym, ap, ap₂, ◌∙◌}
use mathlib.Core.Bool.{Bool, true, false, ◌&&◌, ◌||◌}
use mathlib.Core.List.{List, [], ◌∷◌, map}
use Prim.Native.Nat.{ℕ, zero, suc, ◌+◌, ◌-◌, ◌*◌, ◌/◌, ◌%◌, ◌^◌, ◌<◌, min, max}
use native.Mathlib.Nat.{mul-div_cancel, mul-mod_left, max-zero, pow-suc, zero-lt-suc, le_of_suc-le-suc}
use native.Mathlib.Omega.{arith}
use lib.Arith.{dbl_pred}
use lib.Bits.{bit_and, bit_or, and_step, and_zero_r, and_le_r, and_shr, and_mod, or_step, or_zero_r}
use lib.Dec.{eqb}
use lib.ListN.{length, set, replicate, get_or-replicate}
use lib.Pow.{pow_pos}
use Rattle.bits.specs.Tests.{all}
use Rattle.bits.specs.Word.{digit, word_of, bit, and_all}
use Rattle.bits.proofs.TestLaws.{on_bits}
use Rattle.bits.proofs.WordLaws.{word_half, word_odd, bit_word}

-- ---- words that are intersected

abbrev pub zip_and : List Bool → List Bool → List Bool
zip_and [] m = []
zip_and (a ∷ l) [] = []
zip_and (a ∷ l) (b ∷ m) = (a && b) ∷ zip_and l m

min_digit : (a b : Bool) → min (digit a) (digit b) ≡ digit (a && b)
min_digit true true = refl
min_digit true false = refl
min_digit false true = refl
min_digit false false = refl

pub and_word : (l m : List Bool) → bit_and (word_of l) (word_of m) ≡ word_of (zip_and l m)
unfolding word_of
and_word [] m = refl
and_word (a ∷ l) [] = and_zero_r (word_of (a ∷ l))
and_word (a ∷ l) (b ∷ m) =
    and_step (word_of (a ∷ l)) (word_of (b ∷ m))
    ∙ ap₂ (λ (x y : ℕ). x * 2 + y)
    (ap₂ bit_and (word_half a l) (word_half b m) ∙ and_word l m)
    (ap₂ min (word_odd a l) (word_odd b m) ∙ min_digit a b)

-- a word with all its places set
pub mask_word : (size : ℕ) → 2 ^ size - 1 ≡ word_of (replicate size true)
unfolding word_of
mask_word zero = refl
mask_word (suc s) = ap (λ (x : ℕ). x - 1) (pow-suc 2 s) ∙ dbl_pred (pow_pos s) ∙ ap (λ (x : ℕ). x * 2 + 1) (mask_word s)

both_set : (i j : ℕ) → i < 2 → j < 2 → eqb (bit_and i j) 1 ≡ (eqb i 1 && eqb j 1)
both_set = on_bits (λ (i j : ℕ). eqb (bit_and i j) 1 ≡ (eqb i 1 && eqb j 1)) refl refl refl refl

pub bit_and_lem : (b x y : ℕ) → bit (bit_and x y) b ≡ (bit x b && bit y b)
unfolding bit
bit_and_lem b x y =
    ap (λ (z : ℕ). eqb (z % 2) 1) (and_shr x y b)
    ∙ ap (λ (z : ℕ). eqb z 1) (and_mod (x / 2 ^ b) (y / 2 ^ b) 1)
    ∙ both_set (x / 2 ^ b % 2) (y / 2 ^ b % 2) (omega arith) (omega arith)

-- a place of the intersection is set exactly when it is set in each word
pub bit_all : (size b : ℕ) → b < size → (ws : List ℕ) → bit (and_all size ws) b ≡ all (λ w. bit w b) ws
unfolding and_all all
bit_all size b h [] = ap (λ (x : ℕ). bit x b) (mask_word size) ∙ bit_word (replicate size true) b ∙ get_or-replicate size b true false h
bit_all size b h (w ∷ ws) = bit_and_lem b w (and_all size ws) ∙ ap (λ t. bit w b && t) (bit_all size b h ws)

-- and it fits its places
pub and_small : (size : ℕ) (ws : List ℕ) → and_all size ws < 2 ^ size
unfolding and_all
and_small size [] = omega (arith, pow_pos size)
and_small size (w ∷ ws) = omega (arith, and_le_r w (and_all size ws), and_small size ws)

-- ---- words that are united

max_digit : (a b : Bool) → max (digit a) (digit b) ≡ digit (a || b)
max_digit true true = refl
max_digit true false = refl
max_digit false true = refl
max_digit false false = refl

-- of two tests over one list
pub or_word_lem : {A : Type 0} (t u : A → Bool) (c : List A) → bit_or (word_of (map t c)) (word_of (map u c)) ≡ word_of (map (λ x. t x || u x) c)
unfolding word_of
or_word_lem t u [] = refl
or_word_lem t u (x ∷ c) =
    or_step (word_of (map t (x ∷ c))) (word_of (map u (x ∷ c)))
    ∙ ap₂ (λ (y z : ℕ). y * 2 + z)
    (ap₂ bit_or (word_half (t x) (map t c)) (word_half (u x) (map u c)) ∙ or_word_lem t u c)
    (ap₂ max (word_odd (t x) (map t c)) (word_odd (u x) (map u c)) ∙ max_digit (t x) (u x))

-- ---- one place is set

max_one : (a : Bool) → max (digit a) 1 ≡ 1
max_one true = refl
max_one false = refl

pub word_set : (l : List Bool) (i : ℕ) → i < length l → word_of (set l i true) ≡ bit_or (word_of l) (2 ^ i)
unfolding word_of
word_set [] i h = absurd (omega arith)
word_set (a ∷ l) zero h =
    sym (or_step (word_of (a ∷ l)) 1
    ∙ ap₂ (λ (x y : ℕ). x * 2 + y)
    (ap (λ (x : ℕ). bit_or x 0) (word_half a l) ∙ or_zero_r (word_of l))
    (ap (λ (x : ℕ). max x 1) (word_odd a l) ∙ max_one a))
word_set (a ∷ l) (suc i) h =
    ap (λ (x : ℕ). x * 2 + digit a) (word_set l i (le_of_suc-le-suc h))
    ∙ sym (ap (bit_or (word_of (a ∷ l))) (pow-suc 2 i) ∙ or_step (word_of (a ∷ l)) (2 ^ i * 2)
    ∙ ap₂ (λ (x y : ℕ). x * 2 + y)
    (ap₂ bit_or (word_half a l) (mul-div_cancel (2 ^ i) (zero-lt-suc 1)))
    (ap₂ max (word_odd a l) (mul-mod_left (2 ^ i) 2) ∙ max-zero (digit a)))
