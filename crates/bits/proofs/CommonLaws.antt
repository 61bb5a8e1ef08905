-- What two values have in common from the top, over any width: the leading zeros of the word of bits in which they differ, and, of two of their
-- prefixes, no more than either length.
-- Assumes nothing.
use mathlib.Core.Path.{◌≡◌, refl, sym, ap, ap₂, ◌∙◌}
use mathlib.Core.Bool.{Bool, true, false, beq}
use mathlib.Core.List.{[], ◌∷◌}
use Prim.Native.Nat.{ℕ, zero, suc, ◌+◌, ◌-◌, ◌*◌, ◌/◌, ◌%◌, ◌^◌, ◌≤◌, ◌<◌, min}
use native.Mathlib.Nat.{mod-lt, mod-eq_of_lt, pow-suc}
use native.Mathlib.Omega.{arith}
use lib.Bits.{bit_xor, xor_lt, xor_shr, xor_mod}
use lib.Count.{count_leading_zeros, leading_length, leading_unique}
use lib.Dec.{eqb}
use lib.ListN.{take}
use lib.Pow.{pow_pos}
use Rattle.bits.specs.Path.{Path, bits, prefix, common}
use Rattle.bits.proofs.TestLaws.{on_bits}
use Rattle.bits.proofs.PathLaws.{top_digit}

-- ---- leading zeros, from the top

-- each digit above the width is a zero more
zeros_above : (k w x : ℕ) → x < 2 ^ w → count_leading_zeros (k + w) x ≡ k + count_leading_zeros w x
zeros_above k w x h =
    let l = leading_length w x h in
    sym (leading_unique (k + w) x (k + count_leading_zeros w x) l.0 (omega (arith, l.1)) l.2 l.3)

-- a top digit of 0 is a zero more, and one of 1 ends them
zeros_top : (w d r : ℕ) → d < 2 → r < 2 ^ w → count_leading_zeros (suc w) (d * 2 ^ w + r) ≡ elim (eqb d 0) [ true ↦ suc (count_leading_zeros w r) | false ↦ 0 ]
zeros_top w zero r hd hr = ap₂ count_leading_zeros (omega arith) (omega arith) ∙ zeros_above 1 w r hr ∙ omega arith
zeros_top w (suc zero) r hd hr =
    let twice = pow-suc 2 w in
    sym (leading_unique (suc w) (1 * 2 ^ w + r) 0 (suc w) (omega arith) (omega (arith, twice)) (omega (arith, twice)))
zeros_top w (suc (suc d)) r hd hr = absurd (omega arith)

-- ---- the bits in which two values differ

-- two bits are the same exactly when their exclusive or is 0
same_bit : (i j : ℕ) → i < 2 → j < 2 → eqb (bit_xor i j) 0 ≡ beq (eqb i 1) (eqb j 1)
same_bit = on_bits (λ (i j : ℕ). eqb (bit_xor i j) 0 ≡ beq (eqb i 1) (eqb j 1)) refl refl refl refl

-- each bit of an exclusive or is that of the two bits there
xor_bit : (a b k : ℕ) → bit_xor a b / 2 ^ k % 2 ≡ bit_xor (a / 2 ^ k % 2) (b / 2 ^ k % 2)
xor_bit a b k = ap (λ (x : ℕ). x % 2) (xor_shr a b k) ∙ xor_mod (a / 2 ^ k) (b / 2 ^ k) 1

-- of any two numbers, by their w lowest bits
common_low : (w a b : ℕ) → count_leading_zeros w (bit_xor a b % 2 ^ w) ≡ common (bits w a) (bits w b)
unfolding count_leading_zeros bits common
common_low zero a b = refl
common_low (suc w) a b =
    let x = bit_xor a b in
    ap (count_leading_zeros (suc w)) (top_digit x w)
    ∙ zeros_top w (x / 2 ^ w % 2) (x % 2 ^ w) (omega arith) (mod-lt x (pow_pos w))
    ∙ ap₂ (λ (t : Bool) (n : ℕ). elim t [ true ↦ suc n | false ↦ 0 ])
    (ap (λ (d : ℕ). eqb d 0) (xor_bit a b w) ∙ same_bit (a / 2 ^ w % 2) (b / 2 ^ w % 2) (omega arith) (omega arith))
    (common_low w a b)

-- in a word of n digits, two values of w bits: the zeros above the width, and the leading bits that are the same
pub common_zeros : (n w a b : ℕ) → w ≤ n → a < 2 ^ w → b < 2 ^ w → count_leading_zeros n (bit_xor a b) ≡ n - w + common (bits w a) (bits w b)
common_zeros n w a b h ha hb =
    let small = xor_lt w a b ha hb in
    let whole : n ≡ n - w + w = omega arith in
    ap (λ (k : ℕ). count_leading_zeros k (bit_xor a b)) whole
    ∙ zeros_above (n - w) w (bit_xor a b) small
    ∙ ap (λ (x : ℕ). n - w + count_leading_zeros w x) (sym (mod-eq_of_lt small))
    ∙ ap (λ (c : ℕ). n - w + c) (common_low w a b)

-- ---- no more than either length

common_take : (l m : ℕ) (p q : Path) → common (take l p) (take m q) ≡ min (common p q) (min l m)
unfolding common
common_take zero m p q = omega arith
common_take (suc l) m [] q = omega arith
common_take (suc l) zero (a ∷ p) q = omega arith
common_take (suc l) (suc m) (a ∷ p) [] = omega arith
common_take (suc l) (suc m) (a ∷ p) (b ∷ q) = step (beq a b) (common_take l m p q)
  where
    step : (t : Bool) → common (take l p) (take m q) ≡ min (common p q) (min l m)
        → elim t [ true ↦ suc (common (take l p) (take m q)) | false ↦ 0 ] ≡ min (elim t [ true ↦ suc (common p q) | false ↦ 0 ]) (min (suc l) (suc m))
    step true e = omega (arith, e)
    step false e = omega arith

pub common_prefix : (w a l b m : ℕ) → common (prefix w a l) (prefix w b m) ≡ min (common (bits w a) (bits w b)) (min l m)
unfolding prefix
common_prefix w a l b m = common_take l m (bits w a) (bits w b)
