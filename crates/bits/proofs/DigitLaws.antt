-- A bit as a number, and the bits of a value as code takes them: one after another from the top, each as the number 0 or 1.
-- Assumes nothing.
use mathlib.Core.Path.{◌≡◌, refl, sym, ap, ◌∙◌}
use mathlib.Core.Bool.{Bool, true, false}
use mathlib.Core.List.{◌∷◌}
use Prim.Native.Nat.{ℕ, zero, suc, ◌+◌, ◌-◌, ◌≤◌, ◌<◌}
use native.Mathlib.Omega.{arith}
use lib.Dec.{eqb}
use lib.ListN.{get_or}
use Rattle.bits.specs.Path.{bits, prefix, bit_of}
use Rattle.bits.specs.Word.{digit}
use Rattle.bits.proofs.PathLaws.{prefix_at}

-- ---- a bit and its number

pub digit_small : (b : Bool) → digit b < 2
digit_small true = omega arith
digit_small false = omega arith

pub digit_back : (b : Bool) → eqb (digit b) 1 ≡ b
digit_back true = refl
digit_back false = refl

pub digit_same : (b c : Bool) → digit b ≡ digit c → b ≡ c
digit_same b c e = sym (digit_back b) ∙ ap (λ (x : ℕ). eqb x 1) e ∙ digit_back c

pub digit_of : (x : ℕ) → x < 2 → digit (eqb x 1) ≡ x
digit_of zero h = refl
digit_of (suc zero) h = refl
digit_of (suc (suc x)) h = absurd (omega arith)

-- a number below 2 is a bit's
pub digit_some : (x : ℕ) → x < 2 → (b : Bool) × (x ≡ digit b)
digit_some x h = (eqb x 1, sym (digit_of x h))

-- ---- a value's bits from the top

pub bit_small : (w v j : ℕ) → bit_of w v j < 2
bit_small w v j = omega arith

-- those from the top j on are bit j and those after it
pub bits_from : (w v j : ℕ) → j < w → bits (w - j) v ≡ eqb (bit_of w v j) 1 ∷ bits (w - (j + 1)) v
unfolding bits
bits_from w v j h =
    let more : w - j ≡ suc (w - 1 - j) = omega arith in
    let less : w - 1 - j ≡ w - (j + 1) = omega arith in
    ap (λ (k : ℕ). bits k v) more ∙ ap (λ (k : ℕ). eqb (bit_of w v j) 1 ∷ bits k v) less

-- a prefix's bits are the value's
pub prefix_bit : (w v l j : ℕ) → j < l → l ≤ w → bit_of w v j ≡ digit (get_or (prefix w v l) j false)
prefix_bit w v l j h fits = sym (digit_of (bit_of w v j) (bit_small w v j)) ∙ ap digit (sym (prefix_at w v l j h fits))
