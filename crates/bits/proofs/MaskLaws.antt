-- The one table of masks at every width: a value of w bits stands in the low bits of a word, so that the mask of its first l bits is
-- the table's at 32 - w + l.
-- Assumes nothing.
use mathlib.Core.Path.{◌≡◌, sym, ap, ◌∙◌}
use Prim.Native.Nat.{ℕ, ◌+◌, ◌-◌, ◌*◌, ◌/◌, ◌%◌, ◌^◌, ◌≤◌, ◌<◌}
use native.Mathlib.Nat.{lt_of_lt_of_le, div-add-mod'}
use native.Mathlib.Omega.{arith}
use lib.Bits.{bit_and, and_high}
use lib.Dec.{eqb}
use lib.Pow.{shr_mod, shl-shr, pow_mono}
use Rattle.bits.specs.Mask.{mask_of}
use Rattle.bits.specs.Path.{cut}
use Rattle.bits.proofs.TestLaws.{same_eqb}

pub mask_cut : (w v l : ℕ) → l ≤ w → w ≤ 32 → v < 2 ^ w → bit_and v (mask_of (32 - w + l)) ≡ cut w v l
mask_cut w v l hl hw hv =
    let j = 32 - w + l in
    let k = w - l in
    let after : 32 - (32 - w + l) ≡ w - l = omega arith in
    let whole : (32 - w + l) + (w - l) ≡ 32 = omega arith in
    let small : v < 2 ^ (j + k) = rw whole (lt_of_lt_of_le hv (pow_mono hw)) in
    ap (λ (n : ℕ). bit_and v (2 ^ 32 - 2 ^ n)) after
    ∙ (rw whole at (and_high v j k))
    ∙ ap (λ (q : ℕ). q * 2 ^ k) (shr_mod j k small)

-- two cut values are the same exactly when what was kept is
pub cut_same : (w l v x : ℕ) → eqb (cut w v l) (cut w x l) ≡ eqb (v / 2 ^ (w - l)) (x / 2 ^ (w - l))
cut_same w l v x =
    let k = w - l in
    same_eqb (v / 2 ^ k * 2 ^ k) (x / 2 ^ k * 2 ^ k) (v / 2 ^ k) (x / 2 ^ k)
    (λ e. sym (shl-shr (v / 2 ^ k) k) ∙ ap (λ (n : ℕ). n / 2 ^ k) e ∙ shl-shr (x / 2 ^ k) k)
    (ap (λ (n : ℕ). n * 2 ^ k))

-- a value is its own cut exactly when nothing was cut
pub cut_whole : (w l v : ℕ) → eqb (cut w v l) v ≡ eqb (v % 2 ^ (w - l)) 0
cut_whole w l v =
    let k = w - l in
    same_eqb (v / 2 ^ k * 2 ^ k) v (v % 2 ^ k) 0 (λ e. omega (arith, div-add-mod' v (2 ^ k))) (λ e. omega (arith, div-add-mod' v (2 ^ k)))
