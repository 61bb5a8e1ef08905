-- Words where code meets them: vectors with no place set, one bit read by a shift and a mask, and five words intersected as code nests them.
-- Assumes nothing.
use mathlib.Core.Path.{◌≡◌, refl, sym, ap, ◌∙◌}
use mathlib.Core.Bool.{Bool, false}
use mathlib.Core.List.{List, [], ◌∷◌, map}
use Prim.Native.Nat.{ℕ, zero, suc, ◌/◌, ◌^◌, ◌<◌}
use native.Mathlib.Nat.{mod-eq_of_lt}
use native.Mathlib.Omega.{arith}
use lib.Bits.{bit_and, and_mask}
use lib.Dec.{eqb}
use lib.ListN.{length, get_or, take, drop}
use Rattle.bits.specs.Word.{word_of, pack, bit, and_all}
use Rattle.bits.proofs.ListLaws.{take_map, drop_map, five_elements}

-- ---- no place is set

module _ {A : Type 0} where
  pub word_none : (l : List A) → word_of (map (λ x. false) l) ≡ 0
  unfolding word_of
  word_none [] = refl
  word_none (x ∷ l) = omega (arith, word_none l)

  pub pack_none : (size n : ℕ) (l : List A) (v : ℕ) → get_or (pack size n (map (λ x. false) l)) v 0 ≡ 0
  unfolding pack
  pack_none size zero l v = refl
  pack_none size (suc n) l zero = ap word_of (take_map (λ x. false) size l) ∙ word_none (take size l)
  pack_none size (suc n) l (suc v) = ap (λ (m : List Bool). get_or (pack size n m) v 0) (drop_map (λ x. false) size l) ∙ pack_none size n (drop size l) v

-- ---- one bit of a word

pub bit_read : (word b : ℕ) → eqb (bit_and (word / 2 ^ b) 1) 1 ≡ bit word b
unfolding bit
bit_read word b = ap (λ (x : ℕ). eqb x 1) (and_mask (word / 2 ^ b) 1)

-- ---- words intersected

-- the innermost needs no mask
pub and_last : (size w : ℕ) → w < 2 ^ size → and_all size (w ∷ []) ≡ w
unfolding and_all
and_last size w h = and_mask w size ∙ mod-eq_of_lt h

pub and_five : (size : ℕ) (l : List ℕ) → length l ≡ 5 → get_or l 4 0 < 2 ^ size
    → bit_and (get_or l 0 0) (bit_and (get_or l 1 0) (bit_and (get_or l 2 0) (bit_and (get_or l 3 0) (get_or l 4 0)))) ≡ and_all size l
unfolding and_all
and_five size l h small =
    sym (ap (and_all size) (five_elements 0 l h)
    ∙ ap (λ (w : ℕ). bit_and (get_or l 0 0) (bit_and (get_or l 1 0) (bit_and (get_or l 2 0) (bit_and (get_or l 3 0) w)))) (and_last size (get_or l 4 0) small))
