-- Laws of clearing: what is zeroed, and what stays.
-- Assumes nothing.
use mathlib.Core.Path.{◌≡◌, sym, ap, ◌∙◌}
use mathlib.Core.List.{List, ◌++◌, append_assoc}
use Prim.Native.Nat.{ℕ, ◌+◌, ◌-◌, ◌≤◌, ◌<◌}
use native.Mathlib.Omega.{arith}
use lib.ListN.{length, get_or, set, take, drop, replicate, length-append, length-take, length-drop, length-replicate, get_or-replicate, get_or-append}
use lib.Seq.{set-append_left, take-set-lt, drop-set-lt, length-take-le, get_or-take, get_or-append-add, get_or-drop}
use Rattle.area.specs.Grow.{zeroed}

pub length_zeroed : (start end : ℕ) (a : List ℕ) → start ≤ end → end ≤ length a → length (zeroed start end a) ≡ length a
unfolding zeroed
length_zeroed start end a h l = simp (length-append, length-take, length-replicate, length-drop) (omega arith)

-- what is set before the zeros stays as it is set
pub zeroed_after_set : (start end i v : ℕ) (a : List ℕ) → i < start → start ≤ end → end ≤ length a
    → set (zeroed start end a) i v ≡ zeroed start end (set a i v)
unfolding zeroed
zeroed_after_set start end i v a before h l =
    let front : i < length (take start a) = simp length-take (omega arith) in
    let past : i < end = omega arith in
    rw (set-append_left, take-set-lt, drop-set-lt)

module _ (start end k : ℕ) (a : List ℕ) (h : start ≤ end) (l : end ≤ length a) where
  pub zeroed_below : k < start → get_or (zeroed start end a) k 0 ≡ get_or a k 0
  unfolding zeroed
  zeroed_below b =
      let n : k < length (take start a) = simp length-take (omega arith) in
      rw (get_or-append, get_or-take)

  pub zeroed_inside : start ≤ k → k < end → get_or (zeroed start end a) k 0 ≡ 0
  unfolding zeroed
  zeroed_inside b e =
      let n : length (take start a) ≡ start = length-take-le start a (omega arith) in
      let m : k - start < end - start = omega arith in
      let at : k ≡ length (take start a) + (k - start) = omega arith in
      let in_zeros : k - start < length {A = ℕ} (replicate (end - start) 0) = simp length-replicate (omega arith) in
      ap (λ (i : ℕ). get_or (take start a ++ (replicate (end - start) 0 ++ drop end a)) i 0) at ∙ rw (get_or-append-add, get_or-append, get_or-replicate)

  pub zeroed_above : end ≤ k → get_or (zeroed start end a) k 0 ≡ get_or a k 0
  unfolding zeroed
  zeroed_above b =
      let n : length (take start a ++ replicate (end - start) 0) ≡ end = simp (length-append, length-take, length-replicate) (omega arith) in
      let at : k ≡ length (take start a ++ replicate (end - start) 0) + (k - end) = omega arith in
      let back : end + (k - end) ≡ k = omega arith in
      ap (λ (i : ℕ). get_or (take start a ++ (replicate (end - start) 0 ++ drop end a)) i 0) at
      ∙ ap (λ (l : List ℕ). get_or l (length (take start a ++ replicate (end - start) 0) + (k - end)) 0) (sym (append_assoc (take start a) (replicate (end - start) 0) (drop end a)))
      ∙ get_or-append-add (take start a ++ replicate (end - start) 0) (drop end a) (k - end) 0
      ∙ get_or-drop end a (k - end) 0
      ∙ ap (λ (i : ℕ). get_or a i 0) back
