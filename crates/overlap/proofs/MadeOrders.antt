-- The orders made from others are orders: the order left in place, the way back from one, and one after another; and what each one's old
-- and new places are.
-- Assumes nothing.
use mathlib.Core.Path.{◌≡◌, sym, ap, ◌∙◌}
use mathlib.Core.Bool.{true}
use mathlib.Core.List.{List}
use Prim.Native.Nat.{ℕ, ◌<◌}
use native.Mathlib.Omega.{arith}
use lib.ListN.{length, length-map}
use lib.Seq.{ext_get_or}
use Rattle.bits.proofs.EachLaws.{get_d_map, up_size, up_at, tabled}
use Rattle.overlap.specs.Order.{is_order, old_place, new_place, in_place, way_back, and_then}
use Rattle.overlap.proofs.OrderLaws.{Order, back_order, back_new}

-- ---- the order left in place

module _ (n : ℕ) where
  pub place_size : length (in_place n) ≡ n
  unfolding in_place
  place_size = up_size 0 n

  pub place_old : (k : ℕ) → k < n → old_place (in_place n) k ≡ k
  unfolding in_place
  place_old k h = omega (arith, up_at 0 n k 0 h)

  pub place_order : is_order n (in_place n) ≡ true
  place_order = back_order n (in_place n) (λ i. i) place_old place_size (λ k h. omega (arith, place_old k h))

  pub place_new : (i : ℕ) → i < n → new_place (in_place n) i ≡ i
  place_new = back_new n (in_place n) (λ i. i) place_old place_order

-- ---- the way back from an order

module _ (n : ℕ) (o : List ℕ) (O : Order n o) where
  back_old : (i : ℕ) → i < n → old_place (way_back n o) i ≡ new_place o i
  unfolding way_back in_place
  back_old i = tabled (new_place o) n i 0

  back_size : length (way_back n o) ≡ n
  unfolding way_back
  back_size = length-map (in_place n) (new_place o) ∙ place_size n

  undo_back : (i : ℕ) → i < n → old_place o (old_place (way_back n o) i) ≡ i
  undo_back i h = ap (old_place o) (back_old i h) ∙ O.old_new i h

  pub way_order : is_order n (way_back n o) ≡ true
  way_order = back_order n (way_back n o) (old_place o) undo_back back_size (λ i h. rw (back_old i h) (O.new_below i h))

  pub way_new : (k : ℕ) → k < n → new_place (way_back n o) k ≡ old_place o k
  way_new = back_new n (way_back n o) (old_place o) undo_back way_order

  -- there and back is in place
  pub then_back : and_then o (way_back n o) ≡ in_place n
  unfolding and_then
  then_back =
      ext_get_or 0 (and_then o (way_back n o)) (in_place n) (length-map (way_back n o) (old_place o) ∙ back_size ∙ sym (place_size n))
      (λ i h.
      let l : i < n = omega (arith, length-map (way_back n o) (old_place o), back_size) in
      get_d_map (old_place o) (way_back n o) i 0 0 (rw back_size l) ∙ undo_back i l ∙ sym (place_old n i l))

-- ---- one order after another

module _ (n : ℕ) (o p : List ℕ) (O : Order n o) (P : Order n p) where
  pub then_size : length (and_then o p) ≡ n
  unfolding and_then
  then_size = length-map p (old_place o) ∙ P.size

  pub then_old : (k : ℕ) → k < n → old_place (and_then o p) k ≡ old_place o (old_place p k)
  unfolding and_then
  then_old k h = get_d_map (old_place o) p k 0 0 (rw P.size h)

  undo_then : (k : ℕ) → k < n → new_place p (new_place o (old_place (and_then o p) k)) ≡ k
  undo_then k h =
      ap (λ (i : ℕ). new_place p (new_place o i)) (then_old k h) ∙ ap (new_place p) (O.new_old (old_place p k) (P.below k h)) ∙ P.new_old k h

  pub then_order : is_order n (and_then o p) ≡ true
  then_order =
      back_order n (and_then o p) (λ i. new_place p (new_place o i)) undo_then then_size
      (λ k h. rw (then_old k h) (O.below (old_place p k) (P.below k h)))

  pub then_new : (i : ℕ) → i < n → new_place (and_then o p) i ≡ new_place p (new_place o i)
  then_new = back_new n (and_then o p) (λ i. new_place p (new_place o i)) undo_then then_order
