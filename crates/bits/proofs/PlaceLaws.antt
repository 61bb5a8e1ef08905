-- Lists by their places: what a function makes of the places below n, and when two lists that are so made agree or differ at one place.
-- Assumes nothing.
use mathlib.Core.Path.{◌≡◌, sym, ap, ◌∙◌}
use mathlib.Core.Logic.{⊎_elim}
use mathlib.Core.List.{map}
use Prim.Native.Nat.{ℕ, ◌<◌}
use native.Mathlib.Nat.{zero-add}
use native.Mathlib.Omega.{arith}
use lib.ListN.{length, get_or, set, length-set, length-map}
use lib.Seq.{get_or-set_same, get_or-set_other, ext_get_or}
use Rattle.bits.specs.Tests.{up_from}
use Rattle.bits.proofs.ListLaws.{alike}
use Rattle.bits.proofs.EachLaws.{up_size, up_at, tabled, map_agree}

module _ {A : Type 0} where
  pub length_places : (f : ℕ → A) (n : ℕ) → length (map f (up_from 0 n)) ≡ n
  length_places f n = length-map (up_from 0 n) f ∙ up_size 0 n

  -- functions that agree at the places make the same list
  pub places_agree : (f g : ℕ → A) (n : ℕ) → ((k : ℕ) → k < n → f k ≡ g k) → map f (up_from 0 n) ≡ map g (up_from 0 n)
  places_agree f g n e =
      map_agree f g (up_from 0 n) 0
      (λ k h.
      let small : k < n = omega (arith, up_size 0 n) in
      let here : get_or (up_from 0 n) k 0 ≡ k = up_at 0 n k 0 small ∙ zero-add k in
      rw here (e k small))

  -- and those that agree at all places but one make lists that differ there
  pub places_set : (f g : ℕ → A) (n i : ℕ) → i < n → ((k : ℕ) → (k ≡ i → ⊥) → g k ≡ f k) → map g (up_from 0 n) ≡ set (map f (up_from 0 n)) i (g i)
  places_set f g n i h e =
      let old = map f (up_from 0 n) in
      let size = length_places f n in
      ext_get_or (g i) (map g (up_from 0 n)) (set old i (g i)) (length_places g n ∙ sym (length-set old i (g i) ∙ size))
      (λ k inside.
      let small : k < n = omega (arith, length_places g n) in
      tabled g n k (g i) small
      ∙ ⊎_elim
      (λ (here : k ≡ i). ap g here ∙ sym (ap (λ (x : ℕ). get_or (set old i (g i)) x (g i)) here ∙ get_or-set_same old i (g i) (g i) (omega (arith, size))))
      (λ (ne : k ≡ i → ⊥). e k ne ∙ sym (get_or-set_other old i k (g i) (g i) ne ∙ tabled f n k (g i) small))
      (alike k i))
