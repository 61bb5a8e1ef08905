-- What growing leaves is a forest: a child's number is above its record's and below the count, and no two records have one child.
-- Assumes nothing.
use mathlib.Core.Path.{◌≡◌, sym, ap, subst, ◌∙◌}
use mathlib.Core.Logic.{⊎_elim}
use mathlib.Core.Bool.{Bool}
use mathlib.Core.List.{List}
use Prim.Native.Nat.{ℕ, ◌*◌, ◌≤◌, ◌<◌}
use native.Mathlib.Omega.{arith}
use lib.ListN.{length, get_or}
use Rattle.bits.specs.Word.{digit}
use Rattle.bits.proofs.TestLaws.{decided, less}
use Rattle.bits.proofs.DigitLaws.{digit_some}
use Rattle.rules.specs.Rule.{Rule}
use Rattle.area.specs.Shape.{record_words}
use Rattle.area.specs.Hand.{child_word}
use Rattle.area.proofs.HandLaws.{Forest}
use Rattle.index.specs.Key.{Key, has_record}
use Rattle.index.specs.Keys.{keys}
use Rattle.index.specs.Image.{child}
use Rattle.index.proofs.KeyLaws.{no_key, further, further_same, Stands, stands_here, stands_same, place_in, place_out}
use Rattle.index.proofs.OrderLaws.{keys_once, keys_parented}
use Rattle.index.proofs.MarkLaws.{Mark}
use Rattle.index.proofs.Recorded.{Recorded}

-- the key of record i in the index of some rules
abbrev pub key_of : List Rule → ℕ → Key
key_of rules i = get_or (keys 5 rules) i no_key

module _ (n : ℕ) (rules : List Rule) (marks : List Mark) (a₀ a : List ℕ) (recorded : Recorded n a₀ (keys 5 rules) marks a)
    (room : record_words * length (keys 5 rules) ≤ length a₀) where
  abbrev ks : List Key
  ks = keys 5 rules

  abbrev count : ℕ
  count = length ks

  abbrev key : ℕ → Key
  key = key_of rules

  child_stands : (k : Key) (b : Bool) → 0 < child ks k b → Stands ks (child ks k b) (further k b)
  unfolding child
  child_stands k b h =
      ⊎_elim (λ m. place_in (further k b) ks m) (λ m. absurd (omega (arith, place_out (further k b) 0 ks m))) (decided (has_record (further k b) ks))

  pub kid : (i : ℕ) → i < count → (b : Bool) → child_word a i (digit b) ≡ child ks (key i) b
  kid i h b = recorded.kids i (key i) b (stands_here ks i h)

  pub kid_stands : (i : ℕ) → i < count → (b : Bool) → 0 < child_word a i (digit b) → Stands ks (child_word a i (digit b)) (further (key i) b)
  kid_stands i h b l = rw (kid i h b) (child_stands (key i) b (rw (kid i h b) at l))

  pub below : (i b : ℕ) → i < count → b < 2 → child_word a i b < count
  below i b h hb = ⊎_elim (λ (z : child_word a i b < 1). omega arith) inside (less (child_word a i b) 1)
    where
      inside : 1 ≤ child_word a i b → child_word a i b < count
      inside l = let c = digit_some b hb in rw c.1 (kid_stands i h c.0 (rw c.1 at l)).inside

  up : (i b : ℕ) → i < count → b < 2 → 0 < child_word a i b → i < child_word a i b
  up i b h hb l =
      let c = digit_some b hb in
      let stands = kid_stands i h c.0 (rw c.1 at l) in
      let parent = keys_parented 5 rules (child_word a i (digit c.0)) (key i) c.0 stands in
      let same : i ≡ parent.0 = keys_once 5 rules i parent.0 (key i) (stands_here ks i h) parent.2 in
      rw c.1 (omega (arith, parent.1, same))

  one : (i b j d : ℕ) → i < count → b < 2 → j < count → d < 2 → 0 < child_word a i b → child_word a i b ≡ child_word a j d → (i ≡ j) × (b ≡ d)
  one i b j d hi hb hj hd l e =
      let c = digit_some b hb in
      let g = digit_some d hd in
      let here = kid_stands i hi c.0 (rw c.1 at l) in
      let there = kid_stands j hj g.0 (subst (λ (x : ℕ). 0 < child_word a j x) g.1 (subst (λ (x : ℕ). 0 < x) e l)) in
      let place : child_word a i (digit c.0) ≡ child_word a j (digit g.0) =
      ap (child_word a i) (sym c.1) ∙ e ∙ ap (child_word a j) g.1
      in
      let same = further_same (key i) (key j) c.0 g.0 (stands_same here (subst (λ (x : ℕ). Stands ks x (further (key j) g.0)) (sym place) there)) in
      let both : Stands ks j (key i) = subst (Stands ks j) (sym same.0) (stands_here ks j hj) in
      (keys_once 5 rules i j (key i) (stands_here ks i hi) both, c.1 ∙ ap digit same.1 ∙ sym g.1)

  pub forest : Forest a count
  forest = record {
    whole = omega (arith, room, recorded.long);
    below = below;
    up = up;
    one = one;
  }
