-- Handing on makes each vector whole: from the roots down, each record's vector is that of the rules whose path leads its own.
-- Assumes nothing.
use mathlib.Core.Path.{◌≡◌, sym, ap, ap₂, subst, ◌∙◌}
use mathlib.Core.Logic.{⊎_elim}
use mathlib.Core.Bool.{Bool}
use mathlib.Core.List.{List, []}
use Prim.Native.Nat.{ℕ, zero, suc, ◌*◌, ◌≤◌, ◌<◌}
use native.Mathlib.Omega.{arith}
use lib.Bits.{bit_or, or_comm}
use lib.ListN.{length, get_or}
use Rattle.bits.specs.Word.{digit}
use Rattle.bits.proofs.DigitLaws.{digit_small, digit_some}
use Rattle.rules.specs.Rule.{Rule}
use Rattle.area.specs.Shape.{blocks, desk_shape, record_words}
use Rattle.area.specs.Hand.{vector_word, child_word, handed}
use Rattle.area.proofs.HandLaws.{Forest, sweep_root, sweep_child}
use Rattle.index.specs.Key.{Key, at}
use Rattle.index.specs.Keys.{keys}
use Rattle.index.specs.Image.{child, vector}
use Rattle.index.proofs.KeyLaws.{further, further_root, root_or_further, Stands, stands_here, stands_same}
use Rattle.index.proofs.OrderLaws.{keys_once, place_of, keys_field, keys_parented}
use Rattle.index.proofs.VectorLaws.{own_vector, vector_root, vector_word_lem}
use Rattle.index.proofs.MarkLaws.{Mark, mark_words}
use Rattle.index.proofs.Recorded.{Recorded}
use Rattle.index.proofs.ForestLaws.{key_of, kid_stands, forest}

module _ (n : ℕ) (rules : List Rule) (marks : List Mark) (a₀ a : List ℕ) (recorded : Recorded n a₀ (keys 5 rules) marks a)
    (room : record_words * length (keys 5 rules) ≤ length a₀)
    (owned : (k : Key) → k.field < 5 → mark_words n marks k ≡ own_vector desk_shape rules k) where
  abbrev ks : List Key
  ks = keys 5 rules

  abbrev count : ℕ
  count = length ks

  abbrev key : ℕ → Key
  key = key_of rules

  trees : Forest a count
  trees = forest n rules marks a₀ a recorded room

  abbrev handed_area : List ℕ
  handed_area = handed count a

  -- a record's own words
  own : (i : ℕ) (k : Key) → Stands ks i k → (v : ℕ) → v < blocks → vector_word a i v ≡ get_or (own_vector desk_shape rules k) v 0
  own i k stands v h = recorded.words i k v stands h ∙ ap (λ (l : List ℕ). get_or l v 0) (owned k (keys_field 5 rules i k stands))

  root_vector : (i f : ℕ) → Stands ks i (at f []) → (v : ℕ) → v < blocks → vector_word handed_area i v ≡ get_or (vector desk_shape rules (at f [])) v 0
  root_vector i f stands v h =
      sweep_root a count trees i v h
      (λ m b hm hb l e.
      let c = digit_some b hb in
      let kid = kid_stands n rules marks a₀ a recorded room m hm c.0 (rw c.1 at l) in
      let here : i ≡ child_word a m (digit c.0) = e ∙ ap (child_word a m) c.1 in
      further_root (key m) c.0 f (stands_same kid (subst (λ (x : ℕ). Stands ks x (at f [])) here stands)))
      ∙ own i (at f []) stands v h
      ∙ ap (λ (l : List ℕ). get_or l v 0) (sym (vector_root desk_shape rules f))

  child_vector : (i j : ℕ) (k : Key) (b : Bool) → Stands ks i (further k b) → Stands ks j k → (v : ℕ) → v < blocks
      → vector_word handed_area j v ≡ get_or (vector desk_shape rules k) v 0 → vector_word handed_area i v ≡ get_or (vector desk_shape rules (further k b)) v 0
  unfolding child
  child_vector i j k b stands parent v h e =
      let place : child_word a j (digit b) ≡ i = recorded.kids j k b parent ∙ place_of ks (keys_once 5 rules) i (further k b) stands in
      let later = keys_parented 5 rules i k b stands in
      let pos : 0 < child_word a j (digit b) = omega (arith, place, later.1) in
      ap (λ (x : ℕ). vector_word handed_area x v) (sym place)
      ∙ sweep_child a count trees j (digit b) v parent.inside (digit_small b) h pos
      ∙ ap₂ bit_or (ap (λ (x : ℕ). vector_word a x v) place ∙ own i (further k b) stands v h) e
      ∙ or_comm (get_or (own_vector desk_shape rules (further k b)) v 0) (get_or (vector desk_shape rules k) v 0)
      ∙ sym (vector_word_lem desk_shape rules k b v h)

  -- from the roots down: a parent has a lower number
  vector_below : (m i : ℕ) → i < m → (k : Key) → Stands ks i k → (v : ℕ) → v < blocks → vector_word handed_area i v ≡ get_or (vector desk_shape rules k) v 0
  vector_below zero i h k stands v hv = absurd (omega arith)
  vector_below (suc m) i h k stands v hv =
      ⊎_elim
      (λ (e : k ≡ at k.field []).
      root_vector i k.field (subst (Stands ks i) e stands) v hv ∙ ap (λ (l : Key). get_or (vector desk_shape rules l) v 0) (sym e))
      (λ (s : (p : Key) × (b : Bool) × (k ≡ further p b)).
      let here = subst (Stands ks i) s.2 stands in
      let parent = keys_parented 5 rules i s.0 s.1 here in
      child_vector i parent.0 s.0 s.1 here parent.2 v hv (vector_below m parent.0 (omega (arith, parent.1)) s.0 parent.2 v hv)
      ∙ ap (λ (l : Key). get_or (vector desk_shape rules l) v 0) (sym s.2))
      (root_or_further k)

  pub whole_vector : (i : ℕ) → i < count → (v : ℕ) → v < blocks → vector_word handed_area i v ≡ get_or (vector desk_shape rules (key i)) v 0
  whole_vector i h = vector_below count i h (key i) (stands_here ks i h)
