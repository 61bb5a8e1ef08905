-- A growing walk along a path: after j steps it stands at the record of the path's first j bits, and at the end at the path's own.
-- Assumes nothing.
use mathlib.Core.Path.{◌≡◌, sym, ap, subst, ◌∙◌}
use mathlib.Core.Bool.{false}
use mathlib.Core.List.{List, [], ◌∷◌}
use Prim.Native.Nat.{ℕ, zero, suc, ◌*◌, ◌≤◌, ◌<◌}
use native.Mathlib.Nat.{le_refl}
use native.Mathlib.Omega.{arith}
use lib.ListN.{length, get_or, take, drop, take-append-drop}
use lib.Seq.{take-suc, take-length}
use Rattle.bits.specs.Path.{Path, bit_of}
use Rattle.bits.specs.Word.{digit}
use Rattle.area.specs.Shape.{record_words}
use Rattle.area.specs.Upto.{upto}
use Rattle.area.specs.Grow.{State, down, walked}
use Rattle.index.specs.Key.{Key, at}
use Rattle.index.specs.Keys.{grown, grow, steps_from, insert}
use Rattle.index.proofs.KeyLaws.{further}
use Rattle.index.proofs.GrownLaws.{grow_append, steps_append, grow_le}
use Rattle.index.proofs.MarkLaws.{Mark}
use Rattle.index.proofs.Recorded.{Walking}
use Rattle.index.proofs.GrowStep.{step_walking}

-- the records of a path's first j steps
abbrev pub along : List Key → ℕ → Path → ℕ → List Key
along ks f p j = grow ks (steps_from f [] (take j p))

along_more : (ks : List Key) (f : ℕ) (p : Path) (j : ℕ) → j < length p
    → along ks f p (suc j) ≡ grown (along ks f p j) (further (at f (take j p)) (get_or p j false))
unfolding grow steps_from
along_more ks f p j h =
    ap (λ (q : Path). grow ks (steps_from f [] q)) (take-suc p j false h)
    ∙ ap (grow ks) (steps_append f [] (take j p) (get_or p j false ∷ []))
    ∙ grow_append ks (steps_from f [] (take j p)) (steps_from f (take j p) (get_or p j false ∷ []))

-- no step takes a record back
along_le : (ks : List Key) (f : ℕ) (p : Path) (j : ℕ) → length (along ks f p j) ≤ length (insert ks (at f p))
unfolding insert
along_le ks f p j =
    let rest = steps_from f (take j p) (drop j p) in
    let all : insert ks (at f p) ≡ grow (along ks f p j) rest =
    ap (λ (q : Path). grow ks (steps_from f [] q)) (sym (take-append-drop j p))
    ∙ ap (grow ks) (steps_append f [] (take j p) (drop j p))
    ∙ grow_append ks (steps_from f [] (take j p)) rest
    in
    rw all (grow_le (along ks f p j) rest)

module _ (n : ℕ) (a₀ : List ℕ) (ks : List Key) (marks : List Mark) (f : ℕ) (w v : ℕ) (p : Path)
    (bit : (j : ℕ) → j < length p → bit_of w v j ≡ digit (get_or p j false))
    (s : State) (start : Walking n a₀ ks marks (at f []) s) (room : record_words * length (insert ks (at f p)) ≤ length a₀) where
  pub walk_walking : (j : ℕ) → j ≤ length p → Walking n a₀ (along ks f p j) marks (at f (take j p)) (walked w v j s)
  unfolding walked upto grow steps_from
  walk_walking zero h = start
  walk_walking (suc j) h =
      let so_far = walk_walking j (omega arith) in
      let more = along_more ks f p j h in
      let fits : record_words * length (grown (along ks f p j) (further (at f (take j p)) (get_or p j false))) ≤ length a₀ =
      omega (arith, room, along_le ks f p (suc j), ap length more)
      in
      let b = get_or p j false in
      let S = walked w v j s in
      let next = step_walking n a₀ (along ks f p j) marks (at f (take j p)) (get_or p j false) (walked w v j s) so_far fits in
      subst (λ (c : ℕ). Walking n a₀ (along ks f p (suc j)) marks (at f (take (suc j) p)) (down c S)) (sym (bit j h))
      (subst (λ (q : Path). Walking n a₀ (along ks f p (suc j)) marks (at f q) (down (digit b) S)) (sym (take-suc p j false h))
      (subst (λ (l : List Key). Walking n a₀ l marks (further (at f (take j p)) b) (down (digit b) S)) (sym more) next))

  -- at the path's end
  pub walked_end : Walking n a₀ (insert ks (at f p)) marks (at f p) (walked w v (length p) s)
  unfolding insert
  walked_end = subst (λ (q : Path). Walking n a₀ (grow ks (steps_from f [] q)) marks (at f q) (walked w v (length p) s)) (take-length p) (walk_walking (length p) (le_refl _))
