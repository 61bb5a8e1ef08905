-- An allowed move changes no header's action. The order left in place is allowed, an allowed move can be undone by one, and two in a row are
-- one.
-- Assumes nothing.
use mathlib.Core.Path.{◌≡◌, refl, sym, ap, ◌∙◌}
use mathlib.Core.Logic.{⊎_elim}
use mathlib.Core.Bool.{true}
use mathlib.Core.List.{List}
use Rattle.std.specs.Prelude.{Option, None, Some}
use Rattle.std.specs.Option.{option_map}
use Prim.Native.Nat.{ℕ, ◌<◌}
use native.Mathlib.Omega.{arith}
use lib.ListN.{length, length-map}
use lib.Seq.{ext_get_or}
use Rattle.bits.proofs.TestLaws.{clash, less, Told, three}
use Rattle.rules.specs.Rule.{Rule}
use Rattle.rules.specs.Match.{matches, no_rule, rule_at, first_match}
use Rattle.rules.proofs.OverlapLaws.{share_exact}
use Rattle.overlap.specs.Order.{is_order, old_place, new_place, moved, in_place, way_back, and_then}
use Rattle.overlap.specs.Judge.{clashes, Allowed, answer_of}
use Rattle.bits.proofs.EachLaws.{get_d_map, map_along}
use Rattle.rules.proofs.MatchLaws.{matches_at, First, match_told}
use Rattle.overlap.proofs.SortedLaws.{pair}
use Rattle.overlap.proofs.OrderLaws.{Order, order, new_apart}
use Rattle.overlap.proofs.MadeOrders.{place_size, place_old, place_order, place_new, way_order, way_new, then_back, then_order, then_new}
use Rattle.overlap.proofs.JudgeLaws.{clash_exact, clash_swap, peace_action, Kept, allowed_exact}

-- ---- the moved rules

module _ (rules : List Rule) (o : List ℕ) where
  pub moved_size : length (moved rules o) ≡ length o
  unfolding moved
  moved_size = length-map o (rule_at rules)

  pub moved_at : (k : ℕ) → k < length o → rule_at (moved rules o) k ≡ rule_at rules (old_place o k)
  unfolding moved
  moved_at k h = get_d_map (rule_at rules) o k no_rule 0 h

-- what stands at an old place stands at its new one
pub moved_new : (rules : List Rule) (o : List ℕ) → Order (length rules) o → (i : ℕ) → i < length rules → rule_at (moved rules o) (new_place o i) ≡ rule_at rules i
moved_new rules o O i h = moved_at rules o (new_place o i) (rw O.size (O.new_below i h)) ∙ ap (rule_at rules) (O.old_new i h)

-- ---- an allowed move changes no header's action

module _ (rules : List Rule) (o : List ℕ) (O : Order (length rules) o) (h : List ℕ) where
  -- a rule that matches at its old place does at its new one, and the other way round
  hit_new : (i : ℕ) → i < length rules → matches_at (moved rules o) h (new_place o i) ≡ matches_at rules h i
  hit_new i l = ap (matches h) (moved_new rules o O i l)

  hit_old : (k : ℕ) → k < length rules → matches_at (moved rules o) h k ≡ matches_at rules h (old_place o k)
  hit_old k l = ap (matches h) (moved_at rules o k (rw O.size l))

  below : (k : ℕ) → k < length (moved rules o) → k < length rules
  below k l = rw (moved_size rules o, O.size) at l

  module _ (kept : Kept rules o) where
    -- the first match in the old order and the first in the new do not clash: otherwise one of them were not the first
    first_peace : (i k : ℕ) → k < length rules → First rules h i → First (moved rules o) h k → clashes (rule_at rules i) (rule_at rules (old_place o k)) ≡ true → ⊥
    first_peace i k l L M c =
        let j = old_place o k in
        ⊎_elim
        (λ (g : i < j).
        let sooner = new_apart (length rules) o O i j g (O.below k l) (kept (pair i j) (record { rises = g; inside = O.below k l }) c) in
        clash (hit_new i L.below ∙ L.passes) (M.first (new_place o i) (omega (arith, O.new_old k l))))
        (⊎_elim
        (λ (e : i ≡ j). ((clash_exact (rule_at rules i) (rule_at rules j)).0 c).1 (ap (λ (x : ℕ). (rule_at rules x).action) e))
        (λ (g : j < i). clash (sym (hit_old k l) ∙ M.passes) (L.first j g)))
        (three i j)

    first_action : (i k : ℕ) → First rules h i → First (moved rules o) h k → (rule_at (moved rules o) k).action ≡ (rule_at rules i).action
    first_action i k L M =
        let j = old_place o k in
        let l = below k M.below in
        let both = (share_exact (rule_at rules i) (rule_at rules j)).1 (h, L.passes, sym (hit_old k l) ∙ M.passes) in
        ap (λ (r : Rule). r.action) (moved_at rules o k (rw O.size l))
        ∙ sym (peace_action (rule_at rules i) (rule_at rules j) both (first_peace i k l L M))

    kept_answer : answer_of (moved rules o) h ≡ answer_of rules h
    unfolding answer_of
    kept_answer = go (first_match rules h) (match_told rules h) (first_match (moved rules o) h) (match_told (moved rules o) h)
      where
        go : (a : Option ℕ) → Told (matches_at rules h) (length rules) a → (b : Option ℕ) → Told (matches_at (moved rules o) h) (length (moved rules o)) b
            → option_map (λ k. (rule_at (moved rules o) k).action) b ≡ option_map (λ i. (rule_at rules i).action) a
        go None N None M = refl
        go None N (Some k) M =
            let l = below k M.below in
            clash (sym (hit_old k l) ∙ M.passes) (N (old_place o k) (O.below k l))
        go (Some i) L None M = clash (hit_new i L.below ∙ L.passes) (M (new_place o i) (rw (moved_size rules o, O.size) (O.new_below i L.below)))
        go (Some i) L (Some k) M = ap Some (first_action i k L M)

pub move_same_answer : (rules : List Rule) (o : List ℕ) → is_order (length rules) o ≡ true → Allowed rules o
    → (h : List ℕ) → answer_of (moved rules o) h ≡ answer_of rules h
move_same_answer rules o e a h = kept_answer rules o (order (length rules) o e) h ((allowed_exact rules o).0 a)

-- ---- the order left in place

place_moved : (rules : List Rule) → moved rules (in_place (length rules)) ≡ rules
place_moved rules =
    let n = length rules in
    let z = moved_size rules (in_place n) ∙ place_size n in
    ext_get_or no_rule (moved rules (in_place n)) rules z
    (λ i h. let l : i < n = omega arith in moved_at rules (in_place n) i (rw (place_size n) l) ∙ ap (rule_at rules) (place_old n i l))

pub in_place_allowed : (rules : List Rule)
    → (is_order (length rules) (in_place (length rules)) ≡ true)
    × Allowed rules (in_place (length rules))
    × (moved rules (in_place (length rules)) ≡ rules)
in_place_allowed rules =
    let n = length rules in (
      place_order n,
      (allowed_exact rules (in_place n)).1
          (λ p w c. omega (arith, place_new n p.lower (omega arith), place_new n p.higher w.inside)),
      place_moved rules,
    )

-- ---- moves in a row

module _ (rules : List Rule) (o p : List ℕ) (O : Order (length rules) o) (P : Order (length rules) p) where
  then_moved : moved (moved rules o) p ≡ moved rules (and_then o p)
  unfolding moved and_then
  then_moved =
      map_along (rule_at rules) (rule_at (moved rules o)) (old_place o) (length o) p (moved_at rules o)
      (λ k l. rw O.size (P.below k (omega (arith, P.size))))

  -- two rules that clash keep their order under the first, and then under the second
  then_kept : Kept rules o → Kept (moved rules o) p → Kept rules (and_then o p)
  then_kept K L q w c =
      let n = length rules in
      let i = q.lower in
      let j = q.higher in
      let il : i < n = omega arith in
      let jl : j < n = w.inside in
      let sooner = new_apart n o O i j w.rises jl (K q w c) in
      rw (then_new n o p O P i il, then_new n o p O P j jl)
      (L (pair (new_place o i) (new_place o j))
      (record { rises = sooner; inside = rw (moved_size rules o, O.size) (O.new_below j jl) })
      (rw (moved_new rules o O i il, moved_new rules o O j jl) c))

module _ (rules : List Rule) (o : List ℕ) (O : Order (length rules) o) where
  -- two rules that clash, turned round by the way back, would have been turned round on the way there
  back_kept : Kept rules o → Kept (moved rules o) (way_back (length rules) o)
  back_kept K q w c =
      let n = length rules in
      let k = q.lower in
      let l = q.higher in
      let z = moved_size rules o ∙ O.size in
      let kn : k < n = omega arith in
      let ln : l < n = omega arith in
      let i = old_place o k in
      let j = old_place o l in
      let old = rw (moved_at rules o k (rw O.size kn), moved_at rules o l (rw O.size ln)) at c in
      rw (way_new n o O k kn, way_new n o O l ln)
      (⊎_elim
      (λ (g : j < i).
      let stays = K (pair j i) (record { rises = g; inside = O.below k kn }) (clash_swap (rule_at rules i) (rule_at rules j) old) in
      absurd (omega (arith, O.new_old k kn, O.new_old l ln)))
      (λ g. g)
      (less j i))

  back_moved : moved (moved rules o) (way_back (length rules) o) ≡ rules
  back_moved =
      let n = length rules in
      then_moved rules o (way_back n o) O (order n (way_back n o) (way_order n o O)) ∙ ap (moved rules) (then_back n o O) ∙ place_moved rules

pub compose : (rules : List Rule) (o p : List ℕ) → is_order (length rules) o ≡ true → Allowed rules o
    → is_order (length (moved rules o)) p ≡ true → Allowed (moved rules o) p
    → (is_order (length rules) (and_then o p) ≡ true)
    × Allowed rules (and_then o p)
    × (moved (moved rules o) p ≡ moved rules (and_then o p))
compose rules o p e a f b =
    let n = length rules in
    let O = order n o e in
    let P = order n p (rw (moved_size rules o ∙ O.size) at f) in (
      then_order n o p O P,
      (allowed_exact rules (and_then o p)).1 (then_kept rules o p O P ((allowed_exact rules o).0 a) ((allowed_exact (moved rules o) p).0 b)),
      then_moved rules o p O P,
    )

pub undo : (rules : List Rule) (o : List ℕ) → is_order (length rules) o ≡ true → Allowed rules o
    → (is_order (length (moved rules o)) (way_back (length rules) o) ≡ true)
    × Allowed (moved rules o) (way_back (length rules) o)
    × (moved (moved rules o) (way_back (length rules) o) ≡ rules)
undo rules o e a =
    let n = length rules in
    let O = order n o e in (
      rw (moved_size rules o ∙ O.size) (way_order n o O),
      (allowed_exact (moved rules o) (way_back n o)).1 (back_kept rules o O ((allowed_exact rules o).0 a)),
      back_moved rules o O,
    )
