-- What the judgement says: a move is allowed exactly when any two rules that clash keep their order; and the pair that is named otherwise
-- is the first whose rules clash and do not.
-- Assumes nothing.
use mathlib.Core.Path.{◌≡◌, sym, ap, ◌∙◌}
use mathlib.Core.Logic.{◌↔◌, ⊎_elim}
use mathlib.Core.Bool.{true, false, not}
use mathlib.Core.List.{List}
use Rattle.std.specs.Prelude.{Some}
use Prim.Native.Nat.{ℕ, ◌≤◌, ◌<◌}
use native.Mathlib.Omega.{arith}
use lib.Dec.{ltb}
use lib.ListN.{length}
use borrow.Author.Tests.{ltb-true, lt-ltb, not-true}
use Rattle.bits.proofs.TestLaws.{decided, clash, and_trues, and_both, less, refuted}
use Rattle.rules.specs.Rule.{Rule}
use Rattle.rules.specs.Action.{same_action}
use Rattle.rules.specs.Match.{rule_at}
use Rattle.rules.specs.Overlap.{share}
use Rattle.rules.proofs.OverlapLaws.{share_swap}
use Rattle.overlap.specs.Pairs.{Pair, triangle, on_pair}
use Rattle.overlap.specs.Order.{new_place}
use Rattle.overlap.specs.Judge.{clashes, overtaken, crossing, Allowed}
use Rattle.rules.proofs.ActionLaws.{same_action_lem, action_same}
use Rattle.overlap.proofs.SortedLaws.{Before}
use Rattle.overlap.proofs.TriangleLaws.{Within, triangle_exact, triangle_sorted}
use Rattle.overlap.proofs.KeepLaws.{Earliest, FirstTold, first_told_lem, first_none, first_some}

-- ---- rules that clash

pub clash_exact : (a b : Rule) → (clashes a b ≡ true) ↔ ((share a b ≡ true) × (a.action ≡ b.action → ⊥))
unfolding clashes
clash_exact a b = (
  λ e.
      let x = and_trues (share a b) (not (same_action a.action b.action)) e in
      (x.0, λ q. clash (action_same a.action b.action q) (not-true (same_action a.action b.action) x.1)),
  λ h.
      and_both (share a b) (not (same_action a.action b.action)) h.0
      (ap not (refuted (same_action a.action b.action) (λ e. h.1 (same_action_lem a.action b.action e)))),
)

pub clash_swap : (a b : Rule) → clashes a b ≡ true → clashes b a ≡ true
clash_swap a b e =
    let x = (clash_exact a b).0 e in
    (clash_exact b a).1 (share_swap b a ∙ x.0, λ q. x.1 (sym q))

-- rules that share a header and do not clash have one action
pub peace_action : (a b : Rule) → share a b ≡ true → (clashes a b ≡ true → ⊥) → a.action ≡ b.action
peace_action a b s peace =
    ⊎_elim (same_action_lem a.action b.action)
    (λ e. absurd (peace ((clash_exact a b).1 (s, λ q. clash (action_same a.action b.action q) e))))
    (decided (same_action a.action b.action))

-- ---- one pair

module _ (rules : List Rule) (o : List ℕ) where
  -- where the rules of a pair clash, the pair keeps its order
  abbrev pub Keeps : Pair → Type 0
  Keeps p = clashes (rule_at rules p.lower) (rule_at rules p.higher) ≡ true → new_place o p.lower ≤ new_place o p.higher

  overtaken_exact : (p : Pair) → (overtaken rules o p ≡ true)
      ↔ ((new_place o p.higher < new_place o p.lower) × (clashes (rule_at rules p.lower) (rule_at rules p.higher) ≡ true))
  unfolding overtaken on_pair
  overtaken_exact p =
      let i = new_place o p.lower in
      let j = new_place o p.higher in (
        λ e. let x = and_trues (ltb j i) (on_pair clashes rules p) e in (ltb-true j i x.0, x.1),
        λ h. and_both (ltb j i) (on_pair clashes rules p) (lt-ltb j i h.0) h.1,
      )

  pub keeps_exact : (p : Pair) → (overtaken rules o p ≡ false) ↔ Keeps p
  keeps_exact p = (
    λ e c.
        ⊎_elim (λ h. clash ((overtaken_exact p).1 (h, c)) e) (λ h. h)
        (less (new_place o p.higher) (new_place o p.lower)),
    λ k. refuted (overtaken rules o p) (λ e. let x = (overtaken_exact p).0 e in omega (arith, k x.1)),
  )

  -- ---- the whole table

  -- any two rules that clash keep their order
  abbrev pub Kept : Type 0
  Kept = (p : Pair) → Within (length rules) p → Keeps p

  -- p is the first pair whose rules clash and change order
  pub record Crossed (p : Pair) : Type 0 where
    pub within : Within (length rules) p
    pub changes : new_place o p.higher < new_place o p.lower
    pub shares : share (rule_at rules p.lower) (rule_at rules p.higher) ≡ true
    pub differs : (rule_at rules p.lower).action ≡ (rule_at rules p.higher).action → ⊥
    pub first : (q : Pair) → Within (length rules) q → Before q p → Keeps q

  abbrev all : List Pair
  all = triangle 0 (length rules)

  told : FirstTold (overtaken rules o) all (crossing rules o)
  unfolding crossing
  told = first_told_lem (overtaken rules o) all (triangle_sorted 0 (length rules))

  pub allowed_exact : Allowed rules o ↔ Kept
  unfolding crossing
  allowed_exact = (
    λ e p w. let None-passes = rw e at told in (keeps_exact p).0 (None-passes p ((triangle_exact (length rules) p).1 w)),
    λ k.
        first_none (overtaken rules o) all (triangle_sorted 0 (length rules))
        (λ q m. (keeps_exact q).1 (k q ((triangle_exact (length rules) q).0 m))),
  )

  earliest_crossed : (p : Pair) → Earliest (overtaken rules o) all p → Crossed p
  earliest_crossed p t =
      let x = (overtaken_exact p).0 t.passes in
      let c = (clash_exact (rule_at rules p.lower) (rule_at rules p.higher)).0 x.1 in
      record {
        within = (triangle_exact (length rules) p).0 t.in_list;
        changes = x.0;
        shares = c.0;
        differs = c.1;
        first = λ q w b. (keeps_exact q).0 (t.first q ((triangle_exact (length rules) q).1 w) b);
      }

  crossed_earliest : (p : Pair) → Crossed p → Earliest (overtaken rules o) all p
  crossed_earliest p c = record {
    in_list = (triangle_exact (length rules) p).1 c.within;
    passes = (overtaken_exact p).1 (c.changes, (clash_exact (rule_at rules p.lower) (rule_at rules p.higher)).1 (c.shares, c.differs));
    first = λ q m b. (keeps_exact q).1 (c.first q ((triangle_exact (length rules) q).0 m) b);
  }

  pub crossing_exact : (p : Pair) → (crossing rules o ≡ Some p) ↔ Crossed p
  unfolding crossing
  crossing_exact p = (
    λ e. earliest_crossed p (rw e at told),
    λ c. first_some (overtaken rules o) all p (triangle_sorted 0 (length rules)) (crossed_earliest p c),
  )
