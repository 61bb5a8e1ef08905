-- The list of pairs: exactly the pairs of places whose rules share a header while neither covers the other, each once, in order.
-- Assumes nothing.
use mathlib.Core.Path.{◌≡◌, ap}
use mathlib.Core.Logic.{◌↔◌}
use mathlib.Core.Bool.{Bool, true, false, not, ◌&&◌}
use mathlib.Core.List.{List, Memᴰ}
use Prim.Native.Nat.{ℕ}
use lib.ListN.{length}
use borrow.Author.Tests.{not-true}
use Rattle.bits.proofs.TestLaws.{and_trues, and_both}
use Rattle.rules.specs.Rule.{Rule}
use Rattle.rules.specs.Match.{matches, rule_at}
use Rattle.rules.specs.Overlap.{share, covers}
use Rattle.rules.proofs.OverlapLaws.{share_exact}
use Rattle.overlap.specs.Pairs.{Pair, triangle, keep, listed, on_pair, pairs_of}
use Rattle.overlap.proofs.SortedLaws.{Sorted}
use Rattle.overlap.proofs.TriangleLaws.{Within, triangle_exact, triangle_sorted}
use Rattle.overlap.proofs.KeepLaws.{keep_exact, keep_sorted}

-- ---- the pairs of a table that pass any test

module _ (test : Rule → Rule → Bool) (rules : List Rule) where
  pub tested_exact : (p : Pair) → Memᴰ p (keep (on_pair test rules) (triangle 0 (length rules))) ↔ (Within (length rules) p × (on_pair test rules p ≡ true))
  tested_exact p =
      let k = keep_exact (on_pair test rules) p (triangle 0 (length rules)) in
      let t = triangle_exact (length rules) p in
      (λ m. (t.0 (k.0 m).0, (k.0 m).1), λ h. k.1 (t.1 h.0, h.1))

  pub tested_sorted : Sorted (keep (on_pair test rules) (triangle 0 (length rules)))
  tested_sorted = keep_sorted (on_pair test rules) (triangle 0 (length rules)) (triangle_sorted 0 (length rules))

-- ---- two rules that make a listed pair

-- some header matches both, and neither covers the other
pub record Crosses (a b : Rule) : Type 0 where
  pub shares : (h : List ℕ) × (matches h a ≡ true) × (matches h b ≡ true)
  pub not_over : covers a b ≡ false
  pub not_under : covers b a ≡ false

pub listed_exact : (a b : Rule) → (listed a b ≡ true) ↔ Crosses a b
unfolding listed
listed_exact a b = (
  λ e.
      let x = and_trues (share a b) (not (covers a b) && not (covers b a)) e in
      let y = and_trues (not (covers a b)) (not (covers b a)) x.1 in
      record { shares = (share_exact a b).0 x.0; not_over = not-true (covers a b) y.0; not_under = not-true (covers b a) y.1 },
  λ c.
      and_both (share a b) (not (covers a b) && not (covers b a))
      ((share_exact a b).1 c.shares)
      (and_both (not (covers a b)) (not (covers b a)) (ap not c.not_over) (ap not c.not_under)),
)

-- ---- the list

pub record Listed (rules : List Rule) (p : Pair) : Type 0 where
  pub within : Within (length rules) p
  pub cross : Crosses (rule_at rules p.lower) (rule_at rules p.higher)

module _ (rules : List Rule) where
  pub pairs_exact : (p : Pair) → Memᴰ p (pairs_of rules) ↔ Listed rules p
  unfolding pairs_of on_pair
  pairs_exact p =
      let t = tested_exact listed rules p in
      let l = listed_exact (rule_at rules p.lower) (rule_at rules p.higher) in
      (λ m. record { within = (t.0 m).0; cross = l.0 (t.0 m).1 }, λ h. t.1 (h.within, l.1 h.cross))

  pub pairs_sorted : Sorted (pairs_of rules)
  unfolding pairs_of
  pairs_sorted = tested_sorted listed rules
