-- A pair of an accepted table is listed exactly when some header of 13 bytes fits both its rules and neither covers the other.
-- Assumes nothing.
use mathlib.Core.Path.{◌≡◌, refl, sym, ap, ap₂, subst, ◌∙◌}
use mathlib.Core.Logic.{◌↔◌}
use mathlib.Core.Bool.{true, false}
use mathlib.Core.List.{List, Memᴰ}
use Prim.Native.Nat.{ℕ, ◌<◌}
use native.Mathlib.Omega.{arith}
use Rattle.bits.specs.Number.{Bytes}
use Rattle.rules.specs.Header.{header_values}
use Rattle.rules.specs.Rule.{rule_of}
use Rattle.rules.specs.Match.{matches, rule_at}
use Rattle.rules.specs.Overlap.{share, covers}
use Rattle.rules.specs.Table.{rule_count, record_at, rules_of, Accepted}
use Rattle.rules.proofs.HeaderLaws.{Shared, shared_header}
use Rattle.rules.proofs.MatchLaws.{rules_size, rules_at, record_bytes}
use Rattle.rules.proofs.OverlapLaws.{share_exact}
use Rattle.overlap.specs.Pairs.{Pair, pairs_of}
use Rattle.overlap.proofs.TriangleLaws.{Within}
use Rattle.overlap.proofs.PairLaws.{Crosses, pairs_exact}
use Rattle.overlap.proofs.RecordLaws.{bytes_at}

pub record ByHeader (table : List ℕ) (p : Pair) : Type 0 where
  pub within : Within (rule_count table) p
  pub shared : Shared (record_at table p.lower) (record_at table p.higher)
  pub not_over : covers (rule_at (rules_of table) p.lower) (rule_at (rules_of table) p.higher) ≡ false
  pub not_under : covers (rule_at (rules_of table) p.higher) (rule_at (rules_of table) p.lower) ≡ false

module _ (table : List ℕ) (b : Bytes table) (ok : Accepted table) (p : Pair) where
  module _ (low : p.lower < rule_count table) (high : p.higher < rule_count table) where
    shared : Crosses (rule_at (rules_of table) p.lower) (rule_at (rules_of table) p.higher) → Shared (record_at table p.lower) (record_at table p.higher)
    shared c =
        let share_rules : share (rule_of (record_at table p.lower)) (rule_of (record_at table p.higher)) ≡ true =
        ap₂ share (sym (rules_at table p.lower low)) (sym (rules_at table p.higher high)) ∙ (share_exact (rule_at (rules_of table) p.lower) (rule_at (rules_of table) p.higher)).1 c.shares
        in
        shared_header (record_at table p.lower) (record_at table p.higher)
        (record_bytes table b p.lower) (record_bytes table b p.higher)
        (bytes_at table p.lower low (record_at table p.lower) refl ok) (bytes_at table p.higher high (record_at table p.higher) refl ok)
        share_rules

    matched : Shared (record_at table p.lower) (record_at table p.higher)
        → (h : List ℕ) × (matches h (rule_at (rules_of table) p.lower) ≡ true) × (matches h (rule_at (rules_of table) p.higher) ≡ true)
    matched s =
        let h = header_values s.header in
        (h, ap (matches h) (rules_at table p.lower low) ∙ s.first, ap (matches h) (rules_at table p.higher high) ∙ s.second)

  pub listed_header : Memᴰ p (pairs_of (rules_of table)) ↔ ByHeader table p
  listed_header = (
    λ m.
        let l = (pairs_exact (rules_of table) p).0 m in
        let inside : Within (rule_count table) p = subst (λ (n : ℕ). Within n p) (rules_size table) l.within in
        record {
          within = inside;
          shared = shared (omega (arith, inside.rises, inside.inside)) inside.inside l.cross;
          not_over = l.cross.not_over;
          not_under = l.cross.not_under;
        },
    λ d.
        (pairs_exact (rules_of table) p).1 (record {
          within = subst (λ (n : ℕ). Within n p) (sym (rules_size table)) d.within;
          cross = record {
            shares = matched (omega (arith, d.within.rises, d.within.inside)) d.within.inside d.shared;
            not_over = d.not_over;
            not_under = d.not_under;
          };
        }),
  )
