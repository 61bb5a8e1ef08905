-- An order checked in one pass: a table notes the place of each entry under the entry, 256 where there is none yet. A number that is
-- noted twice stands in the order twice; and where every entry is noted, the table is the way back.
-- Assumes nothing.
use mathlib.Core.Path.{◌≡◌, sym, ap, ◌∙◌}
use mathlib.Core.Logic.{⊎_elim}
use mathlib.Core.Bool.{false}
use mathlib.Core.List.{List}
use Prim.Native.Nat.{ℕ, ◌+◌, ◌≤◌, ◌<◌}
use native.Mathlib.Omega.{arith}
use lib.Dec.{eqb}
use lib.ListN.{length, get_or, set, replicate, length-set, length-replicate, get_or-replicate}
use lib.Seq.{get_or-set_same, get_or-set_other}
use borrow.Author.Tests.{eqb-true, eqb-false}
use Rattle.bits.proofs.TestLaws.{decided, equal}
use Rattle.overlap.specs.Order.{is_order, old_place}
use Rattle.overlap.specs.Steps.{Inverts}
use Rattle.overlap.proofs.OrderLaws.{order_twice, back_order, back_new}

-- the table after the first k entries of an order of n places
pub record Noted (n : ℕ) (order : List ℕ) (k : ℕ) (places : List ℕ) : Type 0 where
  pub size : length places ≡ 256
  pub small : (j : ℕ) → j < k → old_place order j < n
  pub held : (j : ℕ) → j < k → get_or places (old_place order j) 0 ≡ j
  pub seen : (i : ℕ) → i < n → (get_or places i 0 ≡ 256 → ⊥) → (get_or places i 0 < k) × (old_place order (get_or places i 0) ≡ i)

module _ (n : ℕ) (order : List ℕ) (few : n ≤ 256) where
  pub noted_none : Noted n order 0 (replicate 256 256)
  noted_none = record {
    size = length-replicate {A = ℕ} 256 256;
    small = λ j h. absurd (omega arith);
    held = λ j h. absurd (omega arith);
    seen = λ i h new. absurd (new (get_or-replicate 256 i 256 0 (omega arith)));
  }

  module _ (k : ℕ) (inside : k < n) (places : List ℕ) (noted : Noted n order k places) (x : ℕ) (next : x ≡ old_place order k) (small : x < n) where
    after : List ℕ
    after = set places x k

    here : get_or after x 0 ≡ k
    unfolding after
    here = get_or-set_same places x k 0 (omega (arith, noted.size))

    elsewhere : (i : ℕ) → (i ≡ x → ⊥) → get_or after i 0 ≡ get_or places i 0
    unfolding after
    elsewhere i apart = get_or-set_other places x i k 0 apart

    module _ (new : get_or places x 0 ≡ 256) where
      -- no earlier entry is this one
      first : (j : ℕ) → j < k → old_place order j ≡ x → ⊥
      first j h e = omega (arith, noted.held j h, ap (λ (i : ℕ). get_or places i 0) e)

      held : (j : ℕ) → j < k + 1 → get_or after (old_place order j) 0 ≡ j
      held j h =
          ⊎_elim
          (λ (e : j ≡ k). ap (λ (m : ℕ). get_or after m 0) (ap (old_place order) e ∙ sym next) ∙ here ∙ sym e)
          (λ l. elsewhere (old_place order j) (first j l) ∙ noted.held j l)
          (equal j k (omega arith))

      seen : (i : ℕ) → i < n → (get_or after i 0 ≡ 256 → ⊥) → (get_or after i 0 < k + 1) × (old_place order (get_or after i 0) ≡ i)
      seen i h old =
          ⊎_elim
          (λ e.
          let q = eqb-true i x e in
          let p : get_or after i 0 ≡ k = ap (λ (m : ℕ). get_or after m 0) q ∙ here in
          (omega arith, ap (old_place order) p ∙ sym (q ∙ next)))
          (λ e.
          let p = elsewhere i (eqb-false i x e) in
          let s = noted.seen i h (λ z. old (p ∙ z)) in
          (omega arith, ap (old_place order) p ∙ s.1))
          (decided (eqb i x))

      pub noted_more : Noted n order (k + 1) (set places x k)
      unfolding after
      noted_more = record {
        size = length-set places x k ∙ noted.size;
        small = λ j h. ⊎_elim (λ (e : j ≡ k). omega (arith, ap (old_place order) e, next)) (λ l. noted.small j l) (equal j k (omega arith));
        held = held;
        seen = seen;
      }

    pub noted_twice : length order ≡ n → (get_or places x 0 ≡ 256 → ⊥) → is_order n order ≡ false
    noted_twice size old =
        let s = noted.seen x small old in
        order_twice n order (get_or places x 0) k s.0 (omega arith) (s.1 ∙ next)

-- ---- what the check answers

pub inverts_all : (n : ℕ) (order places : List ℕ) → length order ≡ n → Noted n order n places → Inverts n order places
inverts_all n order places size noted =
    let e = back_order n order (λ i. get_or places i 0) noted.held size noted.small in
    record { valid = e; new = λ i h. sym (back_new n order (λ i. get_or places i 0) noted.held e i h) }
