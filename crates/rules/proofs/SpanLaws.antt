-- The span of a prefix, over any width: a value lies in it exactly when the prefix is a leading part of the value,
-- and no value of it leaves the width.
-- Assumes nothing.
use mathlib.Core.Path.{◌≡◌, sym, ap, ◌∙◌}
use mathlib.Core.Bool.{true, false}
use Prim.Native.Nat.{ℕ, ◌+◌, ◌-◌, ◌*◌, ◌/◌, ◌%◌, ◌^◌, ◌≤◌, ◌<◌}
use native.Mathlib.Nat.{div-add-mod', mod-lt, div-lt_iff_lt-mul}
use native.Mathlib.Omega.{arith}
use lib.Dec.{leb, eqb}
use lib.Pow.{pow_pos, pow-add, shr_lt, high}
use borrow.Author.Tests.{leb-true, le-leb, eqb-true, eq-eqb, not-false}
use Rattle.bits.specs.Path.{bits, prefix, leads, stray}
use Rattle.bits.proofs.TestLaws.{same_test, and_trues, and_both}
use Rattle.bits.proofs.PathLaws.{leads_number, stray_number}
use Rattle.rules.specs.Rule.{Span, has, span_of}

-- ---- any span

pub has_ends : (s : Span) (x : ℕ) → has s x ≡ true → (s.low ≤ x) × (x ≤ s.high)
unfolding has
has_ends s x e =
    let b = and_trues (leb s.low x) (leb x s.high) e in
    (leb-true s.low x b.0, leb-true x s.high b.1)

pub in_span : (s : Span) (x : ℕ) → s.low ≤ x → x ≤ s.high → has s x ≡ true
unfolding has
in_span s x p q = and_both (leb s.low x) (leb x s.high) (le-leb s.low x p) (le-leb x s.high q)

-- a span that has a value has both its ends
pub ends_in : (s : Span) (x : ℕ) → has s x ≡ true → (has s s.low ≡ true) × (has s s.high ≡ true)
ends_in s x e =
    let h = has_ends s x e in
    (in_span s s.low (omega arith) (omega arith), in_span s s.high (omega arith) (omega arith))

-- ---- the span of a prefix

-- it has the prefix's own value
pub own_in : (w v l : ℕ) → has (span_of w v l) v ≡ true
unfolding span_of
own_in w v l = in_span (span_of w v l) v (omega arith) (omega arith)

-- no bit is set after the prefix, so that its value is a multiple of the span's size
no_rest : (w v l : ℕ) → l ≤ w → stray w v l ≡ false → v % 2 ^ (w - l) ≡ 0
no_rest w v l h clean = eqb-true (v % 2 ^ (w - l)) 0 (not-false (eqb (v % 2 ^ (w - l)) 0) (sym (stray_number w v l h) ∙ clean))

-- the span's values are those with the same quotient by its size
module _ (w v l x : ℕ) (h : l ≤ w) (clean : stray w v l ≡ false) where
  in_quotient : has (span_of w v l) x ≡ true → v / 2 ^ (w - l) ≡ x / 2 ^ (w - l)
  unfolding span_of
  in_quotient e =
      let k = w - l in
      let q = v / 2 ^ k in
      let ends = has_ends (span_of w v l) x e in
      let from : q * 2 ^ k + (x - v) ≡ x = omega (arith, no_rest w v l h clean, div-add-mod' v (2 ^ k)) in
      sym (high q k (omega (arith, pow_pos k))) ∙ ap (λ (n : ℕ). n / 2 ^ k) from

  quotient_in : v / 2 ^ (w - l) ≡ x / 2 ^ (w - l) → has (span_of w v l) x ≡ true
  unfolding span_of
  quotient_in e =
      let d = 2 ^ (w - l) in
      let from : v ≡ x / d * d = omega (arith, no_rest w v l h clean, div-add-mod' v d, ap (λ (n : ℕ). n * d) e) in
      in_span (span_of w v l) x (omega (arith, div-add-mod' x d)) (omega (arith, div-add-mod' x d, mod-lt x (pow_pos (w - l))))

pub has_leads : (w v l x : ℕ) → l ≤ w → v < 2 ^ w → x < 2 ^ w → stray w v l ≡ false → has (span_of w v l) x ≡ leads (prefix w v l) (bits w x)
has_leads w v l x h hv hx clean =
    let q = v / 2 ^ (w - l) in
    let r = x / 2 ^ (w - l) in
    same_test (has (span_of w v l) x) (eqb q r) (λ e. eq-eqb q r (in_quotient w v l x h clean e)) (λ e. quotient_in w v l x h clean (eqb-true q r e))
    ∙ sym (leads_number w l v x h hv hx)

pub has_within : (w v l x : ℕ) → l ≤ w → v < 2 ^ w → stray w v l ≡ false → has (span_of w v l) x ≡ true → x < 2 ^ w
has_within w v l x h hv clean e =
    let k = w - l in
    let all : l + (w - l) ≡ w = omega arith in
    let few : x / 2 ^ k < 2 ^ l = rw (← in_quotient w v l x h clean e) (shr_lt l k (rw all hv)) in
    rw (← pow-add 2 l k, all) at ((div-lt_iff_lt-mul (pow_pos k)).0 few)
