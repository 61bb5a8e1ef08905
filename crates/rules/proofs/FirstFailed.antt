-- The test that a record fails first, over any list of tests: none exactly when it passes all of them, and one of them exactly when it fails
-- that one and passes those before it.
-- Assumes nothing.
use mathlib.Core.Path.{◌≡◌, refl}
use mathlib.Core.Logic.{◌↔◌}
use mathlib.Core.Bool.{Bool, true, false, not, cond, ◌&&◌}
use mathlib.Core.List.{List, [], ◌∷◌, ◌++◌}
use Prim.Native.Nat.{ℕ, ◌<◌}
use native.Mathlib.Omega.{arith}
use lib.Dec.{eqb, ltb}
use borrow.Author.Tests.{eqb-false, ltb-true, not-true}
use Rattle.bits.specs.Tests.{all}
use Rattle.bits.proofs.TestLaws.{and_trues}
use Rattle.rules.specs.Table.{Test, first_failed}

-- a record passes each of the tests
abbrev pub passes_all : List ℕ → List Test → Bool
passes_all bytes ts = all (λ (t : Test). not (t.fails bytes)) ts

pub none_failed : (ts : List Test) (bytes : List ℕ) → all (λ (t : Test). ltb 0 t.number) ts ≡ true → first_failed ts bytes ≡ 0 → passes_all bytes ts ≡ true
unfolding first_failed all
none_failed [] bytes positive e = refl
none_failed (t ∷ ts) bytes positive e =
    let above = and_trues (ltb 0 t.number) (all (λ (u : Test). ltb 0 u.number) ts) positive in
    go (t.fails bytes) e above.0 (λ q. none_failed ts bytes above.1 q)
  where
    go : (failed : Bool) → cond failed t.number (first_failed ts bytes) ≡ 0 → ltb 0 t.number ≡ true
        → (first_failed ts bytes ≡ 0 → passes_all bytes ts ≡ true) → (not failed && passes_all bytes ts) ≡ true
    go true q above more = absurd (omega (arith, ltb-true 0 t.number above))
    go false q above more = more q

-- ---- one of them

module _ (n : ℕ) (above : 0 < n) (bytes : List ℕ) where
  -- the tests have other numbers
  abbrev apart : List Test → Bool
  apart ts = all (λ (t : Test). not (eqb t.number n)) ts

  -- one step: a test of another number, and then the rest
  step : {A : Type 0} (t : Test) (rest : ℕ) → not (eqb t.number n) ≡ true → (failed : Bool) → cond failed t.number rest ≡ n → (failed ≡ false → rest ≡ n → A) → A
  step t rest other true q more = absurd (eqb-false t.number n (not-true (eqb t.number n) other) q)
  step t rest other false q more = more refl q

  never_failed : (ts : List Test) → apart ts ≡ true → first_failed ts bytes ≡ n → ⊥
  unfolding first_failed all
  never_failed [] others e = omega (arith, e)
  never_failed (t ∷ ts) others e =
      let b = and_trues (not (eqb t.number n)) (apart ts) others in
      step t (first_failed ts bytes) b.0 (t.fails bytes) e (λ p q. never_failed ts b.1 q)

  module _ (t : Test) (after : List Test) (named : t.number ≡ n) (others : apart after ≡ true) where
    failed_here : (failed : Bool) → cond failed t.number (first_failed after bytes) ≡ n → failed ≡ true
    failed_here true q = refl
    failed_here false q = absurd (never_failed after others q)

    passed_before : (before : List Test) → apart before ≡ true → first_failed (before ++ t ∷ after) bytes ≡ n → (passes_all bytes before ≡ true) × (t.fails bytes ≡ true)
    unfolding first_failed all
    passed_before [] earlier e = (refl, failed_here (t.fails bytes) e)
    passed_before (u ∷ before) earlier e =
        let b = and_trues (not (eqb u.number n)) (apart before) earlier in
        step u (first_failed (before ++ t ∷ after) bytes) b.0 (u.fails bytes) e
        (λ p q. let r = passed_before before b.1 q in (rw p r.0, r.1))

    fails_first : (before : List Test) → passes_all bytes before ≡ true → t.fails bytes ≡ true → first_failed (before ++ t ∷ after) bytes ≡ n
    unfolding first_failed all
    fails_first [] passed failed = rw failed named
    fails_first (u ∷ before) passed failed =
        let b = and_trues (not (u.fails bytes)) (passes_all bytes before) passed in
        rw (not-true (u.fails bytes) b.0) (fails_first before b.1 failed)

    pub first_failed_lem : (before : List Test) → apart before ≡ true
        → (first_failed (before ++ t ∷ after) bytes ≡ n) ↔ ((passes_all bytes before ≡ true) × (t.fails bytes ≡ true))
    first_failed_lem before earlier = (passed_before before earlier, λ h. fails_first before h.0 h.1)
