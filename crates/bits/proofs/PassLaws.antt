-- The places below a bound that pass a test: the rising list of them is as long as they count; and a test that holds at each holds over all.
-- Assumes nothing.
use mathlib.Core.Path.{◌≡◌, refl, ap, ◌∙◌}
use mathlib.Core.Logic.{◌↔◌, ⊎_elim}
use mathlib.Core.Bool.{Bool, true, false}
use mathlib.Core.List.Memᴰ
use mathlib.Core.List.{List, [], ◌∷◌, ◌++◌, Memᴰ}
use Prim.Native.Nat.{ℕ, zero, suc, ◌+◌, ◌≤◌, ◌<◌}
use native.Mathlib.Omega.{arith}
use lib.ListN.{length, length-append}
use Rattle.bits.specs.Tests.{all, up_from, count}
use Rattle.bits.proofs.TestLaws.{decided, clash, and_both, equal}
use Rattle.bits.proofs.RisingLaws.{Rising, rising_snoc}

-- a test that holds at each of a run of numbers holds over the run
pub up_all : (test : ℕ → Bool) (k n : ℕ) → ((j : ℕ) → k ≤ j → j < k + n → test j ≡ true) → all test (up_from k n) ≡ true
unfolding all up_from
up_all test k zero e = refl
up_all test k (suc n) e =
    and_both (test k) (all test (up_from (suc k) n)) (e k (omega arith) (omega arith)) (up_all test (suc k) n (λ j low high. e j (omega arith) (omega arith)))

-- ---- those that pass, listed

-- the places below n that pass, in a rising list
pub record Passing (test : ℕ → Bool) (n : ℕ) : Type 0 where
  pub listed : List ℕ
  pub size : length listed ≡ count test n
  pub rising : Rising listed
  pub exact : (j : ℕ) → Memᴰ j listed ↔ ((j < n) × (test j ≡ true))

module _ {test : ℕ → Bool} {n : ℕ} (p : Passing test n) where
  -- the next place passes
  pass_more : test n ≡ true → Passing test (suc n)
  unfolding count
  pass_more e =
      let l = p.listed in
      let last = n ∷ [] in
      record {
        listed = l ++ last;
        size = rw (e, count) (omega (arith, length-append l last, p.size));
        rising = rising_snoc l n p.rising (λ j m. ((p.exact j).0 m).0);
        exact = λ j. (
          λ m.
              ⊎_elim (λ old. (omega (arith, ((p.exact j).0 old).0), ((p.exact j).0 old).1))
              (λ new. let same : j ≡ n = Memᴰ.eq_of_singleton new in (omega arith, ap test same ∙ e))
              (Memᴰ.append_cases l m),
          λ h.
              ⊎_elim (λ (same : j ≡ n). Memᴰ.append_right l (Memᴰ.head same))
              (λ low. Memᴰ.append_left last ((p.exact j).1 (low, h.1)))
              (equal j n (omega (arith, h.0))),
        );
      }

  -- it does not
  pass_same : test n ≡ false → Passing test (suc n)
  unfolding count
  pass_same e = record {
    listed = p.listed;
    size = rw (e, count) p.size;
    rising = p.rising;
    exact = λ j. (
      λ m. (omega (arith, ((p.exact j).0 m).0), ((p.exact j).0 m).1),
      λ h.
          ⊎_elim (λ (same : j ≡ n). clash h.1 (ap test same ∙ e)) (λ low. (p.exact j).1 (low, h.1))
          (equal j n (omega (arith, h.0))),
    );
  }

pub passing : (test : ℕ → Bool) (n : ℕ) → Passing test n
unfolding count
passing test zero = record {
  listed = [];
  size = refl;
  rising = λ i j h inside. absurd (omega arith);
  exact = λ j. (λ m. absurd (Memᴰ.not-nil m), λ h. absurd (omega (arith, h.0)));
}
passing test (suc n) = ⊎_elim (pass_more (passing test n)) (pass_same (passing test n)) (decided (test n))
