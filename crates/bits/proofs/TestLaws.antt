-- Laws of tests, of lists under a test, and of the lowest place that passes one.
-- Assumes nothing.
use mathlib.Core.Path.{◌≡◌, refl, sym, ap, ◌∙◌}
use mathlib.Core.Logic.{◌⊎◌, inl, inr, ⊎_elim}
use mathlib.Core.Bool.{Bool, true, false, ◌&&◌, ◌||◌, true≢false, false≢true}
use mathlib.Core.List.{List, [], ◌∷◌}
use Rattle.std.specs.Prelude.{Option, None, Some}
use Prim.Native.Nat.{ℕ, zero, suc, ◌+◌, ◌≤◌, ◌<◌}
use native.Mathlib.Nat.{le_of_suc-le-suc, eq-or-lt_of_le}
use native.Mathlib.Omega.{arith}
use lib.Dec.{eqb, ltb}
use lib.ListN.{length, get_or}
use borrow.Author.Tests.{eqb-true, eq-eqb, ltb-true, ltb-false}
use Rattle.bits.specs.Tests.{any, all, up_from, lowest, count}

-- ---- one test

pub decided : (b : Bool) → (b ≡ true) ⊎ (b ≡ false)
decided true = inl refl
decided false = inr refl

pub clash {ℓ} : {A : Type ℓ} {b : Bool} → b ≡ true → b ≡ false → A
clash p q = absurd (true≢false (sym p ∙ q))

-- two tests that pass together are the same
pub same_test : (a b : Bool) → (a ≡ true → b ≡ true) → (b ≡ true → a ≡ true) → a ≡ b
same_test a true f g = g refl
same_test true false f g = sym (f refl)
same_test false false f g = refl

pub same_eqb : (a b c d : ℕ) → (a ≡ b → c ≡ d) → (c ≡ d → a ≡ b) → eqb a b ≡ eqb c d
same_eqb a b c d f g =
    same_test (eqb a b) (eqb c d) (λ e. eq-eqb c d (f (eqb-true a b e))) (λ e. eq-eqb a b (g (eqb-true c d e)))

pub and_trues : (a b : Bool) → (a && b) ≡ true → (a ≡ true) × (b ≡ true)
and_trues true b h = (refl, h)
and_trues false b h = absurd (false≢true h)

pub and_both : (a b : Bool) → a ≡ true → b ≡ true → (a && b) ≡ true
and_both true b p q = q
and_both false b p q = absurd (false≢true p)

pub or_falses : (a b : Bool) → (a || b) ≡ false → (a ≡ false) × (b ≡ false)
or_falses true b h = absurd (true≢false h)
or_falses false b h = (refl, h)

pub or_trues : (a b : Bool) → (a || b) ≡ true → (a ≡ true) ⊎ (b ≡ true)
or_trues true b h = inl refl
or_trues false b h = inr h

pub less : (a b : ℕ) → (a < b) ⊎ (b ≤ a)
less a b = ⊎_elim (λ e. inl (ltb-true a b e)) (λ e. inr (ltb-false a b e)) (decided (ltb a b))

pub equal : (a b : ℕ) → a ≤ b → (a ≡ b) ⊎ (a < b)
equal a b l = eq-or-lt_of_le l

pub refuted : (b : Bool) → (b ≡ true → ⊥) → b ≡ false
refuted true no_way = absurd (no_way refl)
refuted false no_way = refl

pub three : (a b : ℕ) → (a < b) ⊎ (a ≡ b) ⊎ (b < a)
three a b = ⊎_elim (λ h. inl h) (λ h. inr (⊎_elim (λ (e : b ≡ a). inl (sym e)) (λ g. inr g) (equal b a h))) (less a b)

-- what holds of 0 and 1 holds of a bit, and each way of two
on_bit : (P : ℕ → Type 0) → P 0 → P 1 → (a : ℕ) → a < 2 → P a
on_bit P p q zero h = p
on_bit P p q (suc zero) h = q
on_bit P p q (suc (suc a)) h = absurd (omega arith)

pub on_bits : (P : ℕ → ℕ → Type 0) → P 0 0 → P 0 1 → P 1 0 → P 1 1 → (a b : ℕ) → a < 2 → b < 2 → P a b
on_bits P p q r s a b ha hb = on_bit (λ (x : ℕ). P x b) (on_bit (P 0) p q b hb) (on_bit (P 1) r s b hb) a ha

-- where no element passes, none passes at a place
pub none_at : {A : Type 0} (test : A → Bool) (l : List A) (d : A) (k : ℕ) → any test l ≡ false → k < length l → test (get_or l k d) ≡ false
unfolding any
none_at test [] d k e h = absurd (omega arith)
none_at test (x ∷ l) d zero e h = (or_falses (test x) (any test l) e).0
none_at test (x ∷ l) d (suc k) e h = none_at test l d k (or_falses (test x) (any test l) e).1 (le_of_suc-le-suc h)

-- where every element passes, one passes at each place
pub all_at : {A : Type 0} (test : A → Bool) (l : List A) (d : A) (k : ℕ) → all test l ≡ true → k < length l → test (get_or l k d) ≡ true
unfolding all
all_at test [] d k e h = absurd (omega arith)
all_at test (x ∷ l) d zero e h = (and_trues (test x) (all test l) e).0
all_at test (x ∷ l) d (suc k) e h = all_at test l d k (and_trues (test x) (all test l) e).1 (le_of_suc-le-suc h)

-- ---- the lowest place that passes

module _ (test : ℕ → Bool) where
  -- p is below n and passes, and no lower place does
  pub record Lowest (n p : ℕ) : Type 0 where
    pub below : p < n
    pub passes : test p ≡ true
    pub first : (j : ℕ) → j < p → test j ≡ false

  abbrev pub Never : ℕ → Type 0
  Never n = (j : ℕ) → j < n → test j ≡ false

  -- what `lowest` answered, as a fact
  abbrev pub Told : ℕ → Option ℕ → Type 0
  Told n None = Never n
  Told n (Some p) = Lowest n p

  never_more : (n : ℕ) → Never n → test n ≡ false → Never (suc n)
  never_more n all here j l = ⊎_elim (λ (e : j ≡ n). rw e here) (λ h. all j h) (equal j n (omega arith))

  pub lowest_told : (n : ℕ) → Told n (lowest test n)
  unfolding lowest
  lowest_told zero = λ j l. absurd (omega arith)
  lowest_told (suc n) = step (lowest test n) (lowest_told n) (test n) refl
    where
      step : (o : Option ℕ) → Told n o → (b : Bool) → test n ≡ b
          → Told (suc n) (elim o [ Some p ↦ Some p | None ↦ elim b [ true ↦ Some n | false ↦ None ] ])
      step (Some p) t b e = record { below = omega arith; passes = t.passes; first = t.first }
      step None t true e = record { below = omega arith; passes = e; first = t }
      step None t false e = never_more n t e

  -- the other way round: the facts fix the answer
  pub lowest_none : (n : ℕ) → Never n → lowest test n ≡ None
  lowest_none n all = go (lowest test n) (lowest_told n)
    where
      go : (o : Option ℕ) → Told n o → o ≡ None
      go None t = refl
      go (Some p) t = clash t.passes (all p t.below)

  pub lowest_some : (n p : ℕ) → Lowest n p → lowest test n ≡ Some p
  lowest_some n p is = go (lowest test n) (lowest_told n)
    where
      go : (o : Option ℕ) → Told n o → o ≡ Some p
      go None t = clash is.passes (t p is.below)
      go (Some q) t =
          ⊎_elim (λ (h : q < p). clash t.passes (is.first q h))
          (λ (h : p ≤ q). ⊎_elim (λ (e : p ≡ q). ap Some (sym e)) (λ (g : p < q). clash is.passes (t.first p g)) (equal p q h))
          (less q p)

  -- ---- how many pass

  pub count_le : (n : ℕ) → count test n ≤ n
  unfolding count
  count_le zero = omega arith
  count_le (suc n) = step (test n) (count test n) (count_le n)
    where
      step : (b : Bool) (c : ℕ) → c ≤ n → (elim b as (λ _. ℕ) [ true ↦ suc c | false ↦ c ]) ≤ suc n
      step true c h = omega arith
      step false c h = omega arith

-- two tests that agree below n have their lowest place together
pub lowest_agree : (t u : ℕ → Bool) (n : ℕ) → ((j : ℕ) → j < n → t j ≡ u j) → lowest t n ≡ lowest u n
lowest_agree t u n e = go (lowest t n) (lowest_told t n)
  where
    go : (o : Option ℕ) → Told t n o → o ≡ lowest u n
    go None never = sym (lowest_none u n (λ j h. sym (e j h) ∙ never j h))
    go (Some p) is =
        sym (lowest_some u n p (record {
          below = is.below;
          passes = sym (e p is.below) ∙ is.passes;
          first = λ j h. sym (e j (omega (arith, is.below))) ∙ is.first j h;
        }))

-- ---- a test that holds over a run of numbers holds at each

pub all_up : (test : ℕ → Bool) (k n : ℕ) → all test (up_from k n) ≡ true → (j : ℕ) → k ≤ j → j < k + n → test j ≡ true
unfolding all up_from
all_up test k zero e j low high = absurd (omega arith)
all_up test k (suc n) e j low high =
    let b = and_trues (test k) (all test (up_from (suc k) n)) e in
    ⊎_elim (λ (q : k ≡ j). rw (← q) b.0) (λ (q : k < j). all_up test (suc k) n b.1 j q (omega arith)) (equal k j low)
