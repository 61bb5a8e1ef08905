-- What `find_map` finds over a range, said of the numbers in it.
-- Assumes nothing.
use mathlib.Core.Path.{◌≡◌, ap, subst, ◌∙◌}
use Prim.Native.Nat.{ℕ, ◌+◌, ◌-◌, ◌≤◌, ◌<◌}
use native.Mathlib.Omega.{arith}
use denote.Param.Members.{Mut}
use Rattle.std.specs.Prelude.{Option, None, Some, option_map, MatchOption, IfSome, IsSomeAnd, IsTrue}
use Rattle.std.specs.Fn.{Called}
use Rattle.std.specs.Iterator.Runs.{Run, SomeRun, AllItemsGive, IsFirstToGive}
use Rattle.std.specs.declared.ops.Range.{Range}
use Rattle.std.proofs.iter.Yields.{nat_range_steps}
use Rattle.std.proofs.iter.runs.Sources.{range_runs}
use Rattle.std.proofs.lemmas.Option.{none-some, same_Some}

module _ (P : ℕ → Type 0) where
  if_at : (o : Option ℕ) (n : ℕ) → option_map (λ y. y) o ≡ Some n → IfSome o P → P n
  if_at None n e h = absurd (none-some n e)
  if_at (Some x) n e h = subst P (same_Some x n e) h

  and_at : (o : Option ℕ) (n : ℕ) → option_map (λ y. y) o ≡ Some n → IsSomeAnd o P → P n
  and_at None n e h = absurd (none-some n e)
  and_at (Some x) n e h = subst P (same_Some x n e) h

module _ {F B : Type 0} (g : Mut F (ℕ × Unit {0}) (Option B)) (f : F) (s : Range ℕ) (Says : ℕ → Option B → Type 0) where
  -- the first of the calls that answers something, or that all answer nothing; `Says` is what a call's answer means
  abbrev pub FirstOf : Option B → Type 0
  FirstOf r = MatchOption r ((j : ℕ) → s.start ≤ j → j < s.end → Says j None)
      (λ y. (i : ℕ) × (s.start ≤ i) × (i < s.end) × Says i (Some y) × ((j : ℕ) → s.start ≤ j → j < i → Says j None))

  abbrev Ran : Option B → Run nat_range_steps → Type 0
  Ran r p = MatchOption r (IsTrue p.whole × AllItemsGive p g f None)
      (λ y. (i : ℕ) × (i < p.len) × (p.len ≡ i + 1) × IsFirstToGive p g f (Some y) None i)

  module _ (call : (x : ℕ) (r : Option B) (q : F) → Called g f (x, tt) r q → (q ≡ f) × Says x r) (p : Run nat_range_steps) (from : p.from ≡ s) where
    starts : p.from.start ≡ s.start
    starts = ap (λ (r : Range ℕ). r.start) from

    -- the item at place j - s.start is j
    item : (j : ℕ) → s.start ≤ j → j < s.start + p.len → option_map (λ y. y) (p.at (j - s.start)) ≡ Some j
    item j low high =
        let e : p.from.start + (j - s.start) ≡ j = omega (arith, starts) in
        (range_runs p p.seen).3 (j - s.start) (omega arith) ∙ ap Some e

    said : (r : Option B) → Ran r p → FirstOf r
    said None ran = λ j low high.
        let inside : j < s.start + p.len = omega (arith, (range_runs p p.seen).1 ran.0, starts, ap (λ (r : Range ℕ). r.end) from) in
        (call j None f (if_at (λ x. Called g f (x, tt) None f) (p.at (j - s.start)) j (item j low inside) (ran.1 (λ a r q e. (call a.0 r q e).0) (j - s.start)))).1
    said (Some y) ran =
        let h = ran.3 (λ a r q e. (call a.0 r q e).0) in
        let n = s.start + ran.0 in
        let z : n - s.start ≡ ran.0 = omega arith in (
          n,
          omega arith,
          omega (arith, ran.1, (range_runs p p.seen).0, starts, ap (λ (r : Range ℕ). r.end) from),
          (call n (Some y) f (and_at (λ x. Called g f (x, tt) (Some y) f) (p.at (n - s.start)) n (item n (omega arith) (omega (arith, ran.1))) (rw z h.0))).1,
          λ j low high.
              (call j None f (and_at (λ x. Called g f (x, tt) None f) (p.at (j - s.start)) j (item j low (omega (arith, ran.1))) (h.1 (j - s.start) (omega arith)))).1,
        )

  pub first_from_find_map : ((x : ℕ) (r : Option B) (q : F) → Called g f (x, tt) r q → (q ≡ f) × Says x r)
      → (r : Option B) → SomeRun nat_range_steps s (Ran r) → FirstOf r
  first_from_find_map call r h = said call h.0 h.1 r h.2
