-- The tests of a rule by what they ask of its bytes, one by one; and which number and refusal a rule and a table get by them.
-- Assumes nothing.
use mathlib.Core.Path.{◌≡◌, refl, sym, ap, ◌∙◌}
use mathlib.Core.Logic.{◌↔◌, ◌⊎◌, inl, inr, ⊎_elim}
use mathlib.Core.Bool.{Bool, true, false, not, cond}
use mathlib.Core.List.{List, [], ◌∷◌}
use Rattle.std.specs.Prelude.{Option, None, Some}
use Prim.Native.Nat.{ℕ, ◌+◌, ◌-◌, ◌%◌, ◌≤◌, ◌<◌}
use native.Mathlib.Omega.{arith}
use lib.Dec.{eqb, ltb}
use lib.ListN.{length, get_or, take, drop, length-take, length-drop}
use lib.Seq.{get_or-take, get_or-drop}
use borrow.Author.Tests.{eqb-true, eqb-false, eq-eqb, ltb-false, le-ltb, not-true, not-false}
use Rattle.bits.specs.Path.{bits, stray}
use Rattle.bits.specs.Tests.{all, lowest}
use Rattle.bits.proofs.TestLaws.{and_trues, none_at, Told, lowest_told}
use Rattle.bits.proofs.EachLaws.{none_any}
use Rattle.bits.proofs.PathLaws.{length_bits}
use Rattle.rules.specs.declared.Refusal.{Refusal}
use Rattle.rules.specs.declared.Refusal.TheVariants.{RaggedTable, TooManyRules, LongPrefix, StrayBit, UnknownAction, SpareBytes, StrayPort}
use Rattle.rules.specs.declared.fields.Field.{Field}
use Rattle.rules.specs.Field.{fields, field_at, value_in, length_in}
use Rattle.rules.specs.Action.{action_in, is_unknown}
use Rattle.rules.specs.Refusal.{said}
use Rattle.rules.specs.Table.{record_size, most_rules, rule_count, record_at, long_prefix, stray_bit, unknown_action, spare_bytes, stray_port, test, rule_tests, first_failed, fault, rule_said, faulty, place_said, rules_said, verdict, Accepted}
use Rattle.rules.proofs.FieldLaws.{field_none}
use Rattle.rules.proofs.ActionLaws.{unknown}
use Rattle.rules.proofs.FirstFailed.{first_failed_lem}
use Rattle.rules.proofs.TableLaws.{Faultless, faulty_fault}

-- ---- 3, 4 and 6

pub long_exact : (bytes : List ℕ) → (long_prefix bytes ≡ false) ↔ ((f : ℕ) → f < 5 → length_in bytes (field_at f) ≤ (field_at f).width)
unfolding long_prefix
long_exact bytes =
    let test : Field → Bool = λ (g : Field). ltb g.width (length_in bytes g) in
    (λ e f h. ltb-false _ _ (field_none test f h e), λ fits. none_any test fields (field_at 5) (λ f h. le-ltb _ _ (fits f h)))

-- no bit after the prefix is set, over any width
stray_exact : (w v l : ℕ) → (stray w v l ≡ false) ↔ ((k : ℕ) → l ≤ k → k < w → get_or (bits w v) k false ≡ false)
unfolding stray
stray_exact w v l = (
  λ e k low high.
      let from : k ≡ l + (k - l) = omega arith in
      ap (λ (n : ℕ). get_or (bits w v) n false) from
      ∙ sym (get_or-drop l (bits w v) (k - l) false)
      ∙ none_at (λ b. b) (drop l (bits w v)) false (k - l) e (simp length-drop (omega (arith, length_bits w v))),
  λ zeros.
      none_any (λ b. b) (drop l (bits w v)) false
      (λ j h.
      let inside : j < length (bits w v) - l = rw length-drop at h in
      get_or-drop l (bits w v) j false ∙ zeros (l + j) (omega arith) (omega (arith, length_bits w v))),
)

pub rest_exact : (bytes : List ℕ) → (stray_bit bytes ≡ false)
    ↔ ((f k : ℕ) → f < 5 → length_in bytes (field_at f) ≤ k → k < (field_at f).width → get_or (bits (field_at f).width (value_in bytes (field_at f))) k false ≡ false)
unfolding stray_bit
rest_exact bytes =
    let test : Field → Bool = λ (g : Field). stray g.width (value_in bytes g) (length_in bytes g) in (
      λ e f k h. (stray_exact (field_at f).width (value_in bytes (field_at f)) (length_in bytes (field_at f))).0 (field_none test f h e) k,
      λ zeros.
          none_any test fields (field_at 5)
          (λ f h. (stray_exact (field_at f).width (value_in bytes (field_at f)) (length_in bytes (field_at f))).1 (λ k. zeros f k h)),
    )

pub spare_exact : (bytes : List ℕ) → length bytes ≡ record_size → (spare_bytes bytes ≡ false) ↔ ((k : ℕ) → 20 ≤ k → k < record_size → get_or bytes k 0 ≡ 0)
unfolding spare_bytes
spare_exact bytes whole =
    let test : ℕ → Bool = λ b. not (eqb b 0) in
    let part = take 4 (drop 20 bytes) in
    let size : length part ≡ 4 = rw (length-take, length-drop) (omega arith) in
    let at : (j : ℕ) → j < 4 → get_or part j 0 ≡ get_or bytes (20 + j) 0 = λ j h. get_or-take 4 (drop 20 bytes) j 0 h ∙ get_or-drop 20 bytes j 0 in (
      λ e k low high.
          let from : k ≡ 20 + (k - 20) = omega arith in
          ap (λ (n : ℕ). get_or bytes n 0) from
          ∙ sym (at (k - 20) (omega arith))
          ∙ eqb-true (get_or part (k - 20) 0) 0 (not-false (eqb (get_or part (k - 20) 0) 0) (none_at test part 0 (k - 20) e (omega (arith, size)))),
      λ zeros.
          none_any test part 0
          (λ j h.
          let small : j < 4 = omega (arith, size) in
          ap not (eq-eqb (get_or part j 0) 0 (at j small ∙ zeros (20 + j) (omega arith) (omega arith)))),
    )

-- ---- the number that a rule gets

pub faultless_fault : (bytes : List ℕ) → Faultless bytes → fault bytes ≡ 0
unfolding fault first_failed rule_tests
faultless_fault bytes f = rw (f.short, f.clean, f.known, f.spare, f.carried)

-- 5: the tests before it pass, and the action is not known
pub fifth_exact : (bytes : List ℕ) → (fault bytes ≡ 5) ↔ ((long_prefix bytes ≡ false) × (stray_bit bytes ≡ false) × (action_in bytes ≡ None))
unfolding fault rule_tests unknown_action is_unknown all
fifth_exact bytes =
    let exact =
    first_failed_lem 5 (omega arith) bytes (test 5 unknown_action) (test 6 spare_bytes ∷ test 14 stray_port ∷ []) refl refl (test 3 long_prefix ∷ test 4 stray_bit ∷ []) refl
    in (
      λ e.
          let x = exact.0 e in
          let a = and_trues _ _ x.0 in
          (not-true _ a.0, not-true _ (and_trues _ _ a.1).0, unknown (action_in bytes) x.1),
      λ t. exact.1 (rw (t.0, t.1), ap is_unknown t.2),
    )

-- 14: the tests before it pass, and a port is asked for without a protocol that has ports
pub fourteenth_exact : (bytes : List ℕ) → (fault bytes ≡ 14)
    ↔ ((long_prefix bytes ≡ false) × (stray_bit bytes ≡ false) × (unknown_action bytes ≡ false) × (spare_bytes bytes ≡ false) × (stray_port bytes ≡ true))
unfolding fault rule_tests all
fourteenth_exact bytes =
    let before = test 3 long_prefix ∷ test 4 stray_bit ∷ test 5 unknown_action ∷ test 6 spare_bytes ∷ [] in
    let exact = first_failed_lem 14 (omega arith) bytes (test 14 stray_port) [] refl refl before refl in (
      λ e.
          let x = exact.0 e in
          let a = and_trues _ _ x.0 in
          let b = and_trues _ _ a.1 in
          let d = and_trues _ _ b.1 in
          (not-true _ a.0, not-true _ b.0, not-true _ d.0, not-true _ (and_trues _ _ d.1).0, x.1),
      λ t. exact.1 (rw (t.0, t.1, t.2, t.3), t.4),
    )

-- ---- the refusal that a table gets

rule_refused : (bytes : List ℕ) (place : ℕ) → (fault bytes ≡ 0) ⊎ ((why : Refusal) × (said why ≡ fault bytes ∷ place ∷ []))
unfolding fault first_failed rule_tests said
rule_refused bytes place = go (long_prefix bytes) (stray_bit bytes) (unknown_action bytes) (spare_bytes bytes) (stray_port bytes)
  where
    go : (long stray unknown spare port : Bool)
        → (◌≡◌ {A = ℕ} (cond long 3 (cond stray 4 (cond unknown 5 (cond spare 6 (cond port 14 0))))) 0)
        ⊎ ((why : Refusal) × (said why ≡ cond long 3 (cond stray 4 (cond unknown 5 (cond spare 6 (cond port 14 0)))) ∷ place ∷ []))
    go true stray unknown spare port = inr (LongPrefix place, refl)
    go false true unknown spare port = inr (StrayBit place, refl)
    go false false true spare port = inr (UnknownAction place, refl)
    go false false false true port = inr (SpareBytes place, refl)
    go false false false false true = inr (StrayPort place, refl)
    go false false false false false = inl refl

pub accepted_or_refused : (table : List ℕ) → Accepted table ⊎ ((why : Refusal) × (said why ≡ verdict table))
unfolding verdict rules_said place_said rule_said said
accepted_or_refused table =
    go (eqb (length table % record_size) 0) (ltb most_rules (rule_count table)) (lowest (faulty table) (rule_count table)) (lowest_told (faulty table) (rule_count table))
  where
    go : (whole many : Bool) (o : Option ℕ) → Told (faulty table) (rule_count table) o
        → (cond (not whole) (1 ∷ []) (cond many (2 ∷ []) (place_said table o)) ≡ 0 ∷ [])
        ⊎ ((why : Refusal) × (said why ≡ cond (not whole) (1 ∷ []) (cond many (2 ∷ []) (place_said table o))))
    go false many o t = inr (RaggedTable, refl)
    go true true o t = inr (TooManyRules, refl)
    go true false None t = inl refl
    go true false (Some p) t =
        let bad = faulty_fault table p t.passes in
        ⊎_elim (λ e. absurd (eqb-false (fault (record_at table p)) 0 bad e)) (λ w. inr (w.0, rw bad w.1)) (rule_refused (record_at table p) p)
