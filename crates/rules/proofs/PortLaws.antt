-- Test 14 (02, Q-1): what it asks of a span is what its words mean, and of a record it is what 02 says of lengths.
-- Assumes nothing.
use mathlib.Core.Path.{◌≡◌, refl, ap, ap₂, ◌∙◌}
use mathlib.Core.Logic.{◌↔◌, ◌⊎◌, inl, inr, ⊎_elim}
use mathlib.Core.Bool.{Bool, true, false, not, ◌&&◌, ◌||◌, false≢true}
use mathlib.Core.List.{List, [], ◌∷◌}
use Prim.Native.Nat.{ℕ, ◌+◌, ◌-◌, ◌^◌, ◌≤◌, ◌<◌}
use native.Mathlib.Omega.{arith}
use lib.Dec.{eqb}
use lib.Pow.{pow_pos, pow-lt}
use borrow.Author.Tests.{eqb-true, eqb-false, eq-eqb, ne_eqb, not-true}
use Rattle.bits.specs.Tests.{any}
use Rattle.bits.proofs.TestLaws.{decided, clash, refuted, same_test, same_eqb, and_trues, and_both, less}
use Rattle.rules.specs.Field.{field_at, source_port, destination_port, protocol, value_in, length_in}
use Rattle.rules.specs.Rule.{Span, has, span_of, span_in, rule_of}
use Rattle.rules.specs.Table.{stray_port}
use Rattle.rules.specs.Ports.{size_of, takes_all, takes_only, asks_port, has_ports}
use Rattle.rules.proofs.SpanLaws.{has_ends, in_span, ends_in}
use Rattle.rules.proofs.RuleLaws.{span_in_lem}

-- ---- what the words mean

-- a span within a field of w bits takes every value exactly when it has each
pub takes_all_lem : (w : ℕ) (s : Span) → s.high < 2 ^ w → (takes_all w s ≡ true) ↔ ((x : ℕ) → x < 2 ^ w → has s x ≡ true)
unfolding takes_all size_of
takes_all_lem w s within = (
  λ e x h.
      let size : (s.high + 1) - s.low ≡ 2 ^ w = eqb-true _ _ e in
      in_span s x (omega arith) (omega arith),
  λ every.
      let lowest = has_ends s 0 (every 0 (pow_pos w)) in
      let highest = has_ends s (2 ^ w - 1) (every (2 ^ w - 1) (omega (arith, pow_pos w))) in
      eq-eqb ((s.high + 1) - s.low) (2 ^ w) (omega (arith, pow_pos w)),
)

-- it takes v alone exactly when v is what it has
pub takes_only_lem : (v : ℕ) (s : Span) → (takes_only v s ≡ true) ↔ ((x : ℕ) → (has s x ≡ true) ↔ (x ≡ v))
unfolding takes_only
takes_only_lem v s = (
  λ e x.
      let b = and_trues _ _ e in
      let low = eqb-true s.low v b.0 in
      let high = eqb-true s.high v b.1 in (
        λ h. let ends = has_ends s x h in omega arith,
        λ q. in_span s x (omega arith) (omega arith),
      ),
  λ alone.
      let ends = ends_in s v ((alone v).1 refl) in
      and_both _ _ (eq-eqb _ _ ((alone s.low).0 ends.0)) (eq-eqb _ _ ((alone s.high).0 ends.1)),
)

-- ---- the span of a prefix, over any width

size_of_lem : (w v l : ℕ) → size_of (span_of w v l) ≡ 2 ^ (w - l)
unfolding size_of span_of
size_of_lem w v l = omega (arith, pow_pos (w - l))

-- it takes every value exactly when its length is 0
all_length : (w v l : ℕ) → 0 < w → takes_all w (span_of w v l) ≡ eqb l 0
unfolding takes_all
all_length w v l wide =
    ap (λ (n : ℕ). eqb n (2 ^ w)) (size_of_lem w v l)
    ∙ same_eqb (2 ^ (w - l)) (2 ^ w) l 0
    (λ e. ⊎_elim (λ h. absurd (omega (arith, e, pow-lt (fewer h)))) (λ h. omega (arith, h)) (less 0 l))
    (λ e. ap (λ (n : ℕ). 2 ^ n) (none e))
  where
    fewer : 0 < l → w - l < w
    fewer h = omega arith

    none : l ≡ 0 → w - l ≡ w
    none e = omega arith

-- it takes x alone exactly when its length is the whole and its value is x
only_length : (w v l x : ℕ) → l ≤ w → takes_only x (span_of w v l) ≡ (eqb l w && eqb v x)
unfolding takes_only span_of
only_length w v l x fits =
    let high = v + (2 ^ (w - l) - 1) in
    same_test (eqb v x && eqb high x) (eqb l w && eqb v x)
    (λ e.
    let b = and_trues (eqb v x) (eqb high x) e in
    let one : 2 ^ (w - l) ≡ 1 = omega (arith, eqb-true v x b.0, eqb-true high x b.1, pow_pos (w - l)) in
    and_both (eqb l w) (eqb v x) (eq-eqb l w (⊎_elim (λ h. absurd (omega (arith, one, pow-lt (longer h)))) (λ h. omega (arith, h)) (less l w))) b.0)
    (λ e.
    let b = and_trues (eqb l w) (eqb v x) e in
    let whole : w - l ≡ 0 = omega (arith, eqb-true l w b.0) in
    and_both (eqb v x) (eqb high x) b.1 (eq-eqb high x (rw whole (omega (arith, eqb-true v x b.1)))))
  where
    longer : l < w → 0 < w - l
    longer h = omega arith

-- ---- of a record

module _ (bytes : List ℕ) where
  -- "a port length above 0"
  port_length : (f : ℕ) → f < 5 → 0 < (field_at f).width → not (takes_all (field_at f).width (span_in (rule_of bytes) f)) ≡ not (eqb (length_in bytes (field_at f)) 0)
  port_length f h wide = ap not (ap (takes_all (field_at f).width) (span_in_lem bytes f h) ∙ all_length (field_at f).width _ (length_in bytes (field_at f)) wide)

  pub asks_length : asks_port (rule_of bytes) ≡ any (λ f. not (eqb (length_in bytes (field_at f)) 0)) (source_port ∷ destination_port ∷ [])
  unfolding asks_port any
  asks_length = ap₂ ◌||◌ (port_length source_port (omega arith) (omega arith)) (ap (λ b. b || false) (port_length destination_port (omega arith) (omega arith)))

  -- "its protocol is exactly 6 or exactly 17 (length 8)"
  module _ (fits : length_in bytes (field_at protocol) ≤ 8) where
    abbrev whole : Bool
    whole = eqb (length_in bytes (field_at protocol)) 8

    abbrev named : ℕ → Bool
    named v = eqb (value_in bytes (field_at protocol)) v

    exactly : (v : ℕ) → takes_only v (span_in (rule_of bytes) protocol) ≡ (whole && named v)
    exactly v = ap (takes_only v) (span_in_lem bytes protocol (omega arith)) ∙ only_length 8 (value_in bytes (field_at protocol)) _ v fits

    pub has_length : has_ports (rule_of bytes) ≡ (whole && any named (6 ∷ 17 ∷ []))
    unfolding has_ports any
    has_length = ap₂ ◌||◌ (exactly 6) (ap (λ b. b || false) (exactly 17)) ∙ both whole (named 6) (named 17)
      where
        both : (l a b : Bool) → ((l && a) || ((l && b) || false)) ≡ (l && (a || (b || false)))
        both true a b = refl
        both false a b = refl

-- ---- the test in 02's words

above_zero : (n : ℕ) → (not (eqb n 0) ≡ true) ↔ (0 < n)
above_zero n = (λ e. let apart = eqb-false n 0 (not-true (eqb n 0) e) in ⊎_elim (λ h. h) (λ h. absurd (apart (omega (arith, h)))) (less 0 n), λ h. ap not (ne_eqb n 0 (λ e. omega arith)))

-- of two tests and no third, one passes
either : {P Q : Type 0} (a b : Bool) → (a ≡ true) ↔ P → (b ≡ true) ↔ Q → ((a || (b || false)) ≡ true) ↔ (P ⊎ Q)
either true b p q = (λ e. inl (p.0 refl), λ h. refl)
either false true p q = (λ e. inr (q.0 refl), λ h. refl)
either false false p q = (λ e. absurd (false≢true e), ⊎_elim p.1 q.1)

number_exact : (m n : ℕ) → (eqb m n ≡ true) ↔ (m ≡ n)
number_exact m n = (eqb-true m n, eq-eqb m n)

module _ (bytes : List ℕ) where
  abbrev AsksPort : Type 0
  AsksPort = (0 < length_in bytes (field_at source_port)) ⊎ (0 < length_in bytes (field_at destination_port))

  abbrev HasPorts : Type 0
  HasPorts = (length_in bytes (field_at protocol) ≡ 8) × ((value_in bytes (field_at protocol) ≡ 6) ⊎ (value_in bytes (field_at protocol) ≡ 17))

  asks_exact : (asks_port (rule_of bytes) ≡ true) ↔ AsksPort
  unfolding any
  asks_exact = rw (asks_length bytes) (either _ _ (above_zero (length_in bytes (field_at source_port))) (above_zero (length_in bytes (field_at destination_port))))

  module _ (fits : length_in bytes (field_at protocol) ≤ 8) where
    has_exact : (has_ports (rule_of bytes) ≡ true) ↔ HasPorts
    unfolding any
    has_exact =
        let value = either _ _ (number_exact (value_in bytes (field_at protocol)) 6) (number_exact (value_in bytes (field_at protocol)) 17) in
        rw (has_length bytes fits) (
          λ e. let b = and_trues _ _ e in (eqb-true _ _ b.0, value.0 b.1),
          λ h. and_both _ _ (eq-eqb _ _ h.0) (value.1 h.1),
        )

    pub port_refused : (stray_port bytes ≡ true) ↔ (AsksPort × (HasPorts → ⊥))
    unfolding stray_port
    port_refused = (
      λ e. let b = and_trues _ _ e in (asks_exact.0 b.0, λ h. clash (has_exact.1 h) (not-true _ b.1)),
      λ h. and_both _ _ (asks_exact.1 h.0) (ap not (refuted _ (λ e. h.1 (has_exact.0 e)))),
    )

    pub port_passed : (stray_port bytes ≡ false) ↔ (AsksPort → HasPorts)
    port_passed = (
      λ e asks. ⊎_elim (λ q. has_exact.0 q) (λ q. clash (port_refused.1 (asks, λ h. clash (has_exact.1 h) q)) e) (decided (has_ports (rule_of bytes))),
      λ f. refuted (stray_port bytes) (λ e. let r = port_refused.0 e in r.1 (f r.0)),
    )
