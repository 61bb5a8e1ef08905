-- The refusal that a table gets for one of its rules: "The lowest place with a fault is named", with the first test that its rule fails.
-- And fault 5 is an action that is not known.
-- Assumes nothing.
use mathlib.Core.Path.{◌≡◌, refl, sym, ap, ◌∙◌}
use mathlib.Core.Logic.{◌↔◌, ◌⊎◌, inl, inr, ⊎_elim}
use mathlib.Core.Bool.{Bool, true, false, not, cond, true≢false}
use mathlib.Core.List.{List, [], ◌∷◌}
use Rattle.std.specs.Prelude.{Option, None, Some}
use Prim.Native.Nat.{ℕ, zero, suc, ◌+◌, ◌%◌, ◌≤◌, ◌<◌}
use native.Mathlib.Omega.{arith}
use lib.Dec.{eqb, ltb}
use lib.ListN.{length, get_or}
use borrow.Author.Tests.{eqb-true, eqb-false, eq-eqb, ne_eqb, ltb-false, le-ltb}
use Rattle.bits.specs.Tests.{lowest}
use Rattle.bits.proofs.TestLaws.{less, Lowest, Told, lowest_told, lowest_some}
use Rattle.rules.specs.declared.Action.TheVariants.{Hold, Deliver}
use Rattle.rules.specs.Action.{decoded, is_unknown}
use Rattle.rules.specs.Table.{record_size, most_rules, rule_count, record_at, fault, rule_said, faulty, place_said, rules_said, verdict}
use Rattle.rules.specs.declared.Refusal.{Refusal}
use Rattle.rules.specs.Refusal.{said}
use Rattle.rules.proofs.TableLaws.{faulty_fault, clean_fault}
use Rattle.rules.proofs.SaidLaws.{numbered}

-- ---- the first fault of a table

pub record FaultAt (table : List ℕ) (number place : ℕ) : Type 0 where
  pub whole : length table % record_size ≡ 0
  pub few : rule_count table ≤ most_rules
  pub inside : place < rule_count table
  pub earlier : (lower : ℕ) → lower < place → fault (record_at table lower) ≡ 0
  pub first : fault (record_at table place) ≡ number

module _ (table : List ℕ) (n place : ℕ) where
  -- what is said of one place
  said_there : (p : ℕ) → eqb (fault (record_at table p)) 0 ≡ false → rule_said p (record_at table p) ≡ suc n ∷ place ∷ []
      → (fault (record_at table p) ≡ suc n) × (p ≡ place)
  unfolding rule_said
  said_there p bad e =
      let says : fault (record_at table p) ∷ p ∷ [] ≡ suc n ∷ place ∷ [] = rw bad at e in
      (ap (λ (l : List ℕ). get_or l 0 0) says, ap (λ (l : List ℕ). get_or l 1 0) says)

  verdict_faulty : verdict table ≡ suc n ∷ place ∷ [] → FaultAt table (suc n) place
  unfolding verdict rules_said
  verdict_faulty e =
      go (eqb (length table % record_size) 0) refl (ltb most_rules (rule_count table)) refl
      (lowest (faulty table) (rule_count table)) (lowest_told (faulty table) (rule_count table)) e
    where
      go : (w : Bool) → eqb (length table % record_size) 0 ≡ w → (m : Bool) → ltb most_rules (rule_count table) ≡ m
          → (o : Option ℕ) → Told (faulty table) (rule_count table) o
          → cond (not w) (1 ∷ []) (cond m (2 ∷ []) (place_said table o)) ≡ suc n ∷ place ∷ [] → FaultAt table (suc n) place
      go false p m q o t s = absurd (omega (arith, ap length s))
      go true p true q o t s = absurd (omega (arith, ap length s))
      go true p false q None t s = unfold place_said in absurd (omega (arith, ap length s))
      go true p false q (Some k) t s =
          unfold place_said in
          let here = said_there k (faulty_fault table k t.passes) s in
          record {
            whole = eqb-true _ _ p;
            few = ltb-false _ _ q;
            inside = omega (arith, here.1, t.below);
            earlier = λ j h. eqb-true _ _ (clean_fault table j (t.first j (omega (arith, here.1))));
            first = rw (← here.1) here.0;
          }

  faulty_verdict : FaultAt table (suc n) place → verdict table ≡ suc n ∷ place ∷ []
  unfolding verdict rules_said place_said rule_said faulty
  faulty_verdict f =
      let rule = record_at table place in
      let low : Lowest (faulty table) (rule_count table) place = record {
        below = f.inside;
        passes = ap not (ne_eqb (fault rule) 0 (λ e. omega (arith, f.first)));
        first = λ j h. ap not (eq-eqb (fault (record_at table j)) 0 (f.earlier j h));
      } in
      rw (eq-eqb (length table % record_size) 0 f.whole, le-ltb most_rules (rule_count table) f.few)
      (ap (place_said table) (lowest_some (faulty table) (rule_count table) place low)
      ∙ ap (λ (k : ℕ). cond (eqb k 0) (0 ∷ []) (k ∷ place ∷ [])) f.first
      ∙ ap (λ (b : Bool). cond b (0 ∷ []) (suc n ∷ place ∷ [])) (ne_eqb (suc n) 0 (λ e. omega arith)))

  pub verdict_fault : (verdict table ≡ suc n ∷ place ∷ []) ↔ FaultAt table (suc n) place
  verdict_fault = (verdict_faulty, faulty_verdict)

-- ---- the rules tried in turn, up to one at a place

module _ (table : List ℕ) (place : ℕ) where
  abbrev here : List ℕ
  here = record_at table place

  -- it is not at fault
  pub passed_here : ((lower : ℕ) → lower < place → fault (record_at table lower) ≡ 0) → 0 ∷ [] ≡ rule_said place here
      → (lower : ℕ) → lower < place + 1 → fault (record_at table lower) ≡ 0
  unfolding rule_said
  passed_here earlier says lower below = ⊎_elim (earlier lower) (λ (h : place ≤ lower). rw (← last h) (clean (fault here) says)) (less lower place)
    where
      last : place ≤ lower → place ≡ lower
      last h = omega arith

      clean : (n : ℕ) → 0 ∷ [] ≡ cond (eqb n 0) (0 ∷ []) (n ∷ place ∷ []) → n ≡ 0
      clean zero e = refl
      clean (suc n) e =
          let fails : 0 ∷ [] ≡ suc n ∷ place ∷ [] = rw (ne_eqb (suc n) 0 (λ k. omega arith)) at e in
          absurd (omega (arith, ap length fails))

  -- it is the first at fault, and so the one that the table is refused for
  pub stopped_here : length table % record_size ≡ 0 → rule_count table ≤ most_rules → place < rule_count table
      → ((lower : ℕ) → lower < place → fault (record_at table lower) ≡ 0) → (r : Refusal) → said r ≡ rule_said place here → said r ≡ verdict table
  unfolding rule_said
  stopped_here whole few inside earlier r says = go (fault here) refl
    where
      go : (n : ℕ) → fault here ≡ n → said r ≡ verdict table
      go zero e =
          let done : said r ≡ 0 ∷ [] = rw e at says in
          absurd (omega (arith, ap (λ (l : List ℕ). get_or l 0 0) (sym (numbered r).2 ∙ done)))
      go (suc n) e =
          let fails : said r ≡ suc n ∷ place ∷ [] = rw (e, ne_eqb (suc n) 0 (λ k. omega arith)) at says in
          fails ∙ sym (faulty_verdict table n place (record { whole = whole; few = few; inside = inside; earlier = earlier; first = e }))

-- ---- the fault of an action

-- "unknown kind, or hold with a feed other than 0"
pub unknown_exact : (kind feed : ℕ) → (decoded kind feed ≡ None) ↔ ((1 < kind) ⊎ ((kind ≡ 0) × (feed ≡ 0 → ⊥)))
unfolding decoded is_unknown
unknown_exact kind feed = (told (eqb kind 0) refl (eqb kind 1) refl (eqb feed 0) refl, ⊎_elim above held)
  where
    told : (z : Bool) → eqb kind 0 ≡ z → (o : Bool) → eqb kind 1 ≡ o → (f : Bool) → eqb feed 0 ≡ f
        → cond z (cond f (Some Hold) None) (cond o (Some (Deliver feed)) None) ≡ None → (1 < kind) ⊎ ((kind ≡ 0) × (feed ≡ 0 → ⊥))
    told true p o q true r e = absurd (true≢false (sym (ap is_unknown e)))
    told true p o q false r e = inr (eqb-true kind 0 p, eqb-false feed 0 r)
    told false p true q f r e = absurd (true≢false (sym (ap is_unknown e)))
    told false p false q f r e = inl (omega (arith, eqb-false kind 0 p, eqb-false kind 1 q))

    above : 1 < kind → decoded kind feed ≡ None
    above h = unfold decoded in rw (ne_eqb kind 0 (λ e. omega arith), ne_eqb kind 1 (λ e. omega arith))

    held : (kind ≡ 0) × (feed ≡ 0 → ⊥) → decoded kind feed ≡ None
    held h = unfold decoded in rw (eq-eqb kind 0 h.0, ne_eqb feed 0 h.1)
