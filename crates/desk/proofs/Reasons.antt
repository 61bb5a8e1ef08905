-- The exact reasons of the calls: the table's refusal comes first and is the same for all; an accepted table is refused for want of room, or
-- because what was proposed is no order, exactly when it is so.
-- Assumes nothing.
use Rattle.std.specs.Prelude.{Result, Err, Ok}
use mathlib.Core.Path.{◌≡◌, sym, ap, ◌∙◌}
use mathlib.Core.Logic.{◌↔◌, ◌⊎◌, inl, inr, ⊎_elim}
use mathlib.Core.Bool.{true}
use mathlib.Core.List.{List, ◌∷◌, head-eq_of_cons-eq}
use Prim.Native.Nat.{ℕ, ◌*◌, ◌≤◌, ◌<◌}
use native.Mathlib.Omega.{arith}
use lib.ListN.{length, get_or}
use Rattle.bits.proofs.TestLaws.{decided, clash, less, refuted}
use Rattle.rules.specs.declared.Refusal.{Refusal}
use Rattle.rules.specs.declared.Refusal.TheVariants.{ShortArea, ShortList, NotAnOrder, ShortOutput}
use Rattle.rules.specs.Refusal.{told, said}
use Rattle.rules.specs.Rule.{Rule}
use Rattle.rules.specs.Table.{rule_count, rules_of, verdict}
use Rattle.rules.proofs.SaidLaws.{numbered}
use Rattle.overlap.specs.Order.{is_order}
use Rattle.overlap.specs.Judge.{crossing}
use Rattle.overlap.proofs.OrderLaws.{order_exact}
use Rattle.desk.specs.BuildCall.{built_said, words_needed, Builds}
use Rattle.desk.specs.PairsCall.{paired_said, pair_count, Pairs}
use Rattle.desk.specs.JudgeCall.{judged_said, output_said, crossing_said, judge_said, Judges}
use Rattle.desk.specs.Terms.{IsTable, IsOrder}
use Rattle.desk.proofs.BuildLaws as building
use Rattle.desk.proofs.PairsLaws as pairing
use Rattle.desk.proofs.JudgeLaws as judging
use Rattle.desk.proofs.SaidNumbers.{first_never, output_never, crossing_never}
use Rattle.desk.proofs.Determined.{build_one, pairs_one, judge_one}

-- what happens in one of two cases, and cannot in the other, tells which it is
pub exactly : {A P Q : Type 0} {r x : A} → P ⊎ Q → (P → r ≡ x) → (Q → r ≡ x → ⊥) → (r ≡ x) ↔ P
exactly cases here never = (λ e. ⊎_elim (λ p. p) (λ q. absurd (never q e)) cases, here)

-- a refusal is not done
not_done : (why : Refusal) {values : List ℕ} → 0 ∷ values ≡ said why → ⊥
not_done why e = let k = numbered why in omega (arith, head-eq_of_cons-eq (e ∙ k.2))

-- ---- the table's refusal

module _ {table : List ℕ} {why : Refusal} where
  pub build_by_table : {area after : List ℕ} {r : Result ℕ Refusal} → Builds table area r after → said why ≡ verdict table → r ≡ Err why
  build_by_table {area} b e = (build_one b (building.refused_builds table area why e)).0

  pub pairs_by_table : {list after : List ℕ} {r : Result ℕ Refusal} → Pairs table list r after → said why ≡ verdict table → r ≡ Err why
  pairs_by_table {list} p e = (pairs_one p (pairing.refused_pairs table list why e)).0

  pub judge_by_table : {order output after : List ℕ} {r : Result Unit Refusal} → Judges table order output r after → said why ≡ verdict table
      → r ≡ Err why
  judge_by_table {order} {output} j e = (judge_one j (judging.refused_judges table order output why e)).0

-- ---- room

-- a call that is refused where there is too little room, and done where there is enough
room_exact : {A : Type 0} {r short done : A} (room needed : ℕ) → (room < needed → r ≡ short) → (needed ≤ room → r ≡ done) → (done ≡ short → ⊥)
    → ((r ≡ short) ↔ (room < needed)) × ((r ≡ done) ↔ (needed ≤ room))
room_exact room needed few enough apart = (
  exactly (less room needed) few (λ h e. apart (sym (enough h) ∙ e)),
  exactly (⊎_elim inr inl (less room needed)) enough (λ h e. apart (sym e ∙ few h)),
)

module _ {table area after : List ℕ} {r : Result ℕ Refusal} (t : IsTable table) (b : Builds table area r after) where
  build_room : ((r ≡ Err ShortArea) ↔ (length area < words_needed table))
      × ((r ≡ Ok (words_needed table)) ↔ (words_needed table ≤ length area))
  unfolding told
  build_room =
      room_exact (length area) (words_needed table) (λ h. (build_one b (building.short_builds table area t.accepted h)).0)
      (λ h. (build_one b (building.done_builds table area t.accepted h)).0) (λ e. not_done ShortArea (ap built_said e))

  pub build_short : (r ≡ Err ShortArea) ↔ (length area < words_needed table)
  build_short = build_room.0

  pub build_done : (r ≡ Ok (words_needed table)) ↔ (words_needed table ≤ length area)
  build_done = build_room.1

module _ {table list after : List ℕ} {r : Result ℕ Refusal} (t : IsTable table) (p : Pairs table list r after) where
  pairs_room : ((r ≡ Err ShortList) ↔ (length list < 2 * pair_count table))
      × ((r ≡ Ok (pair_count table)) ↔ (2 * pair_count table ≤ length list))
  unfolding told
  pairs_room =
      room_exact (length list) (2 * pair_count table) (λ h. (pairs_one p (pairing.short_pairs table list t.accepted h)).0)
      (λ h. (pairs_one p (pairing.listed_pairs table list t.accepted h)).0) (λ e. not_done ShortList (ap paired_said e))

  pub pairs_short : (r ≡ Err ShortList) ↔ (length list < 2 * pair_count table)
  pairs_short = pairs_room.0

  pub pairs_done : (r ≡ Ok (pair_count table)) ↔ (2 * pair_count table ≤ length list)
  pairs_done = pairs_room.1

-- ---- orders

-- an order of the places is one that is not refused
pub is_order_lem : (table order : List ℕ) → IsOrder table order ↔ (is_order (rule_count table) order ≡ true)
is_order_lem table order =
    let exact = order_exact (rule_count table) order in (
      λ x. exact.1 (x.size, record { small = x.below; differ = x.unrepeated }),
      λ e. let x = exact.0 e in record { size = x.0; below = x.1.small; unrepeated = x.1.differ },
    )

module _ {table order output after : List ℕ} {r : Result Unit Refusal} (t : IsTable table) (j : Judges table order output r after) where
  abbrev rules : List Rule
  rules = rules_of table

  abbrev last : List ℕ
  last = crossing_said rules (crossing rules order)

  -- a refusal that is answered is what is said
  answered : {why : Refusal} → r ≡ Err why → {says : List ℕ} → judge_said table order output ≡ says → get_or (said why) 0 0 ≡ get_or says 0 0
  unfolding told
  answered e q = ap (λ (l : List ℕ). get_or l 0 0) (sym (ap judged_said e) ∙ j.answer ∙ q)

  pub judge_no_order : (r ≡ Err NotAnOrder) ↔ (IsOrder table order → ⊥)
  unfolding said
  judge_no_order =
      exactly (⊎_elim (λ e. inr e) (λ e. inl (λ x. clash ((is_order_lem table order).0 x) e)) (decided (is_order (rule_count table) order)))
      (λ no. (judge_one j (judging.no_order_judges table order output t.accepted (refuted (is_order (rule_count table) order) (λ e. no ((is_order_lem table order).1 e))))).0)
      (λ ordered e.
      first_never 11 (output_said table output) last (output_never 11 table output (λ q. omega arith) (λ q. omega arith))
      (crossing_never 11 rules (crossing rules order) (λ q. omega arith) (λ q. omega arith))
      (sym (answered e (judging.past_order table order output t.accepted ordered))))

  pub judge_short : IsOrder table order → (r ≡ Err ShortOutput) ↔ (length output < length table)
  unfolding said
  judge_short x =
      let ordered = (is_order_lem table order).0 x in
      exactly (less (length output) (length table))
      (λ h. (judge_one j (judging.short_judges table order output t.accepted ordered h)).0)
      (λ room e.
      crossing_never 12 rules (crossing rules order) (λ q. omega arith) (λ q. omega arith)
      (sym (answered e (judging.past_output table order output t.accepted ordered room))))
