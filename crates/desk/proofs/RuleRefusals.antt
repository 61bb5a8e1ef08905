-- The refusal of one rule through the calls that judge a table: it comes exactly where its fault is the table's first, whatever else is lent.
-- Assumes nothing.
use Rattle.std.specs.Prelude.{Result, Err}
use mathlib.Core.Path.{◌≡◌, refl, sym, ap, ◌∙◌}
use mathlib.Core.Logic.{◌↔◌}
use mathlib.Core.List.{List, [], ◌∷◌}
use Prim.Native.Nat.{ℕ, zero, suc, ◌≤◌}
use native.Mathlib.Omega.{arith}
use lib.ListN.{get_or}
use Rattle.rules.specs.declared.Refusal.{Refusal}
use Rattle.rules.specs.declared.Refusal.TheVariants.{UnknownAction, StrayPort}
use Rattle.rules.specs.Refusal.{told, said, first_refusal}
use Rattle.rules.specs.Table.{rules_of, verdict}
use Rattle.rules.proofs.FaultLaws.{verdict_fault}
use Rattle.overlap.specs.Judge.{crossing}
use Rattle.desk.specs.Lent.{room_said}
use Rattle.desk.specs.BuildCall.{built_said, words_needed, build_said, Builds}
use Rattle.desk.specs.PairsCall.{paired_said, pair_count, pairs_said, Pairs}
use Rattle.desk.specs.JudgeCall.{judged_said, order_said, output_said, crossing_said, judge_said, Judges}
use Rattle.desk.specs.Terms.{FirstAt, UnknownAt, StrayPortAt}
use Rattle.desk.proofs.FaultlessLaws.{Numbers, first_at, unknown_numbered, port_numbered}
use Rattle.desk.proofs.SaidNumbers.{NotSaid, first_never, room_never, order_never, output_never, crossing_never}
use Rattle.desk.proofs.BuildLaws.{refused_builds}
use Rattle.desk.proofs.PairsLaws.{refused_pairs}
use Rattle.desk.proofs.JudgeLaws.{refused_judges}
use Rattle.desk.proofs.Determined.{build_one, pairs_one, judge_one}

-- where nothing after the verdict says n, it is the verdict's
first_verdict : (n : ℕ) (says v rest : List ℕ) → get_or says 0 0 ≡ n → NotSaid n rest → first_refusal v rest ≡ says → v ≡ says
unfolding first_refusal
first_verdict n says [] rest named never e = absurd (never (ap (λ (l : List ℕ). get_or l 0 0) e ∙ named))
first_verdict n says (zero ∷ vs) rest named never e = absurd (never (ap (λ (l : List ℕ). get_or l 0 0) e ∙ named))
first_verdict n says (suc m ∷ vs) rest named never e = e

-- a fault to the three calls: each is refused with it exactly where it is the table's first
pub record Refuses (why : Refusal) (First : List ℕ → Type 0) : Type 0 where
  pub build : {table area after : List ℕ} {r : Result ℕ Refusal} → Builds table area r after → (r ≡ Err why) ↔ First table
  pub pairs : {table list after : List ℕ} {r : Result ℕ Refusal} → Pairs table list r after → (r ≡ Err why) ↔ First table
  pub judge : {table order output after : List ℕ} {r : Result Unit Refusal} → Judges table order output r after
      → (r ≡ Err why) ↔ First table

-- the fault's number, which no check after the table's has, and the refusal that names it
module _ {Fault : List ℕ → Type 0} {n : ℕ} (exact : Numbers (suc n) Fault) (apart : (later : ℕ) → 7 ≤ later → later ≤ 13 → suc n ≡ later → ⊥)
    (place : ℕ) (why : Refusal) (says : said why ≡ suc n ∷ place ∷ []) where
  above : suc n ≡ 0 → ⊥
  above e = omega (arith, e)

  fault_at : (table rest : List ℕ) → NotSaid (suc n) rest → first_refusal (verdict table) rest ≡ said why → FirstAt Fault table place
  fault_at table rest never e =
      (first_at exact table place).0
      ((verdict_fault table n place).0 (first_verdict (suc n) (suc n ∷ place ∷ []) (verdict table) rest refl never (e ∙ says)))

  at_fault : (table : List ℕ) → FirstAt Fault table place → said why ≡ verdict table
  at_fault table f = says ∙ sym ((verdict_fault table n place).1 ((first_at exact table place).1 f))

  build_refused : {table area after : List ℕ} {r : Result ℕ Refusal} → Builds table area r after
      → (r ≡ Err why) ↔ FirstAt Fault table place
  unfolding told build_said
  build_refused {table} {area} b = (
    λ e. fault_at table (room_said 7 (words_needed table) area (words_needed table))
        (room_never (suc n) 7 (words_needed table) area (words_needed table) above (apart 7 (omega arith) (omega arith))) (sym b.answer ∙ ap built_said e),
    λ f. (build_one b (refused_builds table area why (at_fault table f))).0,
  )

  pairs_refused : {table list after : List ℕ} {r : Result ℕ Refusal} → Pairs table list r after
      → (r ≡ Err why) ↔ FirstAt Fault table place
  unfolding told pairs_said
  pairs_refused {table} {list} p = (
    λ e. fault_at table _ (room_never (suc n) 10 _ list (pair_count table) above (apart 10 (omega arith) (omega arith))) (sym p.answer ∙ ap paired_said e),
    λ f. (pairs_one p (refused_pairs table list why (at_fault table f))).0,
  )

  judge_refused : {table order output after : List ℕ} {r : Result Unit Refusal} → Judges table order output r after
      → (r ≡ Err why) ↔ FirstAt Fault table place
  unfolding told judge_said
  judge_refused {table} {order} {output} j =
      let last = crossing_said (rules_of table) (crossing (rules_of table) order) in
      let later = first_refusal (output_said table output) last in (
        λ e. fault_at table (first_refusal (order_said table order) later)
            (first_never (suc n) (order_said table order) later (order_never (suc n) table order above (apart 11 (omega arith) (omega arith)))
            (first_never (suc n) (output_said table output) last (output_never (suc n) table output above (apart 12 (omega arith) (omega arith)))
            (crossing_never (suc n) (rules_of table) (crossing (rules_of table) order) above (apart 13 (omega arith) (omega arith)))))
            (sym j.answer ∙ ap judged_said e),
        λ f. (judge_one j (refused_judges table order output why (at_fault table f))).0,
      )

  refuses : Refuses why (λ table. FirstAt Fault table place)
  refuses = record { build = build_refused; pairs = pairs_refused; judge = judge_refused }

pub unknown_refuses : (place : ℕ) → Refuses (UnknownAction place) (λ table. UnknownAt table place)
unfolding said
unknown_refuses place = refuses unknown_numbered (λ later low high e. omega (arith, e)) place (UnknownAction place) refl

pub port_refuses : (place : ℕ) → Refuses (StrayPort place) (λ table. StrayPortAt table place)
unfolding said
port_refuses place = refuses port_numbered (λ later low high e. omega (arith, e)) place (StrayPort place) refl
