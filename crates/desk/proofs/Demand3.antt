-- Demand 3 through the call: judge allows a move exactly when no two rules that clash change order, and then writes the moved table; leaving
-- all in place is allowed, an allowed move can be undone, and two in a row are one.
-- Assumes nothing.
use Rattle.rules.specs.declared.Refusal.{Refusal}
use mathlib.Core.Path.{◌≡◌, refl, sym, ap, ap₂, subst, ◌∙◌}
use mathlib.Core.Logic.{◌↔◌, ◌⊎◌, inl, inr, ⊎_elim}
use mathlib.Core.Bool.{true, false}
use mathlib.Core.List.{List, [], ◌∷◌, ◌++◌, head-eq_of_cons-eq}
use Rattle.std.specs.Prelude.{Option, None, Some, Result, Ok, Err}
use Prim.Native.Nat.{ℕ, ◌≤◌, ◌<◌}
use native.Mathlib.Omega.{arith}
use lib.ListN.{length, take, drop}
use lib.Seq.{take_at, drop_at}
use Rattle.bits.proofs.TestLaws.{decided, less}
use Rattle.rules.specs.declared.Crossing.{Crossing}
use Rattle.rules.specs.declared.Refusal.TheVariants.{NotAllowed}
use Rattle.rules.specs.Refusal.{told, first_refusal, values}
use Rattle.rules.specs.Rule.{Rule}
use Rattle.rules.specs.Match.{rule_at}
use Rattle.rules.specs.Overlap.{lowest_shared}
use Rattle.rules.specs.Table.{rule_count, record_at, rules_of, verdict, Accepted}
use Rattle.rules.proofs.MatchLaws.{rules_size, rules_at}
use Rattle.rules.proofs.HeaderLaws.{lowest_header, lowest_values}
use Rattle.overlap.specs.Pairs.{Pair}
use Rattle.overlap.specs.Order.{is_order, new_place, moved, moved_table, in_place, way_back, and_then}
use Rattle.overlap.specs.Judge as judge
use Rattle.overlap.specs.Obstacle.{pair_told, found_told, crossing_told}
use Rattle.overlap.proofs.SortedLaws.{pair}
use Rattle.overlap.proofs.OrderLaws.{order}
use Rattle.overlap.proofs.MadeOrders.{way_order, place_order}
use Rattle.overlap.proofs.JudgeLaws.{Kept, allowed_exact, crossing_exact}
use Rattle.overlap.proofs.MoveLaws.{in_place_allowed, undo, compose}
use Rattle.overlap.proofs.TableMoves.{moved_count, moved_length, moved_rules, moved_accepted, moved_bytes, accepted_whole, bytes_in_place, bytes_undo, bytes_compose}
use Rattle.desk.specs.JudgeCall.{order_said, output_said, crossing_said, judge_said, judge_left, Judges}
use Rattle.desk.specs.Terms.{IsTable, IsOrder, NoneTurned}
use Rattle.desk.proofs.TermLaws.{clash_at}
use Rattle.desk.proofs.LentLaws.{first_last, done_accepted, done_written}
use Rattle.desk.proofs.Reasons.{is_order_lem}
use Rattle.desk.proofs.JudgeLaws.{crossed_judges, allowed_judges}
use Rattle.desk.proofs.Determined.{judge_one}

-- ---- what an allowed move was

pub record Moved (table order output after : List ℕ) : Type 0 where
  pub accepted : Accepted table
  pub ordered : is_order (rule_count table) order ≡ true
  pub allowed : judge.Allowed (rules_of table) order
  pub written : take (length table) after ≡ moved_table table order
  pub beyond : drop (length table) after ≡ drop (length table) output

module _ (table order output after : List ℕ) (j : Judges table order output (Ok tt) after) where
  says : judge_said table order output ≡ 0 ∷ []
  unfolding told
  says = sym j.answer

  abbrev last : List ℕ
  last = crossing_said (rules_of table) (judge.crossing (rules_of table) order)

  past_table : first_refusal (order_said table order) (first_refusal (output_said table output) last) ≡ 0 ∷ []
  unfolding judge_said
  past_table = first_last (verdict table) (first_refusal (order_said table order) (first_refusal (output_said table output) last)) [] says

  no_crossing : (o : Option Pair) → crossing_said (rules_of table) o ≡ 0 ∷ [] → o ≡ None
  unfolding crossing_said
  no_crossing None e = refl
  no_crossing (Some p) e = absurd (omega (arith, head-eq_of_cons-eq e))

  -- a list that is no order would have been refused
  not_eleven : is_order (rule_count table) order ≡ false → ⊥
  unfolding order_said first_refusal
  not_eleven e =
      let eleven : ◌≡◌ {A = List ℕ} (11 ∷ []) (0 ∷ []) = rw e at past_table in
      omega (arith, head-eq_of_cons-eq eleven)

  accepted_order : is_order (rule_count table) order ≡ true
  accepted_order = ⊎_elim (λ e. e) (λ e. absurd (not_eleven e)) (decided (is_order (rule_count table) order))

  pub judged_moved : Moved table order output after
  unfolding judge_said judge_left
  judged_moved =
      let ok = done_accepted table (first_refusal (order_said table order) (first_refusal (output_said table output) last)) [] says in
      let written = moved_table table order ++ drop (length table) output in
      let size = moved_length table order accepted_order (accepted_whole table ok) in
      let left : after ≡ written = j.lent ∙ done_written (judge_said table order output) written output [] says in
      record {
        accepted = ok;
        ordered = accepted_order;
        allowed = no_crossing (judge.crossing (rules_of table) order)
            (first_last (output_said table output) last [] (first_last (order_said table order) (first_refusal (output_said table output) last) [] past_table));
        written = ap (take (length table)) left ∙ take_at (moved_table table order) (drop (length table) output) (length table) size;
        beyond = ap (drop (length table)) left ∙ drop_at (moved_table table order) (drop (length table) output) (length table) size;
      }

-- the output starts with the moved table, and what stands behind it stays
pub judge_writes : {table order output after : List ℕ} → Judges table order output (Ok tt) after
    → (take (length table) after ≡ moved_table table order) × (drop (length table) after ≡ drop (length table) output)
judge_writes {table} {order} {output} {after} j =
    let m = judged_moved table order output after j in
    (m.written, m.beyond)

-- which is accepted
pub judge_accepted : {table order output after : List ℕ} → IsTable table → Judges table order output (Ok tt) after → IsTable (take (length table) after)
judge_accepted {table} {order} {output} {after} t j =
    let m = judged_moved table order output after j in
    subst IsTable (sym m.written)
    (record { bytes = moved_bytes table order t.bytes; accepted = moved_accepted table order m.ordered m.accepted })

-- ---- what judge answers to an order, with room for the table

module _ {table o output : List ℕ} (ok : Accepted table) (ordered : is_order (rule_count table) o ≡ true) (room : length table ≤ length output)
    {r : Result Unit Refusal} {after : List ℕ} (j : Judges table o output r after) where
  allowed_judged : judge.Allowed (rules_of table) o → r ≡ (Ok tt)
  unfolding found_told
  allowed_judged a = (judge_one j (allowed_judges table o output ok ordered room (sym (ap (found_told (rules_of table)) a)))).0

  -- the pair that stands in the way, with its lowest shared header
  crossed_judged : (p : Pair) → judge.crossing (rules_of table) o ≡ Some p → (c : Crossing) × (r ≡ Err (NotAllowed c))
  unfolding crossing_told found_told pair_told
  crossed_judged p e =
      let within = ((crossing_exact (rules_of table) o p).0 e).within in
      let a = rules_at table p.lower (omega (arith, within.rises, within.inside, rules_size table)) in
      let b = rules_at table p.higher (omega (arith, within.inside, rules_size table)) in
      let low = lowest_header (record_at table p.lower) (record_at table p.higher) in
      let c : Crossing = record { lower = p.lower; higher = p.higher; header = low } in
      let shown : values low ≡ lowest_shared (rule_at (rules_of table) p.lower) (rule_at (rules_of table) p.higher) =
      lowest_values (record_at table p.lower) (record_at table p.higher) ∙ sym (ap₂ lowest_shared a b)
      in
      let told : crossing_told c ≡ found_told (rules_of table) (judge.crossing (rules_of table) o) =
      ap (λ (vs : List ℕ). p.lower ∷ p.higher ∷ vs) shown ∙ sym (ap (found_told (rules_of table)) e)
      in
      (c, (judge_one j (crossed_judges table o output ok ordered room c told)).0)

-- two rules that clash keep their order: by places of the table, and by rules
kept_turned : {table : List ℕ} → IsTable table → (o : List ℕ) → Kept (rules_of table) o ↔ NoneTurned table o
kept_turned {table} t o = (
  λ kept i j turned.
      let low : i < rule_count table = omega (arith, turned.rises, turned.inside) in
      omega (
        arith,
        turned.changes,
        kept (pair i j) (record { rises = turned.rises; inside = rw (rules_size table) turned.inside }) ((clash_at t low turned.inside).0 turned.clash),
      ),
  λ none-turned p w c.
      let high : p.higher < rule_count table = rw (← rules_size table) w.inside in
      let low : p.lower < rule_count table = omega (arith, w.rises) in
      ⊎_elim
      (λ (changes : new_place o p.higher < new_place o p.lower).
      absurd (none-turned p.lower p.higher (record { rises = w.rises; inside = high; changes = changes; clash = (clash_at t low high).1 c })))
      (λ stays. stays)
      (less (new_place o p.higher) (new_place o p.lower)),
)

module _ {table o output after : List ℕ} {r : Result Unit Refusal} (t : IsTable table) (x : IsOrder table o)
    (room : length table ≤ length output) (j : Judges table o output r after) where
  pub judge_exact : (r ≡ (Ok tt)) ↔ NoneTurned table o
  judge_exact = (
    λ e. (kept_turned t o).0 ((allowed_exact (rules_of table) o).0 (judged_moved table o output after (subst (λ (x : Result Unit Refusal). Judges table o output x after) e j)).allowed),
    λ none-turned. allowed_judged t.accepted ((is_order_lem table o).0 x) room j ((allowed_exact (rules_of table) o).1 ((kept_turned t o).1 none-turned)),
  )

  pub judge_either : (r ≡ (Ok tt)) ⊎ ((c : Crossing) × (r ≡ Err (NotAllowed c)))
  judge_either = go (judge.crossing (rules_of table) o) refl
    where
      go : (q : Option Pair) → judge.crossing (rules_of table) o ≡ q → (r ≡ (Ok tt)) ⊎ ((c : Crossing) × (r ≡ Err (NotAllowed c)))
      go None e = inl (allowed_judged t.accepted ((is_order_lem table o).0 x) room j e)
      go (Some p) e = inr (crossed_judged t.accepted ((is_order_lem table o).0 x) room j p e)

-- ---- in place, undone, and in a row

-- an allowed order, judged, writes the moved table
moves : {table o output after : List ℕ} {r : Result Unit Refusal} → Accepted table → is_order (rule_count table) o ≡ true → length table ≤ length output
    → judge.Allowed (rules_of table) o → Judges table o output r after → (r ≡ (Ok tt)) × (take (length table) after ≡ moved_table table o)
moves {table} {o} {output} {after} {r} ok ordered room a j =
    let e = allowed_judged ok ordered room j a in
    (e, (judged_moved table o output after (subst (λ (x : Result Unit Refusal). Judges table o output x after) e j)).written)

pub judge_in_place : {table output after : List ℕ} {r : Result Unit Refusal} → IsTable table → length table ≤ length output
    → Judges table (in_place (rule_count table)) output r after → (r ≡ (Ok tt)) × (take (length table) after ≡ table)
judge_in_place {table} t room j =
    let a = subst (λ (n : ℕ). judge.Allowed (rules_of table) (in_place n)) (rules_size table) (in_place_allowed (rules_of table)).1 in
    let m = moves t.accepted (place_order (rule_count table)) room a j in
    (m.0, m.1 ∙ bytes_in_place table (accepted_whole table t.accepted))

pub judge_undone : {table o output after other left : List ℕ} {r : Result Unit Refusal} → Judges table o output (Ok tt) after → length table ≤ length other
    → Judges (take (length table) after) (way_back (rule_count table) o) other r left → (r ≡ (Ok tt)) × (take (length table) left ≡ table)
judge_undone {table} {o} {output} {after} {other} {left} {r} j room k =
    let m = judged_moved table o output after j in
    let n = rule_count table in
    let there = moved_table table o in
    let size : length there ≡ length table = moved_length table o m.ordered (accepted_whole table m.accepted) in
    let back = subst (λ (x : ℕ). judge.Allowed (moved (rules_of table) o) (way_back x o)) (rules_size table)
    (undo (rules_of table) o (rw (rules_size table) m.ordered) m.allowed).1
    in
    let w = moves (moved_accepted table o m.ordered m.accepted) (rw (moved_count table o m.ordered) (way_order n o (order n o m.ordered))) (omega (arith, size))
    (subst (λ (rs : List Rule). judge.Allowed rs (way_back n o)) (sym (moved_rules table o m.ordered)) back)
    (subst (λ (x : List ℕ). Judges x (way_back n o) other r left) m.written k)
    in
    (w.0, ap (λ (x : ℕ). take x left) (sym size) ∙ w.1 ∙ bytes_undo table o (accepted_whole table m.accepted) m.ordered)

pub judge_composed : {table o p output after output₂ after₂ output₃ after₃ : List ℕ} {r : Result Unit Refusal} → Judges table o output (Ok tt) after
    → Judges (take (length table) after) p output₂ (Ok tt) after₂ → length table ≤ length output₃
    → Judges table (and_then o p) output₃ r after₃ → (r ≡ (Ok tt)) × (take (length table) after₃ ≡ take (length table) after₂)
judge_composed {table} {o} {p} {output} {after} {output₂} {after₂} j k room l =
    let m = judged_moved table o output after j in
    let there = moved_table table o in
    let size : length there ≡ length table = moved_length table o m.ordered (accepted_whole table m.accepted) in
    let n = judged_moved there p output₂ after₂ (subst (λ (x : List ℕ). Judges x p output₂ (Ok tt) after₂) m.written k) in
    let same = moved_rules table o m.ordered in
    let c = compose (rules_of table) o p (rw (rules_size table) m.ordered) m.allowed
    (subst (λ (rs : List Rule). is_order (length rs) p ≡ true) same (rw (rules_size there) n.ordered))
    (subst (λ (rs : List Rule). judge.Allowed rs p) same n.allowed)
    in
    let w = moves m.accepted (subst (λ (x : ℕ). is_order x (and_then o p) ≡ true) (rules_size table) c.0) room c.1 l in
    (w.0, w.1 ∙ sym (bytes_compose table o p m.ordered n.ordered) ∙ sym n.written ∙ ap (λ (x : ℕ). take x after₂) size)
