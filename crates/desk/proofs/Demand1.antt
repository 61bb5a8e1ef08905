-- Demand 1 through the calls: a refusal leaves what was lent as it was; an action that is not known is never part of anything that is done,
-- and is never answered.
-- Assumes nothing.
use Rattle.lookup.specs.declared.Answer.{Answer}
use Rattle.std.specs.Prelude.{Some, Result, Err, Ok}
use mathlib.Core.Path.{◌≡◌, sym, ap, ◌∙◌}
use mathlib.Core.Bool.{true≢false}
use mathlib.Core.List.{List}
use Prim.Native.Nat.{ℕ, ◌<◌}
use lib.ListN.{length}
use Rattle.rules.specs.declared.Action.{Action}
use Rattle.rules.specs.declared.Refusal.{Refusal}
use Rattle.rules.specs.declared.Refusal.TheVariants.{UnknownAction}
use Rattle.rules.specs.Action.{action_in, is_unknown}
use Rattle.rules.specs.Refusal.{told, said}
use Rattle.rules.specs.Table.{rule_count, record_at, Accepted}
use Rattle.rules.proofs.TableLaws.{accepted_sound, never_unknown}
use Rattle.rules.proofs.FaultLaws.{unknown_exact}
use Rattle.lookup.specs.InCode.{looked_said}
use Rattle.lookup.proofs.LookedLaws.{looked_one}
use Rattle.lookup.proofs.AnsweredLaws.{look_carries, look_unknown, unknown_there}
use Rattle.desk.specs.BuildCall.{build_said, area_left, Builds}
use Rattle.desk.specs.LookCall.{Looks}
use Rattle.desk.specs.PairsCall.{pairs_said, pairs_left, Pairs}
use Rattle.desk.specs.JudgeCall.{judge_said, judge_left, Judges}
use Rattle.desk.specs.Terms.{NoAction, Matched}
use Rattle.desk.proofs.LentLaws.{lent_refused, done_accepted}

-- ---- what was lent

pub build_untouched : {table area after : List ℕ} {why : Refusal} → Builds table area (Err why) after → after ≡ area
unfolding told area_left
build_untouched {table} {area} {after} {why} b = b.lent ∙ sym (lent_refused why (build_said table area) _ area (sym b.answer)).1

pub pairs_untouched : {table list after : List ℕ} {why : Refusal} → Pairs table list (Err why) after → after ≡ list
unfolding told pairs_left
pairs_untouched {table} {list} {after} {why} p = p.lent ∙ sym (lent_refused why (pairs_said table list) _ list (sym p.answer)).1

pub judge_untouched : {table order output after : List ℕ} {why : Refusal} → Judges table order output (Err why) after → after ≡ output
unfolding told judge_left
judge_untouched {table} {order} {output} {after} {why} j = j.lent ∙ sym (lent_refused why (judge_said table order output) _ output (sym j.answer)).1

-- ---- nothing is done with an action that is not known

unknown_not_accepted : (table : List ℕ) (place : ℕ) → place < rule_count table → NoAction (record_at table place) → Accepted table → ⊥
unfolding action_in
unknown_not_accepted table place inside no_action ok =
    never_unknown (record_at table place) ((accepted_sound table ok).faultless place inside) ((unknown_exact _ _).1 no_action)

pub unknown_not_built : {table area after : List ℕ} {words place : ℕ} → place < rule_count table → NoAction (record_at table place)
    → Builds table area (Ok words) after → ⊥
unfolding told build_said
unknown_not_built {table} {place = place} inside no_action b =
    unknown_not_accepted table place inside no_action (done_accepted table _ _ (sym b.answer))

pub unknown_not_listed : {table list after : List ℕ} {count place : ℕ} → place < rule_count table → NoAction (record_at table place)
    → Pairs table list (Ok count) after → ⊥
unfolding told pairs_said
unknown_not_listed {table} {place = place} inside no_action p =
    unknown_not_accepted table place inside no_action (done_accepted table _ _ (sym p.answer))

pub unknown_not_moved : {table order output after : List ℕ} {place : ℕ} → place < rule_count table → NoAction (record_at table place)
    → Judges table order output (Ok tt) after → ⊥
unfolding told judge_said
unknown_not_moved {table} {place = place} inside no_action j =
    unknown_not_accepted table place inside no_action (done_accepted table _ _ (sym j.answer))

pub answered_action : {table area header : List ℕ} {r : Result Answer Refusal} {place : ℕ} {action : Action} → Looks table area header r → Matched r place action
    → (place < rule_count table) × (action_in (record_at table place) ≡ Some action)
answered_action {table} {area} {header} {r} {place} {action} l m =
    look_carries table area header m.0 place action (sym l.answer ∙ ap looked_said m.1)

-- lookup's own 5
pub lookup_unknown : {table area header : List ℕ} {r : Result Answer Refusal} {place : ℕ} → Looks table area header r → r ≡ Err (UnknownAction place)
    → (place < rule_count table) × NoAction (record_at table place)
unfolding told said action_in
lookup_unknown {table} {area} {header} {r} {place} l e =
    let u = look_unknown table area header place (sym l.answer ∙ ap looked_said e) in
    (u.0, (unknown_exact _ _).0 u.1)

pub lookup_unknown_there : {table other area header : List ℕ} {r s : Result Answer Refusal} {place : ℕ} {action : Action} → length other ≡ length table
    → Looks other area header s → Matched s place action → Looks table area header r → NoAction (record_at table place)
    → r ≡ Err (UnknownAction place)
unfolding told said action_in
lookup_unknown_there {table} {other} {area} {header} {r} {s} {place} {action} size m found l no_action =
    looked_one r (Err (UnknownAction place))
    (l.answer
    ∙ unknown_there table other area header found.0 place action size (sym m.answer ∙ ap looked_said found.1) ((unknown_exact _ _).1 no_action))

pub unknown_not_answered : {table area header : List ℕ} {r : Result Answer Refusal} {place : ℕ} {action : Action} → NoAction (record_at table place)
    → Looks table area header r → Matched r place action → ⊥
unfolding action_in is_unknown
unknown_not_answered {table} {place = place} no_action l m =
    let carries = (answered_action l m).1 in
    true≢false (sym (ap is_unknown ((unknown_exact _ _).1 no_action)) ∙ ap is_unknown carries)
