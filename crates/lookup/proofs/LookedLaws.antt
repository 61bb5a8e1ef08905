-- What is said fixes the answer: no two answers of a lookup say the same. A match is one place with one action, and never no match.
-- Assumes nothing.
use Rattle.rules.specs.declared.Refusal.{Refusal}
use Rattle.lookup.specs.declared.Answer.{Answer}
use Rattle.std.specs.Prelude.{Result, Ok, Err}
use mathlib.Core.Path.{◌≡◌, refl, ap}
use mathlib.Core.List.{List, [], ◌∷◌}
use Prim.Native.Nat.{ℕ, zero, suc}
use native.Mathlib.Omega.{arith}
use lib.ListN.{get_or, drop}
use Rattle.rules.specs.declared.Action.{Action}
use Rattle.rules.specs.declared.Action.TheVariants.{Hold, Deliver}
use Rattle.rules.proofs.SaidLaws.{told_one}
use Rattle.rules.specs.Refusal.{told}
use Rattle.lookup.specs.declared.Outcome.{Outcome}
use Rattle.lookup.specs.declared.Outcome.TheVariants.{NoMatch, Match}
use Rattle.lookup.specs.Said.{action_values}
use Rattle.lookup.specs.InCode.{outcome_said, answer_values, looked_said}

-- ---- an answer from its values

action_from : List ℕ → Action
action_from [] = Hold
action_from (zero ∷ vs) = Hold
action_from (suc n ∷ vs) = Deliver (get_or vs 0 0)

action_back : (a : Action) → action_from (action_values a) ≡ a
unfolding action_from action_values
action_back Hold = refl
action_back (Deliver feed) = refl

outcome_from : List ℕ → Outcome
outcome_from [] = NoMatch
outcome_from (zero ∷ vs) = NoMatch
outcome_from (suc n ∷ vs) = Match (get_or vs 0 0) (action_from (drop 1 vs))

outcome_back : (o : Outcome) → outcome_from (outcome_said o) ≡ o
unfolding outcome_from outcome_said
outcome_back NoMatch = refl
outcome_back (Match place action) = ap (Match place) (action_back action)

answer_of_values : List ℕ → Answer
answer_of_values vs = record { falses = get_or vs 0 0; outcome = outcome_from (drop 1 vs) }

answer_back : (a : Answer) → answer_of_values (answer_values a) ≡ a
unfolding answer_of_values
answer_back a = ap (λ (o : Outcome). record { falses = a.falses; outcome = o }) (outcome_back a.outcome)

pub looked_one : (a b : Result Answer Refusal) → looked_said a ≡ looked_said b → a ≡ b
looked_one = told_one answer_values answer_of_values answer_back

-- ---- matches

abbrev matched : ℕ → ℕ → Action → Result Answer Refusal
matched falses place action = Ok (record { falses = falses; outcome = Match place action })

pub match_one : {f g p q : ℕ} {a b : Action} → matched f p a ≡ matched g q b → (p ≡ q) × (a ≡ b)
match_one {f} {g} {p} {q} {a} {b} e = (ap (λ (o : Outcome). place_of o) same, ap (λ (o : Outcome). action_of o) same)
  where
    outcome_of : Result Answer Refusal → Outcome
    outcome_of (Ok x) = x.outcome
    outcome_of (Err r) = NoMatch

    place_of : Outcome → ℕ
    place_of NoMatch = p
    place_of (Match place action) = place

    action_of : Outcome → Action
    action_of NoMatch = a
    action_of (Match place action) = action

    same : Match p a ≡ Match q b
    same = ap outcome_of e

pub match_some : {f g p : ℕ} {a : Action} → matched f p a ≡ Ok (record { falses = g; outcome = NoMatch }) → ⊥
unfolding told outcome_said
match_some e = omega (arith, ap (λ (r : Result Answer Refusal). get_or (looked_said r) 2 0) e)
