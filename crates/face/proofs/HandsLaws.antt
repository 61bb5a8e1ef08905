-- An answer that says what one value says, says it of every value equal to it; and of a call's answer it says what is told of it.
-- Assumes nothing.
use mathlib.Core.Path.{◌≡◌, sym, ap, subst}
use mathlib.Core.List.{List, ◌∷◌}
use Prim.Native.Nat.{ℕ}
use Rattle.std.specs.Prelude.{Result, Ok, Err, MatchResult}
use Rattle.rules.specs.declared.Refusal.{Refusal}
use Rattle.rules.specs.Refusal.{said, told}
use Rattle.face.specs.declared.Answer.{Answer}
use Rattle.face.specs.Hands.{Hands}

pub hands_same : {A : Type 0} (say : A → List ℕ) {x y : A} {r : Answer} → x ≡ y → Hands (say y) r → Hands (say x) r
hands_same say {r = r} same h = subst (λ (vs : List ℕ). Hands vs r) (ap say (sym same)) h

-- what is done hands over what it carries, and a refusal what is said of it
pub hands_call : {A : Type 0} (carried : A → List ℕ) (r : Result A Refusal) {says : List ℕ} {out : Answer} {Done : A → Type 0} {Refused : Refusal → Type 0}
    → told carried r ≡ says → ((x : A) → Done x → Hands (0 ∷ carried x) out) → ((e : Refusal) → Refused e → Hands (said e) out)
    → MatchResult r Done Refused → Hands says out
unfolding told
hands_call carried (Ok x) {out = out} says done refused m = subst (λ (vs : List ℕ). Hands vs out) says (done x m)
hands_call carried (Err e) {out = out} says done refused m = subst (λ (vs : List ℕ). Hands vs out) says (refused e m)
