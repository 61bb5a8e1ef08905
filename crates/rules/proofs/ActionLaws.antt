-- The test of two actions is their equality, and an action is known or unknown.
-- Assumes nothing.
use mathlib.Core.Path.{◌≡◌, refl, ap}
use mathlib.Core.Bool.{true, false, false≢true, true≢false}
use Prim.Native.Nat.{ℕ}
use borrow.Author.Tests.{eqb-true, eq-eqb}
use Rattle.rules.specs.declared.Action.{Action}
use Rattle.rules.specs.declared.Action.TheVariants.{Hold, Deliver}
use Rattle.std.specs.Prelude.{Option, Some, None}
use Rattle.rules.specs.Action.{is_unknown, same_action}

pub same_action_lem : (a b : Option Action) → same_action a b ≡ true → a ≡ b
unfolding same_action
same_action_lem (Some Hold) (Some Hold) e = refl
same_action_lem (Some Hold) (Some (Deliver g)) e = absurd (false≢true e)
same_action_lem (Some Hold) None e = absurd (false≢true e)
same_action_lem (Some (Deliver f)) (Some Hold) e = absurd (false≢true e)
same_action_lem (Some (Deliver f)) (Some (Deliver g)) e = ap (λ (n : ℕ). Some (Deliver n)) (eqb-true f g e)
same_action_lem (Some (Deliver f)) None e = absurd (false≢true e)
same_action_lem None (Some b) e = absurd (false≢true e)
same_action_lem None None e = refl

pub action_same : (a b : Option Action) → a ≡ b → same_action a b ≡ true
action_same a b e = rw (← e) (self a)
  where
    self : (a : Option Action) → same_action a a ≡ true
    self (Some Hold) = unfold same_action in refl
    self (Some (Deliver f)) = unfold same_action in eq-eqb f f refl
    self None = unfold same_action in refl

pub known : (d : Option Action) → is_unknown d ≡ false → (a : Action) × (d ≡ Some a)
unfolding is_unknown
known (Some a) e = (a, refl)
known None e = absurd (true≢false e)

pub unknown : (d : Option Action) → is_unknown d ≡ true → d ≡ None
unfolding is_unknown
unknown (Some a) e = absurd (false≢true e)
unknown None e = refl

pub known_one : {a b : Action} → Some a ≡ Some b → a ≡ b
known_one {a} e = ap told e
  where
    told : Option Action → Action
    told (Some x) = x
    told None = a
