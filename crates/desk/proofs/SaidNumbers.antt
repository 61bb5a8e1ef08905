-- The numbers that a check after the table's may say: 0, or its own; and so which ones it never says.
-- Assumes nothing.
use mathlib.Core.Path.{◌≡◌, sym}
use mathlib.Core.Bool.{Bool, true, false, cond}
use mathlib.Core.List.{List, [], ◌∷◌}
use Rattle.std.specs.Prelude.{Option, None, Some}
use Prim.Native.Nat.{ℕ, zero, suc}
use lib.Dec.{ltb}
use lib.ListN.{length, get_or}
use Rattle.rules.specs.Refusal.{first_refusal}
use Rattle.rules.specs.Rule.{Rule}
use Rattle.rules.specs.Table.{rule_count}
use Rattle.overlap.specs.Pairs.{Pair}
use Rattle.overlap.specs.Order.{is_order}
use Rattle.desk.specs.Lent.{room_said}
use Rattle.desk.specs.JudgeCall.{order_said, output_said, crossing_said}

-- n is not the number that is said
abbrev pub NotSaid : ℕ → List ℕ → Type 0
NotSaid n says = get_or says 0 0 ≡ n → ⊥

pub first_never : (n : ℕ) (a b : List ℕ) → NotSaid n a → NotSaid n b → NotSaid n (first_refusal a b)
unfolding first_refusal
first_never n [] b p q = q
first_never n (zero ∷ vs) b p q = q
first_never n (suc m ∷ vs) b p q = p

-- one of two numbers is said, and n is neither
pub either_never : (n : ℕ) (b : Bool) (v w : List ℕ) → NotSaid n v → NotSaid n w → NotSaid n (cond b v w)
either_never n true v w p q = p
either_never n false v w p q = q

module _ (n : ℕ) where
  pub room_never : (short needed : ℕ) (lent : List ℕ) (value : ℕ) → (n ≡ 0 → ⊥) → (n ≡ short → ⊥) → NotSaid n (room_said short needed lent value)
  unfolding room_said
  room_never short needed lent value p q =
      either_never n (ltb (length lent) needed) (short ∷ []) (0 ∷ value ∷ []) (λ e. q (sym e)) (λ e. p (sym e))

  pub order_never : (table order : List ℕ) → (n ≡ 0 → ⊥) → (n ≡ 11 → ⊥) → NotSaid n (order_said table order)
  unfolding order_said
  order_never table order p q = either_never n (is_order (rule_count table) order) (0 ∷ []) (11 ∷ []) (λ e. p (sym e)) (λ e. q (sym e))

  pub output_never : (table output : List ℕ) → (n ≡ 0 → ⊥) → (n ≡ 12 → ⊥) → NotSaid n (output_said table output)
  unfolding output_said
  output_never table output p q = either_never n (ltb (length output) (length table)) (12 ∷ []) (0 ∷ []) (λ e. q (sym e)) (λ e. p (sym e))

  pub crossing_never : (rules : List Rule) (o : Option Pair) → (n ≡ 0 → ⊥) → (n ≡ 13 → ⊥) → NotSaid n (crossing_said rules o)
  unfolding crossing_said
  crossing_never rules None p q = λ e. p (sym e)
  crossing_never rules (Some c) p q = λ e. q (sym e)
