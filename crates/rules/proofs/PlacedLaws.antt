-- A refusal is said by its number and its place alone, but for the one that names a pair.
-- Assumes nothing.
use mathlib.Core.Path.{◌≡◌, refl, ap}
use mathlib.Core.List.{[], ◌∷◌}
use Prim.Native.Nat.{ℕ, ◌<◌}
use native.Mathlib.Omega.{arith}
use Rattle.std.specs.Prelude.{Option, None, Some, unwrap_or}
use Rattle.std.proofs.lemmas.Option.{none-some}
use Rattle.rules.specs.declared.Crossing.{Crossing}
use Rattle.rules.specs.declared.Refusal.{Refusal}
use Rattle.rules.specs.declared.Refusal.TheVariants.{RaggedTable, TooManyRules, LongPrefix, StrayBit, UnknownAction, SpareBytes, ShortArea, NotAHeader, DamagedArea, ShortList, NotAnOrder, ShortOutput, NotAllowed, StrayPort}
use Rattle.rules.specs.Refusal.{said, number_of, place_of}

-- the place of one that carries it
same : {p q : ℕ} → Some p ≡ Some q → p ≡ q
same {p} e = ap (λ (o : Option ℕ). unwrap_or o p) e

pub placed_said : (r : Refusal) (p : ℕ) → place_of r ≡ Some p → said r ≡ number_of r ∷ p ∷ []
unfolding said place_of number_of
placed_said RaggedTable p e = absurd (none-some p e)
placed_said TooManyRules p e = absurd (none-some p e)
placed_said (LongPrefix q) p e = ap (λ (n : ℕ). 3 ∷ n ∷ []) (same e)
placed_said (StrayBit q) p e = ap (λ (n : ℕ). 4 ∷ n ∷ []) (same e)
placed_said (UnknownAction q) p e = ap (λ (n : ℕ). 5 ∷ n ∷ []) (same e)
placed_said (SpareBytes q) p e = ap (λ (n : ℕ). 6 ∷ n ∷ []) (same e)
placed_said ShortArea p e = absurd (none-some p e)
placed_said NotAHeader p e = absurd (none-some p e)
placed_said DamagedArea p e = absurd (none-some p e)
placed_said ShortList p e = absurd (none-some p e)
placed_said NotAnOrder p e = absurd (none-some p e)
placed_said ShortOutput p e = absurd (none-some p e)
placed_said (NotAllowed c) p e = absurd (none-some p e)
placed_said (StrayPort q) p e = ap (λ (n : ℕ). 14 ∷ n ∷ []) (same e)

-- one that carries nothing
pub plain_said : (r : Refusal) → ((c : Crossing) → r ≡ NotAllowed c → ⊥) → place_of r ≡ None → said r ≡ number_of r ∷ []
unfolding said place_of number_of
plain_said RaggedTable other e = refl
plain_said TooManyRules other e = refl
plain_said (LongPrefix q) other e = cc
plain_said (StrayBit q) other e = cc
plain_said (UnknownAction q) other e = cc
plain_said (SpareBytes q) other e = cc
plain_said ShortArea other e = refl
plain_said NotAHeader other e = refl
plain_said DamagedArea other e = refl
plain_said ShortList other e = refl
plain_said NotAnOrder other e = refl
plain_said ShortOutput other e = refl
plain_said (NotAllowed c) other e = absurd (other c refl)
plain_said (StrayPort q) other e = cc

pub few_numbers : (r : Refusal) → number_of r < 15
unfolding said number_of
few_numbers RaggedTable = omega arith
few_numbers TooManyRules = omega arith
few_numbers (LongPrefix q) = omega arith
few_numbers (StrayBit q) = omega arith
few_numbers (UnknownAction q) = omega arith
few_numbers (SpareBytes q) = omega arith
few_numbers ShortArea = omega arith
few_numbers NotAHeader = omega arith
few_numbers DamagedArea = omega arith
few_numbers ShortList = omega arith
few_numbers NotAnOrder = omega arith
few_numbers ShortOutput = omega arith
few_numbers (NotAllowed c) = omega arith
few_numbers (StrayPort q) = omega arith
