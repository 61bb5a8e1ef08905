-- What is said fixes the answer: no two refusals, and no two answers of a check or of a reading, say the same.
-- Assumes nothing.
use mathlib.Core.Path.{◌≡◌, refl, sym, ap, ◌∙◌}
use mathlib.Core.List.{List, [], ◌∷◌, zip_with, flatten}
use Prim.Native.Nat.{ℕ, zero, suc}
use lib.ListN.{get_or, drop}
use Rattle.std.specs.Prelude.{Result, Ok, Err}
use Rattle.bits.specs.Number.{number_at, bytes_of}
use Rattle.bits.proofs.NumberLaws.{number_bytes}
use Rattle.rules.specs.declared.Header.{Header}
use Rattle.rules.specs.declared.Refusal.{Refusal}
use Rattle.rules.specs.declared.Refusal.TheVariants.{RaggedTable, TooManyRules, LongPrefix, StrayBit, UnknownAction, SpareBytes, ShortArea, NotAHeader, DamagedArea, ShortList, NotAnOrder, ShortOutput, NotAllowed, StrayPort}
use Rattle.rules.specs.Header.{header_bytes}
use Rattle.rules.specs.Refusal.{values, said, told, checked_said, heard_said, first_refusal}

-- ---- a header from its bytes, and from its values

header_from_bytes : List ℕ → Header
header_from_bytes bs = record {
  source = number_at bs 0 4;
  destination = number_at bs 4 4;
  sport = number_at bs 8 2;
  dport = number_at bs 10 2;
  protocol = number_at bs 12 1;
}

from_header : (h : Header) → header_from_bytes (header_bytes (values h)) ≡ h
unfolding header_from_bytes header_bytes number_at bytes_of zip_with flatten
from_header h = λ i. record {
  source = number_bytes 3 h.source i;
  destination = number_bytes 3 h.destination i;
  sport = number_bytes 1 h.sport i;
  dport = number_bytes 1 h.dport i;
  protocol = number_bytes 0 h.protocol i;
}

from_values : List ℕ → Header
from_values vs = record {
  source = get_or vs 0 0;
  destination = get_or vs 1 0;
  sport = get_or vs 2 0;
  dport = get_or vs 3 0;
  protocol = get_or vs 4 0;
}

-- ---- the refusal from its number and values

refusals : List ℕ → List Refusal
refusals vs =
    let p = get_or vs 0 0 in
    RaggedTable
    ∷ TooManyRules
    ∷ LongPrefix p
    ∷ StrayBit p
    ∷ UnknownAction p
    ∷ SpareBytes p
    ∷ ShortArea
    ∷ NotAHeader
    ∷ DamagedArea
    ∷ ShortList
    ∷ NotAnOrder
    ∷ ShortOutput
    ∷ NotAllowed (record { lower = p; higher = get_or vs 1 0; header = header_from_bytes (drop 2 vs) })
    ∷ StrayPort p
    ∷ []

-- from number 1 on
pub unsaid : List ℕ → Refusal
unsaid [] = RaggedTable
unsaid (zero ∷ vs) = RaggedTable
unsaid (suc n ∷ vs) = get_or (refusals vs) n RaggedTable

unsaid_said : (r : Refusal) → unsaid (said r) ≡ r
unfolding unsaid refusals said
unsaid_said RaggedTable = refl
unsaid_said TooManyRules = refl
unsaid_said (LongPrefix p) = refl
unsaid_said (StrayBit p) = refl
unsaid_said (UnknownAction p) = refl
unsaid_said (SpareBytes p) = refl
unsaid_said ShortArea = refl
unsaid_said NotAHeader = refl
unsaid_said DamagedArea = refl
unsaid_said ShortList = refl
unsaid_said NotAnOrder = refl
unsaid_said ShortOutput = refl
unsaid_said (NotAllowed c) = ap (λ (h : Header). NotAllowed (record { lower = c.lower; higher = c.higher; header = h })) (from_header c.header)
unsaid_said (StrayPort p) = refl

pub said_one : (a b : Refusal) → said a ≡ said b → a ≡ b
said_one a b e = sym (unsaid_said a) ∙ ap unsaid e ∙ unsaid_said b

-- ---- a refusal is no success

-- the refusal's number is above 0
pub numbered : (r : Refusal) → (n : ℕ) × (vs : List ℕ) × (said r ≡ suc n ∷ vs)
unfolding said
numbered RaggedTable = (0, [], refl)
numbered TooManyRules = (1, [], refl)
numbered (LongPrefix p) = (2, _, refl)
numbered (StrayBit p) = (3, _, refl)
numbered (UnknownAction p) = (4, _, refl)
numbered (SpareBytes p) = (5, _, refl)
numbered ShortArea = (6, [], refl)
numbered NotAHeader = (7, [], refl)
numbered DamagedArea = (8, [], refl)
numbered ShortList = (9, [], refl)
numbered NotAnOrder = (10, [], refl)
numbered ShortOutput = (11, [], refl)
numbered (NotAllowed c) = (12, _, refl)
numbered (StrayPort p) = (13, _, refl)

-- so after a refusal nothing more is asked
pub refused_first : (r : Refusal) (b : List ℕ) → first_refusal (said r) b ≡ said r
unfolding first_refusal
refused_first r b = let k = numbered r in rw k.2

-- ---- the answer of a call, which is done with some values or a refusal

module _ {A : Type 0} where
  -- the answer from what is said
  abbrev pub answer_from : (List ℕ → A) → (Refusal → A) → List ℕ → A
  answer_from done refuse [] = done []
  answer_from done refuse (zero ∷ vs) = done vs
  answer_from done refuse (suc n ∷ vs) = refuse (unsaid (suc n ∷ vs))

  pub answer_refused : (done : List ℕ → A) (refuse : Refusal → A) (r : Refusal) → answer_from done refuse (said r) ≡ refuse r
  answer_refused done refuse r =
      let k = numbered r in
      ap (answer_from done refuse) k.2 ∙ ap (λ (vs : List ℕ). refuse (unsaid vs)) (sym k.2) ∙ ap refuse (unsaid_said r)

  -- what can be read back is said by one answer alone
  pub one_answer : (say : A → List ℕ) (from : List ℕ → A) → ((a : A) → from (say a) ≡ a) → (a b : A) → say a ≡ say b → a ≡ b
  one_answer say from back a b e = sym (back a) ∙ ap from e ∙ back b

-- so are the values of what is done, and the refusal
module _ {A : Type 0} (carried : A → List ℕ) (read : List ℕ → A) (back : (a : A) → read (carried a) ≡ a) where
  from_told : List ℕ → Result A Refusal
  from_told = answer_from (λ vs. Ok (read vs)) (λ r. Err r)

  told_back : (a : Result A Refusal) → from_told (told carried a) ≡ a
  unfolding told from_told
  told_back (Ok a) = ap (λ (x : A). Ok x) (back a)
  told_back (Err r) = answer_refused (λ vs. Ok (read vs)) (λ r. Err r) r

  pub told_one : (a b : Result A Refusal) → told carried a ≡ told carried b → a ≡ b
  told_one = one_answer (told carried) from_told told_back

pub checked_one : (a b : Result Unit Refusal) → checked_said a ≡ checked_said b → a ≡ b
checked_one = told_one (λ _. []) (λ _. tt) (λ _. refl)

pub heard_one : (a b : Result Header Refusal) → heard_said a ≡ heard_said b → a ≡ b
unfolding from_values
heard_one = told_one values from_values (λ _. refl)
