-- What the desk says, in 01's own numbers and 02's: the number of each refusal and the values that it carries ("The desk's numbers").
-- An answer is said as the list of its number and then its values.
-- Assumes nothing.
use Rattle.std.specs.Prelude.{List, [], ◌∷◌, ℕ, zero, suc, get_or, Option, Some, None, Result, Ok, Err}
use Rattle.rules.specs.declared.Header.{Header}
use Rattle.rules.specs.declared.Refusal.{Refusal}
use Rattle.rules.specs.declared.Refusal.TheVariants.{RaggedTable, TooManyRules, LongPrefix, StrayBit, UnknownAction, SpareBytes, ShortArea, NotAHeader, DamagedArea, ShortList, NotAnOrder, ShortOutput, NotAllowed, StrayPort}
use Rattle.rules.specs.Header.{header_bytes}

-- the five values of a header, in their order
abbrev pub values : Header → List ℕ
values h = h.source ∷ h.destination ∷ h.sport ∷ h.dport ∷ h.protocol ∷ []

unfoldable pub said : Refusal → List ℕ
said RaggedTable = 1 ∷ []
said TooManyRules = 2 ∷ []
said (LongPrefix place) = 3 ∷ place ∷ []
said (StrayBit place) = 4 ∷ place ∷ []
said (UnknownAction place) = 5 ∷ place ∷ []
said (SpareBytes place) = 6 ∷ place ∷ []
said ShortArea = 7 ∷ []
said NotAHeader = 8 ∷ []
said DamagedArea = 9 ∷ []
said ShortList = 10 ∷ []
said NotAnOrder = 11 ∷ []
said ShortOutput = 12 ∷ []
said (NotAllowed c) = 13 ∷ c.lower ∷ c.higher ∷ header_bytes (values c.header)
said (StrayPort place) = 14 ∷ place ∷ []

-- the number alone
unfoldable pub number_of : Refusal → ℕ
number_of r = get_or (said r) 0 0

-- the one value of a refusal that carries a place
abbrev placed : List ℕ → Option ℕ
placed [] = None
placed (n ∷ []) = None
placed (n ∷ place ∷ []) = Some place
placed (n ∷ place ∷ more ∷ vs) = None

unfoldable pub place_of : Refusal → Option ℕ
place_of r = placed (said r)

-- of what is done: 0, and then the values that it carries; of a refusal: its number and its values
module _ {A : Type 0} (carried : A → List ℕ) where
  unfoldable pub told : Result A Refusal → List ℕ
  told (Ok done) = 0 ∷ carried done
  told (Err r) = said r

-- a table or a rule that is accepted is done, with nothing to carry
abbrev pub checked_said : {A : Type 0} → Result A Refusal → List ℕ
checked_said = told (λ _. [])

-- a header that is read carries its five values
abbrev pub heard_said : Result Header Refusal → List ℕ
heard_said = told values

-- what two checks say, one after the other: the first that refuses; where neither does, what the second says
unfoldable pub first_refusal : List ℕ → List ℕ → List ℕ
first_refusal [] b = b
first_refusal (zero ∷ vs) b = b
first_refusal (suc n ∷ vs) b = suc n ∷ vs
