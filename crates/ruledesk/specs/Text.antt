-- Text as the codes of its characters, and a number in decimal.
-- Assumes nothing.
use Rattle.std.specs.Prelude.{true, false, List, [], ◌∷◌, ◌++◌, ℕ, zero, suc, ◌+◌, ◌/◌, ◌%◌, ltb}
use Prim.Native.Char.{code}
use Prim.Native.String as string

abbrev pub codes : string.String → List ℕ
codes string.[] = []
codes (string.◌∷◌ c s) = code c ∷ codes s

-- the character of a digit
abbrev pub digit_code : ℕ → ℕ
digit_code d = code "0" + d

-- a number of at most so many digits, the highest first and never a zero in front of others
unfoldable pub decimal_within : ℕ → ℕ → List ℕ
decimal_within zero n = []
decimal_within (suc most) n = elim (ltb n 10) [ true ↦ digit_code n ∷ [] | false ↦ decimal_within most (n / 10) ++ (digit_code (n % 10) ∷ []) ]

-- n has at most n + 1 digits
unfoldable pub decimal : ℕ → List ℕ
decimal n = decimal_within (suc n) n
