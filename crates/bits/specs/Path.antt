-- Bits from the top, prefixes as paths of bits, and what leads what.
-- Assumes nothing.
use Rattle.std.specs.Prelude.{Bool, true, false, ◌&&◌, List, [], ◌∷◌, ℕ, zero, suc, ◌-◌, ◌*◌, ◌/◌, ◌%◌, ◌^◌, eqb, take, drop}
use Rattle.std.specs.Bool.{beq}
use Rattle.bits.specs.Tests.{any}

-- a path is a list of bits, the top one first
abbrev pub Path : Type 0
Path = List Bool

-- the bits of a value at a width
unfoldable pub bits : ℕ → ℕ → Path
bits zero v = []
bits (suc w) v = eqb (v / 2 ^ w % 2) 1 ∷ bits w v

-- the prefix v/l at a width: the first l bits of v
unfoldable pub prefix : ℕ → ℕ → ℕ → Path
prefix w v l = take l (bits w v)

-- the first path is a leading part of the second, an equal one included
unfoldable pub leads : Path → Path → Bool
leads [] q = true
leads (a ∷ p) [] = false
leads (a ∷ p) (b ∷ q) = beq a b && leads p q

-- a bit of v after the prefix v/l is set
unfoldable pub stray : ℕ → ℕ → ℕ → Bool
stray w v l = any (λ b. b) (drop l (bits w v))

-- v with the bits after its first l cleared
abbrev pub cut : ℕ → ℕ → ℕ → ℕ
cut w v l = v / 2 ^ (w - l) * 2 ^ (w - l)

unfoldable pub same_path : Path → Path → Bool
same_path [] [] = true
same_path [] (b ∷ q) = false
same_path (a ∷ p) [] = false
same_path (a ∷ p) (b ∷ q) = beq a b && same_path p q

-- the length of the longest leading part that two paths have in common
unfoldable pub common : Path → Path → ℕ
common [] q = 0
common (a ∷ p) [] = 0
common (a ∷ p) (b ∷ q) = elim (beq a b) [ true ↦ suc (common p q) | false ↦ 0 ]

-- bit j of v at width w, counted from the top, as a number
abbrev pub bit_of : ℕ → ℕ → ℕ → ℕ
bit_of w v j = v / 2 ^ (w - 1 - j) % 2
