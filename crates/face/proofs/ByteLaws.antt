-- A number's bytes as the language gives them, and what refusal 13 carries.
-- Assumes nothing.
use mathlib.Core.Path.{◌≡◌, sym, ap, ap₂, ◌∙◌}
use mathlib.Core.List.{List, [], ◌∷◌, zip_with, flatten}
use Prim.Native.Nat.{ℕ, ◌/◌, ◌%◌, ◌^◌, ◌<◌}
use native.Mathlib.Nat.{div-one}
use native.Mathlib.Omega.{arith}
use lib.ListN.{get_or}
use Rattle.std.specs.Int.{w16, w32, to_be_bytes}
use Rattle.bits.specs.Number.{bytes_of}
use Rattle.rules.specs.declared.Crossing.{Crossing}
use Rattle.rules.specs.declared.Refusal.TheVariants.{NotAllowed}
use Rattle.rules.specs.Header.{header_bytes}
use Rattle.rules.specs.Refusal.{said}

pub one_byte : (v : ℕ) → v ∷ [] ≡ bytes_of 1 v
unfolding bytes_of
one_byte v = ap (λ (b : ℕ). b ∷ []) (sym (div-one v))

pub two_bytes : (v : ℕ) → v < 2 ^ 16 → to_be_bytes w16 v ≡ bytes_of 2 v
unfolding bytes_of
two_bytes v h =
    let high : v / 256 % 256 ≡ v / 256 = omega arith in
    ap₂ ◌∷◌ high (one_byte (v % 256))

pub four_bytes : (v : ℕ) → v < 2 ^ 32 → to_be_bytes w32 v ≡ bytes_of 4 v
unfolding bytes_of
four_bytes v h =
    let first : v / 16777216 % 256 ≡ v / 16777216 = omega arith in
    let second : v / 65536 % 256 ≡ v % 16777216 / 65536 = omega arith in
    let third : v / 256 % 256 ≡ v % 16777216 % 65536 / 256 = omega arith in
    let last : v % 256 ≡ v % 16777216 % 65536 % 256 = omega arith in
    ap₂ ◌∷◌ first (ap₂ ◌∷◌ second (ap₂ ◌∷◌ third (ap (λ (b : ℕ). b ∷ []) last ∙ one_byte (v % 16777216 % 65536 % 256))))

-- "pair, header"
pub crossing_bytes : (c : Crossing) (s d sp dp : List ℕ) → s ≡ bytes_of 4 c.header.source → d ≡ bytes_of 4 c.header.destination → sp ≡ bytes_of 2 c.header.sport → dp ≡ bytes_of 2 c.header.dport
    → said (NotAllowed c)
    ≡ 13 ∷ c.lower ∷ c.higher ∷ get_or s 0 0 ∷ get_or s 1 0 ∷ get_or s 2 0 ∷ get_or s 3 0 ∷ get_or d 0 0 ∷ get_or d 1 0 ∷ get_or d 2 0 ∷ get_or d 3 0 ∷ get_or sp 0 0 ∷ get_or sp 1 0 ∷ get_or dp 0 0 ∷ get_or dp 1 0 ∷ c.header.protocol ∷ []
unfolding said header_bytes bytes_of zip_with flatten
crossing_bytes c s d sp dp es ed esp edp = rw (es, ed, esp, edp, div-one c.header.protocol)
