-- A header's keys, one for each field.
-- Assumes nothing.
use mathlib.Core.Path.{◌≡◌, refl}
use mathlib.Core.List.{List, [], ◌∷◌}
use Prim.Native.Nat.{ℕ}
use Rattle.rules.specs.Header.{header_values}
use Rattle.index.specs.Key.{Key}
use Rattle.lookup.specs.Look.{keys_from, header_keys, widths}
use Rattle.lookup.specs.InCode.{key_at}

abbrev pub keys_of : List ℕ → List Key
keys_of header = header_keys widths (header_values header)

pub five_keys : (header : List ℕ) → keys_of header ≡ key_at header 0 ∷ key_at header 1 ∷ key_at header 2 ∷ key_at header 3 ∷ key_at header 4 ∷ []
unfolding header_keys keys_from header_values
five_keys header = refl
