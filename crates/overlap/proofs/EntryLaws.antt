-- A list of pairs as entries, "two per pair, lower place first": pair k stands at entries 2k and 2k + 1.
-- Assumes nothing.
use mathlib.Core.Path.{◌≡◌, refl, ap, ◌∙◌}
use mathlib.Core.List.{List, [], ◌∷◌, ◌++◌}
use Prim.Native.Nat.{ℕ, zero, suc, ◌+◌, ◌*◌, ◌<◌}
use native.Mathlib.Omega.{arith}
use lib.ListN.{length, get_or}
use Rattle.overlap.specs.Pairs.{Pair, entries}

pub pair_entries : (d : Pair) (rest : List ℕ) (ps : List Pair) (k : ℕ) → k < length ps
    → (get_or (entries ps ++ rest) (2 * k) 0 ≡ (get_or ps k d).lower) × (get_or (entries ps ++ rest) (2 * k + 1) 0 ≡ (get_or ps k d).higher)
unfolding entries
pair_entries d rest [] k h = absurd (omega arith)
pair_entries d rest (p ∷ ps) zero h = (refl, refl)
pair_entries d rest (p ∷ ps) (suc k) h =
    let low : 2 * suc k ≡ suc (suc (2 * k)) = omega arith in
    let high : 2 * suc k + 1 ≡ suc (suc (2 * k + 1)) = omega arith in
    let at : ℕ → ℕ = λ n. get_or (entries (p ∷ ps) ++ rest) n 0 in
    let later = pair_entries d rest ps k (omega arith) in
    (ap at low ∙ later.0, ap at high ∙ later.1)
