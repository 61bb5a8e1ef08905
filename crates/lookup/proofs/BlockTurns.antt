-- The blocks one after another, with the false ones counted so far.
-- Assumes nothing.
use mathlib.Core.Path.{◌≡◌, sym, ap, ◌∙◌}
use mathlib.Core.Bool.{Bool, true, false}
use mathlib.Core.List.{List, [], ◌∷◌, map}
use Rattle.std.specs.Prelude.{None, Some}
use Prim.Native.Nat.{ℕ, suc, ◌+◌, ◌-◌, ◌*◌, ◌≤◌, ◌<◌}
use native.Mathlib.Nat.{add-zero, zero-add}
use native.Mathlib.Numerals.{add-one}
use native.Mathlib.Omega.{arith}
use lib.Count.{count_trailing_zeros}
use lib.ListN.{length, get_or}
use borrow.Author.Tests.{eq-eqb, ne_eqb}
use Rattle.bits.proofs.ListLaws.{five_elements}
use Rattle.area.specs.Shape.{blocks}
use Rattle.lookup.specs.Scan.{Found, found, scan}
use Rattle.lookup.proofs.ScanLaws.{scan_past, scan_false, scan_wins}

-- n false blocks were counted before
abbrev pub counted : ℕ → Found → Found
counted n r = found r.place (n + r.falses)

pub counted_none : (r : Found) → counted 0 r ≡ r
counted_none r = ap (found r.place) (zero-add r.falses)

module _ (tried : ℕ → Bool) (word : ℕ → ℕ) where
  module _ (b : ℕ) (small : b < blocks) (n : ℕ) where
    -- the blocks from b on are b and the rest
    turn : scan 32 tried word (blocks - b) b ≡ scan 32 tried word (suc (blocks - (b + 1))) b
    turn = let e : blocks - b ≡ suc (blocks - (b + 1)) = omega arith in ap (λ (k : ℕ). scan 32 tried word k b) e

    pub block_past : tried b ≡ false → counted n (scan 32 tried word (blocks - b) b) ≡ counted n (scan 32 tried word (blocks - (b + 1)) (b + 1))
    block_past e = ap (counted n) (turn ∙ scan_past 32 tried word (blocks - (b + 1)) b e ∙ ap (scan 32 tried word (blocks - (b + 1))) (sym (add-one b)))

    pub block_false : tried b ≡ true → word b ≡ 0 → counted n (scan 32 tried word (blocks - b) b) ≡ counted (n + 1) (scan 32 tried word (blocks - (b + 1)) (b + 1))
    block_false e z =
        let more : Found → Found = λ r. found r.place (suc r.falses) in
        let s : Found = scan 32 tried word (blocks - (b + 1)) (b + 1) in
        let f : n + suc s.falses ≡ n + 1 + s.falses = omega arith in
        ap (counted n)
        (turn ∙ scan_false 32 tried word (blocks - (b + 1)) b e (eq-eqb (word b) 0 z) ∙ ap (λ (i : ℕ). more (scan 32 tried word (blocks - (b + 1)) i)) (sym (add-one b)))
        ∙ ap (found s.place) f

    pub block_wins : tried b ≡ true → (word b ≡ 0 → ⊥) → counted n (scan 32 tried word (blocks - b) b) ≡ found (Some (b * 32 + count_trailing_zeros 32 (word b))) n
    block_wins e z =
        ap (counted n) (turn ∙ scan_wins 32 tried word (blocks - (b + 1)) b e (ne_eqb (word b) 0 z))
        ∙ ap (found (Some (b * 32 + count_trailing_zeros 32 (word b)))) (add-zero n)

  pub blocks_done : (b n : ℕ) → blocks ≤ b → counted n (scan 32 tried word (blocks - b) b) ≡ found None n
  unfolding scan
  blocks_done b n h =
      let e : blocks - b ≡ 0 = omega arith in
      ap (λ (k : ℕ). counted n (scan 32 tried word k b)) e ∙ ap (found None) (add-zero n)

-- the word of block b in each of five vectors
pub column_five : (vectors : List (List ℕ)) (b : ℕ) → length vectors ≡ 5
    → get_or (get_or vectors 0 []) b 0 ∷ get_or (get_or vectors 1 []) b 0 ∷ get_or (get_or vectors 2 []) b 0 ∷ get_or (get_or vectors 3 []) b 0 ∷ get_or (get_or vectors 4 []) b 0 ∷ []
    ≡ map (λ v. get_or v b 0) vectors
column_five vectors b h = sym (ap (map (λ v. get_or v b 0)) (five_elements [] vectors h))
