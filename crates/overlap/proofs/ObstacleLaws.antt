-- The search for the first pair that stands in the way, in the code's loops; and what it finds is what the judgement says, where the
-- table holds the order's new places.
-- Assumes nothing.
use mathlib.Core.Path.{◌≡◌, refl, sym, ap, ap₂, ◌∙◌}
use mathlib.Core.Bool.{Bool, true, false, ◌&&◌}
use mathlib.Core.List.{List, [], ◌∷◌, ◌++◌, nil≢cons, cons≢nil}
use native.Mathlib.Nat.{add-zero}
use Rattle.std.specs.Prelude.{Option, None, Some, MatchOption}
use Rattle.rules.specs.declared.Crossing.{Crossing}
use Prim.Native.Nat.{ℕ, zero, suc, ◌+◌, ◌-◌, ◌≤◌, ◌<◌}
use native.Mathlib.Omega.{arith}
use lib.Dec.{ltb}
use lib.ListN.{length, get_or}
use Rattle.rules.specs.Rule.{Rule}
use Rattle.rules.specs.Match.{rule_at}
use Rattle.rules.specs.Table.{rule_count, rules_of}
use Rattle.rules.proofs.MatchLaws.{rules_size}
use Rattle.overlap.specs.Pairs.{Pair, row, triangle, first_of, on_pair}
use Rattle.overlap.specs.Order.{new_place}
use Rattle.overlap.specs.Judge.{clashes, overtaken, crossing}
use Rattle.overlap.specs.Steps.{Inverts}
use Rattle.overlap.specs.Obstacle.{overtaken_by, pair_told, found_told, first_told, crossing_told, obstacle_told}
use Rattle.overlap.proofs.SortedLaws.{pair}
use Rattle.overlap.proofs.TriangleLaws.{triangle_exact}
use Rattle.overlap.proofs.KeepLaws.{first_here, first_later, first_left, first_right, first_same}
use Rattle.overlap.proofs.LoopLaws.{row_turn, row_over, triangle_turn, triangle_over}

-- ---- what is told

-- of place i with a place, or with none
abbrev pub with_place : List Rule → ℕ → Option ℕ → List ℕ
with_place rules i None = []
with_place rules i (Some j) = pair_told rules i j

module _ (rules : List Rule) (places : List ℕ) where
  abbrev test : Pair → Bool
  test p = overtaken_by rules places p.lower p.higher

  told_left : (ps qs : List Pair) (v : ℕ) (vs : List ℕ) → first_told rules places ps ≡ v ∷ vs → first_told rules places (ps ++ qs) ≡ v ∷ vs
  unfolding first_told found_told
  told_left ps qs v vs e = go (first_of test ps) refl e
    where
      go : (o : Option Pair) → first_of test ps ≡ o → found_told rules o ≡ v ∷ vs → found_told rules (first_of test (ps ++ qs)) ≡ v ∷ vs
      go None f q = absurd (nil≢cons q)
      go (Some p) f q = ap (found_told rules) (first_left test ps qs p f) ∙ q

  told_right : (ps qs : List Pair) → first_told rules places ps ≡ [] → first_told rules places (ps ++ qs) ≡ first_told rules places qs
  unfolding first_told found_told pair_told
  told_right ps qs e = go (first_of test ps) refl e
    where
      go : (o : Option Pair) → first_of test ps ≡ o → found_told rules o ≡ [] → found_told rules (first_of test (ps ++ qs)) ≡ found_told rules (first_of test qs)
      go None f q = ap (found_told rules) (first_right test ps qs f)
      go (Some p) f q = absurd (cons≢nil q)

  -- ---- in a row

  module _ (n i j : ℕ) where
    pub row_here : j < n → overtaken_by rules places i j ≡ true → first_told rules places (row i j (n - j)) ≡ pair_told rules i j
    unfolding first_told found_told row
    row_here h e =
        ap (λ ps. found_told rules (first_of test ps)) (row_turn n i j h)
        ∙ ap (found_told rules) (first_here test (pair i j) (row i (j + 1) (n - (j + 1))) e)

    pub row_later : j < n → overtaken_by rules places i j ≡ false → first_told rules places (row i j (n - j)) ≡ first_told rules places (row i (j + 1) (n - (j + 1)))
    unfolding first_told row
    row_later h e =
        ap (λ ps. found_told rules (first_of test ps)) (row_turn n i j h)
        ∙ ap (found_told rules) (first_later test (pair i j) (row i (j + 1) (n - (j + 1))) e)

    pub row_none : n ≤ j → first_told rules places (row i j (n - j)) ≡ []
    unfolding first_told found_told first_of
    row_none h = ap (first_told rules places) (row_over n i j h)

  -- ---- row after row

  module _ (n i : ℕ) where
    pub rows_here : i < n → (v : ℕ) (vs : List ℕ) → first_told rules places (row i (i + 1) (n - (i + 1))) ≡ v ∷ vs → first_told rules places (triangle i (n - i)) ≡ v ∷ vs
    rows_here h v vs e =
        ap (first_told rules places) (triangle_turn n i h) ∙ told_left (row i (i + 1) (n - (i + 1))) (triangle (i + 1) (n - (i + 1))) v vs e

    pub rows_later : i < n → first_told rules places (row i (i + 1) (n - (i + 1))) ≡ []
        → first_told rules places (triangle i (n - i)) ≡ first_told rules places (triangle (i + 1) (n - (i + 1)))
    rows_later h e =
        ap (first_told rules places) (triangle_turn n i h) ∙ told_right (row i (i + 1) (n - (i + 1))) (triangle (i + 1) (n - (i + 1))) e

    pub rows_none : n ≤ i → first_told rules places (triangle i (n - i)) ≡ []
    unfolding first_told found_told first_of
    rows_none h = ap (first_told rules places) (triangle_over n i h)

  -- ---- the first that a search finds

  -- what stays from each number to the next is the same at the last as at the first
  carried : (T : ℕ → List ℕ) (a d : ℕ) → ((j : ℕ) → a ≤ j → j < a + d → T j ≡ T (j + 1)) → T a ≡ T (a + d)
  carried T a zero h = ap T (sym (add-zero a))
  carried T a (suc d) h =
      let e : a + d + 1 ≡ a + suc d = omega arith in
      carried T a d (λ j l g. h j l (omega arith)) ∙ h (a + d) (omega arith) (omega arith) ∙ ap T e

  along : (T : ℕ → List ℕ) (a b : ℕ) → a ≤ b → ((j : ℕ) → a ≤ j → j < b → T j ≡ T (j + 1)) → T a ≡ T b
  along T a b l h =
      let e : a + (b - a) ≡ b = omega arith in
      carried T a (b - a) (λ j low high. h j low (omega arith)) ∙ ap T e

  pub found_in_row : (n i a : ℕ) → a ≤ n → (o : Option ℕ)
      → MatchOption o ((j : ℕ) → a ≤ j → j < n → overtaken_by rules places i j ≡ false)
      (λ j. (a ≤ j) × (j < n) × (overtaken_by rules places i j ≡ true) × ((k : ℕ) → a ≤ k → k < j → overtaken_by rules places i k ≡ false))
      → with_place rules i o ≡ first_told rules places (row i a (n - a))
  found_in_row n i a l None passed =
      sym
      (along (λ j. first_told rules places (row i j (n - j))) a n l (λ j low high. row_later n i j high (passed j low high))
      ∙ row_none n i n (omega arith))
  found_in_row n i a l (Some j) first =
      sym
      (along (λ j. first_told rules places (row i j (n - j))) a j first.0 (λ k low high. row_later n i k (omega (arith, first.1)) (first.3 k low high))
      ∙ row_here n i j first.1 first.2)

  -- the answers of the rows, one after another
  abbrev pub Says : ℕ → ℕ → Option Crossing → Type 0
  Says n i r = obstacle_told r ≡ first_told rules places (row i (i + 1) (n - (i + 1)))

  pub found_in_rows : (n : ℕ) (r : Option Crossing)
      → MatchOption r ((j : ℕ) → 0 ≤ j → j < n → Says n j None) (λ y. (i : ℕ) × (0 ≤ i) × (i < n) × Says n i (Some y) × ((j : ℕ) → 0 ≤ j → j < i → Says n j None))
      → obstacle_told r ≡ first_told rules places (triangle 0 n)
  unfolding obstacle_told crossing_told
  found_in_rows n r h = go r h ∙ ap (λ (m : ℕ). first_told rules places (triangle 0 m)) whole
    where
      whole : n - 0 ≡ n
      whole = omega arith

      go : (r : Option Crossing)
          → MatchOption r ((j : ℕ) → 0 ≤ j → j < n → Says n j None) (λ y. (i : ℕ) × (0 ≤ i) × (i < n) × Says n i (Some y) × ((j : ℕ) → 0 ≤ j → j < i → Says n j None))
          → obstacle_told r ≡ first_told rules places (triangle 0 (n - 0))
      go None none =
          sym
          (along (λ j. first_told rules places (triangle j (n - j))) 0 n (omega arith) (λ j low high. rows_later n j high (sym (none j low high)))
          ∙ rows_none n n (omega arith))
      go (Some y) (i, low, inside, here, none) =
          sym
          (along (λ j. first_told rules places (triangle j (n - j))) 0 i low (λ j l high. rows_later n j (omega (arith, inside)) (sym (none j l high)))
          ∙ rows_here n i inside _ _ (sym here))

-- ---- by an order's new places, this is the judgement

told_crossing : (rules : List Rule) (places order : List ℕ) → ((i : ℕ) → i < length rules → get_or places i 0 ≡ new_place order i)
    → first_told rules places (triangle 0 (length rules)) ≡ found_told rules (crossing rules order)
unfolding first_told crossing overtaken_by overtaken on_pair
told_crossing rules places order new =
    ap (found_told rules)
    (first_same (λ (p : Pair). overtaken_by rules places p.lower p.higher) (overtaken rules order) (triangle 0 (length rules))
    (λ p m.
    let w = (triangle_exact (length rules) p).0 m in
    ap₂ (λ (a b : ℕ). ltb b a && clashes (rule_at rules p.lower) (rule_at rules p.higher)) (new p.lower (omega arith)) (new p.higher w.inside)))

pub told_order : (table order places : List ℕ) → Inverts (rule_count table) order places
    → first_told (rules_of table) places (triangle 0 (rule_count table)) ≡ found_told (rules_of table) (crossing (rules_of table) order)
told_order table order places inv =
    ap (λ (n : ℕ). first_told (rules_of table) places (triangle 0 n)) (sym (rules_size table))
    ∙ told_crossing (rules_of table) places order (λ i h. inv.new i (omega (arith, rules_size table)))
