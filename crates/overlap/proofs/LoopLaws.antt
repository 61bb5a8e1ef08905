-- Loops over pairs, in the code's `i + 1`: a row is its first pair and the row after it, all pairs from a place on are that place's row and
-- the pairs after it; so what is listed of them, and what is written of that, comes in the same two parts.
-- Assumes nothing.
use mathlib.Core.Path.{◌≡◌, refl, sym, ap, ap₂, ◌∙◌}
use mathlib.Core.Bool.{Bool, true, false}
use mathlib.Core.Logic.{⊎_elim}
use mathlib.Core.List.{List, [], ◌∷◌, ◌++◌}
use Prim.Native.Nat.{ℕ, zero, suc, ◌+◌, ◌-◌, ◌*◌, ◌^◌, ◌≤◌, ◌<◌}
use native.Mathlib.Numerals.{add-one}
use native.Mathlib.Omega.{arith}
use lib.ListN.{length, length-append}
use Rattle.std.specs.List.{filter, range_with_len, sum_by}
use Rattle.std.proofs.lemmas.List.Sums.{sum_by-cons}
use Rattle.rules.specs.Rule.{Rule, rule_of}
use Rattle.rules.specs.Match.{rule_at}
use Rattle.rules.specs.Table.{rule_count, record_at, rules_of, Accepted}
use Rattle.bits.proofs.TestLaws.{decided}
use Rattle.rules.proofs.TableLaws.{accepted_sound}
use Rattle.rules.proofs.MatchLaws.{rules_size, rules_at}
use Rattle.overlap.specs.Pairs.{Pair, row, triangle, keep, listed, on_pair, pairs_of, entries}
use Rattle.overlap.specs.Steps.{listed_row, listed_with, listed_from}
use Rattle.overlap.proofs.SortedLaws.{pair}
use Rattle.overlap.proofs.KeepLaws.{keep_here, keep_later, keep_append, keep_few}

-- ---- what is left

pub row_turn : (n i j : ℕ) → j < n → row i j (n - j) ≡ row i j 1 ++ row i (j + 1) (n - (j + 1))
unfolding row
row_turn n i j h =
    let s : n - j ≡ suc (n - (j + 1)) = omega arith in
    ap (row i j) s ∙ ap (λ (k : ℕ). row i j 1 ++ row i k (n - (j + 1))) (sym (add-one j))

pub row_over : (n i j : ℕ) → n ≤ j → row i j (n - j) ≡ []
unfolding row
row_over n i j h = let z : n - j ≡ 0 = omega arith in ap (row i j) z

pub triangle_turn : (n i : ℕ) → i < n → triangle i (n - i) ≡ row i (i + 1) (n - (i + 1)) ++ triangle (i + 1) (n - (i + 1))
unfolding triangle
triangle_turn n i h =
    let s : n - i ≡ suc (n - (i + 1)) = omega arith in
    ap (triangle i) s ∙ ap (λ (k : ℕ). row i k (n - (i + 1)) ++ triangle k (n - (i + 1))) (sym (add-one i))

pub triangle_over : (n i : ℕ) → n ≤ i → triangle i (n - i) ≡ []
unfolding triangle
triangle_over n i h = let z : n - i ≡ 0 = omega arith in ap (triangle i) z

-- ---- what is listed of it

module _ (table : List ℕ) where
  abbrev n : ℕ
  n = rule_count table

  abbrev test : Pair → Bool
  test = on_pair listed (rules_of table)

  pub row_parts : (i j : ℕ) → j < n → listed_row table i j (n - j) ≡ listed_row table i j 1 ++ listed_row table i (j + 1) (n - (j + 1))
  row_parts i j h = ap (keep test) (row_turn n i j h) ∙ keep_append test (row i j 1) (row i (j + 1) (n - (j + 1)))

  pub row_done : (i j : ℕ) → n ≤ j → listed_row table i j (n - j) ≡ []
  unfolding keep
  row_done i j h = ap (keep test) (row_over n i j h)

  pub rows_parts : (i : ℕ) → i < n → listed_from table i ≡ listed_with table i ++ listed_from table (i + 1)
  rows_parts i h = ap (keep test) (triangle_turn n i h) ∙ keep_append test (row i (i + 1) (n - (i + 1))) (triangle (i + 1) (n - (i + 1)))

  pub rows_done : (i : ℕ) → n ≤ i → listed_from table i ≡ []
  unfolding keep
  rows_done i h = ap (keep test) (triangle_over n i h)

  pub rows_all : listed_from table 0 ≡ pairs_of (rules_of table)
  unfolding pairs_of
  rows_all = let e : n - 0 ≡ length (rules_of table) = omega (arith, rules_size table) in ap (λ (k : ℕ). keep test (triangle 0 k)) e

  -- one pair is listed or not
  module _ (i j : ℕ) where
    pub one_listed : listed (rule_at (rules_of table) i) (rule_at (rules_of table) j) ≡ true → listed_row table i j 1 ≡ pair i j ∷ []
    unfolding row keep on_pair
    one_listed e = keep_here test (pair i j) [] e

    pub none_listed : listed (rule_at (rules_of table) i) (rule_at (rules_of table) j) ≡ false → listed_row table i j 1 ≡ []
    unfolding row keep on_pair
    none_listed e = keep_later test (pair i j) [] e

-- ---- how many

row_size : (i j n : ℕ) → length (row i j n) ≡ n
unfolding row
row_size i j zero = refl
row_size i j (suc n) = ap suc (row_size i (suc j) n)

pub row_few : (table : List ℕ) (i j n : ℕ) → length (listed_row table i j n) ≤ n
row_few table i j n = omega (arith, keep_few (on_pair listed (rules_of table)) (row i j n), row_size i j n)

-- so a table of at most 256 rules has at most 2 ^ 16 pairs
triangle_few : (k n : ℕ) → n ≤ 256 → length (triangle k n) ≤ 256 * n
unfolding triangle
triangle_few k zero h = omega arith
triangle_few k (suc n) h =
    omega (arith, length-append (row k (suc k) n) (triangle (suc k) n), row_size k (suc k) n, triangle_few (suc k) n (omega arith))

pub pairs_few : (table : List ℕ) → Accepted table → length (pairs_of (rules_of table)) ≤ 2 ^ 16
unfolding pairs_of
pairs_few table ok =
    let n = length (rules_of table) in
    let few : n ≤ 256 = omega (arith, rules_size table, (accepted_sound table ok).few) in
    omega (arith, keep_few (on_pair listed (rules_of table)) (triangle 0 n), triangle_few 0 n few)

-- ---- how many, as they are counted

-- of place i, whose rule is a, with the m places from j on
pub row_counted : (table : List ℕ) (a : Rule) (i j m : ℕ) → a ≡ rule_at (rules_of table) i → j + m ≤ rule_count table
    → length (listed_row table i j m) ≡ length (filter (λ higher. listed a (rule_of (record_at table higher))) (range_with_len j m))
unfolding row keep on_pair
row_counted table a i j zero here inside = refl
row_counted table a i j (suc m) here inside =
    let same : listed (rule_at (rules_of table) i) (rule_at (rules_of table) j) ≡ listed a (rule_of (record_at table j)) =
    ap₂ listed (sym here) (rules_at table j (omega arith))
    in
    let rest = row_counted table a i (j + 1) m here (omega arith) in
    let later : listed_row table i (suc j) m ≡ listed_row table i (j + 1) m = ap (λ (k : ℕ). listed_row table i k m) (sym (add-one j)) in
    ⊎_elim
    (λ e. rw e (ap length (keep_here (test table) (pair i j) (row i (suc j) m) (same ∙ e)) ∙ ap suc (ap length later ∙ rest)))
    (λ e. rw e (ap length (keep_later (test table) (pair i j) (row i (suc j) m) (same ∙ e)) ∙ ap length later ∙ rest))
    (decided (listed a (rule_of (record_at table j))))

-- of all places from i on, row by row
pub rows_counted : (table : List ℕ) (i m : ℕ) → i + m ≡ rule_count table
    → sum_by (λ lower. length (listed_with table lower)) (range_with_len i m) ≡ length (listed_from table i)
rows_counted table i zero whole = ap length (sym (rows_done table i (omega arith)))
rows_counted table i (suc m) whole =
    sum_by-cons (λ lower. length (listed_with table lower)) i (range_with_len (i + 1) m)
    ∙ ap (λ (k : ℕ). length (listed_with table i) + k) (rows_counted table (i + 1) m (omega arith))
    ∙ sym (ap length (rows_parts table i (omega arith)) ∙ length-append (listed_with table i) (listed_from table (i + 1)))

-- ---- what is written

pub entries_append : (ps qs : List Pair) → entries (ps ++ qs) ≡ entries ps ++ entries qs
unfolding entries
entries_append [] qs = refl
entries_append (p ∷ ps) qs = ap (λ (l : List ℕ). p.lower ∷ p.higher ∷ l) (entries_append ps qs)

pub entries_size : (ps : List Pair) → length (entries ps) ≡ 2 * length ps
unfolding entries
entries_size [] = refl
entries_size (p ∷ ps) = omega (arith, entries_size ps)
