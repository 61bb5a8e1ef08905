-- The count turn by turn, as it is folded over the rules and the fields, and how large it gets.
-- Assumes nothing.
use mathlib.Core.Path.{◌≡◌, sym, ap, subst, ◌∙◌}
use mathlib.Core.List.{List, []}
use Prim.Native.Nat.{ℕ, zero, suc, ◌+◌, ◌-◌, ◌*◌, ◌≤◌, ◌<◌, max}
use native.Mathlib.Nat.{zero-add}
use native.Mathlib.Omega.{arith}
use lib.ListN.{length, take}
use Rattle.std.specs.List.{All, fold, sum_by, range_with_len}
use Rattle.std.proofs.lemmas.List.Sums.{sum_by-le}
use Rattle.std.proofs.lemmas.List.FromFn.{length-range_with_len, get_or-range_with_len}
use Rattle.bits.specs.Path.{Path, common}
use Rattle.bits.specs.Tests.{up_from}
use Rattle.rules.specs.Field.{field_at, length_in}
use Rattle.rules.specs.Table.{record_at, rules_of, rule_count, Accepted, SoundRule}
use Rattle.rules.specs.Match.{rule_at}
use Rattle.rules.proofs.FieldLaws.{field_sound}
use Rattle.rules.proofs.RuleLaws.{length_fits}
use Rattle.rules.proofs.TableLaws.{accepted_sound, accepted_record}
use Rattle.index.specs.Key.{Key, at}
use Rattle.index.specs.Keys.{rule_inserts, inserts}
use Rattle.index.specs.Need.{longest, fresh, records}
use Rattle.index.specs.Steps.{path_of}
use Rattle.index.proofs.NeedLaws.{one_each, rule_inserts_lem, longest_more, field_adds, records_more, records_all, length_path}

-- a fold over the numbers below n, of which each turn is known
module _ {B : Type 0} (step : B → ℕ → B) (g : ℕ → B) where
  fold_from : (a n : ℕ) → ((i : ℕ) → i < a + n → step (g i) i ≡ g (i + 1)) → fold step (g a) (range_with_len a n) ≡ g (a + n)
  fold_from a zero turn = ap g (omega arith)
  fold_from a (suc n) turn =
      ap (λ s. fold step s (range_with_len (a + 1) n)) (turn a (omega arith))
      ∙ fold_from (a + 1) n (λ i h. turn i (omega arith))
      ∙ ap g (omega arith)

  fold_turns : (n : ℕ) → ((i : ℕ) → i < n → step (g i) i ≡ g (i + 1)) → fold step (g 0) (range_with_len 0 n) ≡ g n
  fold_turns n turn = fold_from 0 n (λ i h. turn i (omega arith)) ∙ ap g (omega arith)

-- and a sum of small numbers
sum_small : (f : ℕ → ℕ) (m n : ℕ) → ((i : ℕ) → i < n → f i ≤ m) → sum_by f (range_with_len 0 n) ≤ n * m
sum_small f m n h =
    let long = length-range_with_len 0 n in
    let each : All (λ x. f x ≤ m) (range_with_len 0 n) =
    λ i d l. let low : i < n = omega (arith, long) in rw (get_or-range_with_len 0 n i d low, zero-add) (h i low)
    in
    subst (λ (k : ℕ). sum_by f (range_with_len 0 n) ≤ k * m) long (sum_by-le f m (range_with_len 0 n) each)

module _ (table : List ℕ) where
  abbrev before : ℕ → List Key
  before i = inserts 5 (take i (rules_of table))

  -- what a path has in common with rule e's of field f
  abbrev pub shared : ℕ → Path → ℕ → ℕ
  shared f p e = common p (path_of (record_at table e) f)

  pub longest_folds : (f : ℕ) (p : Path) → f < 5 → (i : ℕ) → i ≤ rule_count table
      → fold (λ best e. max best (shared f p e)) 0 (range_with_len 0 i) ≡ longest (at f p) (before i)
  unfolding longest inserts
  longest_folds f p h i small =
      fold_turns (λ best e. max best (shared f p e)) (λ n. longest (at f p) (before n)) i (λ e below. longest_more table e (omega arith) f p h)

  -- what rule i's prefix of field f adds
  abbrev pub field_fresh : ℕ → ℕ → ℕ
  field_fresh i f = length (path_of (record_at table i) f) - longest (at f (path_of (record_at table i) f)) (before i)

  -- and what the rule adds
  abbrev pub rule_fresh : ℕ → ℕ
  rule_fresh i = fresh (before i) (rule_inserts 0 5 (rule_at (rules_of table) i))

  pub rule_sums : (i : ℕ) → i < rule_count table → sum_by (field_fresh i) (range_with_len 0 5) ≡ rule_fresh i
  unfolding fresh up_from
  rule_sums i inside =
      fold_turns (λ s f. s + field_fresh i f) (λ n. fresh (before i) (one_each (path_of (record_at table i)) 0 n)) 5 (field_adds table i inside)
      ∙ ap (fresh (before i)) (sym (rule_inserts_lem table i inside))

  pub records_sums : sum_by rule_fresh (range_with_len 0 (rule_count table)) ≡ fresh [] (inserts 5 (rules_of table))
  unfolding records fresh inserts
  records_sums =
      fold_turns (λ s i. s + rule_fresh i) (λ n. fresh [] (before n)) (rule_count table) (λ i h. omega (arith, records_more table i h))
      ∙ omega (arith, records_all table)

  -- ---- no more than the bits of its fields, in an accepted table

  module _ (accepted : Accepted table) (i : ℕ) (inside : i < rule_count table) where
    sound : SoundRule (record_at table i)
    sound = accepted_record table accepted i inside

    -- a prefix read from the record is as long as the path that the rule puts into the field
    pub field_length : (f : ℕ) → f < 5 → (bytes : List ℕ) → bytes ≡ record_at table i → (l : ℕ) → l ≡ length_in bytes (field_at f)
        → l ≡ length (path_of (record_at table i) f)
    field_length f h bytes same l e = e ∙ ap (λ (b : List ℕ). length_in b (field_at f)) same ∙ sym (length_path (record_at table i) sound f h)

    field_small : (f : ℕ) → f < 5 → field_fresh i f ≤ 32
    field_small f h =
        omega (arith, length_path (record_at table i) sound f h, length_fits (record_at table i) sound.faultless f h, (field_sound f h).narrow)

    pub rule_small : rule_fresh i ≤ 160
    rule_small = omega (arith, rule_sums i inside, sum_small (field_fresh i) 32 5 field_small)

  pub records_small : Accepted table → sum_by rule_fresh (range_with_len 0 (rule_count table)) ≤ 40960
  records_small accepted =
      omega (arith, (accepted_sound table accepted).few, sum_small rule_fresh 160 (rule_count table) (rule_small accepted))
