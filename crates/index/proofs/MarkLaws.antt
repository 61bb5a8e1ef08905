-- Marks: which rule was put in at which key. The vector words that marks make, one mark more, and the marks of a table's rules: they make
-- each record's own vector.
-- Assumes nothing.
use mathlib.Core.Path.{◌≡◌, refl, sym, ap, ap₂, ◌∙◌}
use mathlib.Core.Logic.{⊎_elim}
use mathlib.Core.Bool.{Bool, true, false, ◌&&◌, ◌||◌, or-false, or-true, and-false}
use mathlib.Core.List.{List, [], ◌∷◌, ◌++◌, map, map-map}
use Prim.Native.Nat.{ℕ, zero, suc, ◌/◌, ◌%◌, ◌^◌, ◌≤◌, ◌<◌, zero-le}
use native.Mathlib.Nat.{le_refl}
use native.Mathlib.Omega.{arith}
use lib.Bits.{bit_or}
use lib.Dec.{eqb}
use lib.ListN.{length, get_or, set}
use borrow.Author.Tests.{eq-eqb, ne_eqb}
use Rattle.bits.specs.Path.{same_path}
use Rattle.bits.specs.Word.{pack}
use Rattle.bits.specs.Tests.{any, up_from}
use Rattle.bits.proofs.TestLaws.{same_eqb, equal}
use Rattle.bits.proofs.ListLaws.{any_append, any_ext, any_and, any_map, map_ext}
use Rattle.bits.proofs.PlaceLaws.{length_places, places_agree, places_set}
use Rattle.bits.proofs.PackLaws.{length_pack, pack_set}
use Rattle.bits.proofs.CodeWordLaws.{pack_none}
use Rattle.rules.specs.Rule.{Rule, rule_of}
use Rattle.rules.specs.Table.{rule_count, record_at, rules_of}
use Rattle.rules.specs.Match.{rule_at}
use Rattle.rules.proofs.MatchLaws.{rules_at}
use Rattle.area.specs.Shape.{blocks, desk_shape}
use Rattle.index.specs.Key.{Key, same_key}
use Rattle.index.specs.Keys.{rule_inserts}
use Rattle.index.proofs.KeyLaws.{same_key_refl}
use Rattle.index.proofs.ReachLaws.{passes, rule_passes}
use Rattle.index.proofs.VectorLaws.{own, own_vector}

-- ---- a rule that was put in at a key

pub record Mark : Type 0 where
  pub rule : ℕ
  pub key : Key

abbrev pub mark : ℕ → Key → Mark
mark i k = record { rule = i; key = k }

-- rule i was put in at key k
unfoldable pub marked_at : List Mark → Key → ℕ → Bool
marked_at marks k i = any (λ (m : Mark). eqb m.rule i && same_key m.key k) marks

-- the vector words that the marks of n rules make at a key
unfoldable pub mark_words : ℕ → List Mark → Key → List ℕ
mark_words n marks k = pack 32 blocks (map (marked_at marks k) (up_from 0 n))

pub length_words : (n : ℕ) (marks : List Mark) (k : Key) → length (mark_words n marks k) ≡ blocks
unfolding mark_words
length_words n marks k = length_pack 32 blocks (map (marked_at marks k) (up_from 0 n))

-- a key with no mark has no bit
pub no_marks : (n : ℕ) (marks : List Mark) (k : Key) (v : ℕ) → ((i : ℕ) → marked_at marks k i ≡ false) → get_or (mark_words n marks k) v 0 ≡ 0
unfolding mark_words
no_marks n marks k v none =
    ap (λ (l : List Bool). get_or (pack 32 blocks l) v 0) (map_ext (marked_at marks k) (λ i. false) none (up_from 0 n)) ∙ pack_none 32 blocks (up_from 0 n) v

-- ---- one mark more

abbrev pub with_mark : List Mark → ℕ → Key → List Mark
with_mark marks i k = marks ++ (mark i k ∷ [])

module _ (marks : List Mark) (i : ℕ) (k : Key) where
  pub mark_more : (l : Key) (r : ℕ) → marked_at (with_mark marks i k) l r ≡ (marked_at marks l r || (eqb i r && same_key k l))
  unfolding marked_at any
  mark_more l r =
      any_append (λ (m : Mark). eqb m.rule r && same_key m.key l) marks (mark i k ∷ []) ∙ ap (λ t. marked_at marks l r || t) (or-false (eqb i r && same_key k l))

  -- at another key nothing changes
  pub mark_elsewhere : (n : ℕ) (l : Key) → same_key k l ≡ false → mark_words n (with_mark marks i k) l ≡ mark_words n marks l
  unfolding mark_words
  mark_elsewhere n l e =
      ap (pack 32 blocks)
      (map_ext (marked_at (with_mark marks i k) l) (marked_at marks l)
      (λ r. mark_more l r ∙ ap (λ t. marked_at marks l r || (eqb i r && t)) e ∙ ap (λ t. marked_at marks l r || t) (and-false (eqb i r)) ∙ or-false (marked_at marks l r))
      (up_from 0 n))

  -- at this key the rule's place is set
  mark_set : (n : ℕ) → i < n → map (marked_at (with_mark marks i k) k) (up_from 0 n) ≡ set (map (marked_at marks k) (up_from 0 n)) i true
  mark_set n h =
      places_set (marked_at marks k) (marked_at (with_mark marks i k) k) n i h
      (λ r ne. mark_more k r ∙ ap (λ t. marked_at marks k r || (t && same_key k k)) (ne_eqb i r (λ e. ne (sym e))) ∙ or-false (marked_at marks k r))
      ∙ ap (set (map (marked_at marks k) (up_from 0 n)) i)
      (mark_more k i ∙ ap₂ (λ s t. marked_at marks k i || (s && t)) (eq-eqb i i refl) (same_key_refl k) ∙ or-true (marked_at marks k i))

  pub mark_here : (n : ℕ) → i < n → n ≤ 256
      → mark_words n (with_mark marks i k) k ≡ set (mark_words n marks k) (i / 32) (bit_or (get_or (mark_words n marks k) (i / 32) 0) (2 ^ (i % 32)))
  unfolding mark_words
  mark_here n h small =
      ap (pack 32 blocks) (mark_set n h)
      ∙ pack_set 32 (omega arith) blocks (map (marked_at marks k) (up_from 0 n)) i (omega (arith, length_places (marked_at marks k) n)) (omega arith)

-- ---- the marks of a table's rules

-- rule i was put in at each of these keys
abbrev pub marks_of : ℕ → List Key → List Mark
marks_of i ks = map (mark i) ks

-- the marks of a table's first i rules
unfoldable pub marks_to : List ℕ → ℕ → List Mark
marks_to table zero = []
marks_to table (suc i) = marks_to table i ++ marks_of i (rule_inserts 0 5 (rule_at (rules_of table) i))

module _ (k : Key) (field : k.field < 5) where
  -- of what a rule puts in, the key is among it exactly when a path of the rule ends there
  rule_ends : (r : Rule) → any (λ l. same_key l k) (rule_inserts 0 5 r) ≡ own k r
  unfolding own same_key
  rule_ends r =
      any_ext (λ l. same_key l k) (passes k.field (λ p. same_path p k.path))
      (λ l. ap (λ t. t && same_path l.path k.path) (same_eqb l.field k.field k.field l.field sym sym))
      (rule_inserts 0 5 r)
      ∙ rule_passes k.field (λ p. same_path p k.path) r 0 5 zero-le field

  module _ (table : List ℕ) where
    abbrev rule : ℕ → Rule
    rule i = rule_at (rules_of table) i

    marks_more : (i j : ℕ) → marked_at (marks_to table (suc i)) k j ≡ (marked_at (marks_to table i) k j || (eqb i j && own k (rule i)))
    unfolding marked_at marks_to
    marks_more i j =
        let test : Mark → Bool = λ (m : Mark). eqb m.rule j && same_key m.key k in
        let new = rule_inserts 0 5 (rule i) in
        any_append test (marks_to table i) (marks_of i new)
        ∙ ap (λ t. any test (marks_to table i) || t)
        (any_map test (mark i) new ∙ any_and (eqb i j) (λ l. same_key l k) new ∙ ap (λ t. eqb i j && t) (rule_ends (rule i)))

    marks_later : (i j : ℕ) → i ≤ j → marked_at (marks_to table i) k j ≡ false
    marks_later zero j h = unfold marked_at marks_to any in refl
    marks_later (suc i) j h = marks_more i j ∙ ap₂ (λ s t. s || (t && own k (rule i))) (marks_later i j (omega arith)) (ne_eqb i j (λ e. omega arith))

    marks_own : (m i : ℕ) → i < m → marked_at (marks_to table m) k i ≡ own k (rule i)
    marks_own zero i h = absurd (omega arith)
    marks_own (suc m) i h =
        marks_more m i
        ∙ ⊎_elim
        (λ (e : i ≡ m). rw e (ap₂ (λ s t. s || (t && own k (rule m))) (marks_later m m (le_refl m)) (eq-eqb m m refl)))
        (λ (l : i < m).
        ap (λ t. marked_at (marks_to table m) k i || (t && own k (rule m))) (ne_eqb m i (λ e. omega arith))
        ∙ or-false (marked_at (marks_to table m) k i)
        ∙ marks_own m i l)
        (equal i m (omega arith))

    -- the words of all rules' marks are the record's own
    pub own_words : mark_words (rule_count table) (marks_to table (rule_count table)) k ≡ own_vector desk_shape (rules_of table) k
    unfolding mark_words own_vector
    own_words =
        let n = rule_count table in
        ap (pack 32 blocks)
        (places_agree (marked_at (marks_to table n) k) (λ (p : ℕ). own k (rule_of (record_at table p))) n
        (λ p small. marks_own n p small ∙ ap (own k) (rules_at table p small))
        ∙ sym (unfold rules_of in map-map (own k) (λ p. rule_of (record_at table p)) (up_from 0 n)))
