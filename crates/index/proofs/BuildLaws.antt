-- The build's three passes write the image: after growing, children and own vectors stand; handing on makes each vector whole; the
-- aggregates follow. Words beyond the image stay.
-- Assumes nothing.
use mathlib.Core.Path.{◌≡◌, sym, ap, ap₂, ◌∙◌}
use mathlib.Core.Logic.{⊎_elim}
use mathlib.Core.Bool.{Bool, true, false}
use mathlib.Core.List.{List, ◌++◌, map, map-map}
use Prim.Native.Nat.{ℕ, zero, suc, ◌+◌, ◌-◌, ◌*◌, ◌/◌, ◌%◌, ◌≤◌, ◌<◌}
use native.Mathlib.Nat.{le_refl}
use native.Mathlib.Omega.{arith}
use lib.ListN.{length, get_or, take, drop, length-append, length-drop, length-map}
use lib.Seq.{get_or-drop, get_or-append-add, ext_get_or, take_all}
use Rattle.bits.specs.Word.{digit, word_of, pack, nonzero, aggregate}
use Rattle.bits.specs.Tests.{up_from}
use Rattle.bits.proofs.TestLaws.{less}
use Rattle.bits.proofs.EachLaws.{by_places}
use Rattle.bits.proofs.PlaceLaws.{places_agree}
use Rattle.rules.specs.Rule.{Rule}
use Rattle.rules.specs.Table.{rule_count, rules_of}
use Rattle.area.specs.Shape.{blocks, desk_shape, record_words, vector_start}
use Rattle.area.specs.Grow.{State, mk, Kids, Roomy}
use Rattle.area.specs.Hand.{vector_word, child_word, handed}
use Rattle.area.specs.Sums.{sum_at, summed}
use Rattle.area.proofs.HandLaws.{Forest, sweep_kids, sweep_length, sweep_beyond}
use Rattle.area.proofs.SumLaws.{sum_word, summed_length, summed_other, summed_beyond, summed_at}
use Rattle.index.specs.Key.{Key}
use Rattle.index.specs.Keys.{keys}
use Rattle.index.specs.Image.{child, vector, record_of, image}
use Rattle.index.specs.Need.{records, need}
use Rattle.index.specs.Steps.{AllSound, all_in}
use Rattle.index.proofs.KeyLaws.{stands_here}
use Rattle.index.proofs.CountLaws.{records_law}
use Rattle.index.proofs.VectorLaws.{length_vector}
use Rattle.index.proofs.ImageLaws.{desk_sized, length_image, image_word}
use Rattle.index.proofs.MarkLaws.{marks_to, own_words}
use Rattle.index.proofs.Recorded.{Between}
use Rattle.index.proofs.Growth.{all_between}
use Rattle.index.proofs.ForestLaws.{key_of, kid, forest}
use Rattle.index.proofs.WholeLaws.{whole_vector}

module _ (table : List ℕ) (sound : AllSound table) (few : rule_count table ≤ 256) (a₀ : List ℕ) (room : need desk_shape (rules_of table) ≤ length a₀) where
  abbrev rules : List Rule
  rules = rules_of table

  abbrev ks : List Key
  ks = keys 5 rules

  abbrev key : ℕ → Key
  key = key_of rules

  abbrev count : ℕ
  count = length ks

  whole : need desk_shape rules ≡ record_words * count
  unfolding need
  whole = omega (arith, records_law 5 rules)

  -- the area after the first pass
  abbrev grown_area : List ℕ
  grown_area = (all_in table a₀).area

  between : Between (rule_count table) a₀ ks (marks_to table (rule_count table)) (all_in table a₀)
  between = all_between table sound few a₀ (omega (arith, whole))

  trees : Forest grown_area count
  trees = forest (rule_count table) rules (marks_to table (rule_count table)) a₀ grown_area between.recorded (omega (arith, whole))

  abbrev handed_area : List ℕ
  handed_area = handed count grown_area

  vectors : (i : ℕ) → i < count → (v : ℕ) → v < blocks → vector_word handed_area i v ≡ get_or (vector desk_shape rules (key i)) v 0
  vectors =
      whole_vector (rule_count table) rules (marks_to table (rule_count table)) a₀ grown_area between.recorded (omega (arith, whole))
      (λ k field. own_words k field table)

  children : (i : ℕ) → i < count → (b : Bool) → child_word grown_area i (digit b) ≡ child ks (key i) b
  children = kid (rule_count table) rules (marks_to table (rule_count table)) a₀ grown_area between.recorded (omega (arith, whole))

  -- ---- the aggregates

  aggregate_word : (i : ℕ) → i < count → sum_at handed_area (record_words * i + vector_start) blocks ≡ word_of (take 32 (map nonzero (vector desk_shape rules (key i))))
  aggregate_word i h =
      let words = vector desk_shape rules (key i) in
      let eight = length_vector desk_shape rules (key i) in
      sum_word handed_area (record_words * i + vector_start) blocks
      ∙ ap word_of
      (places_agree (λ (w : ℕ). nonzero (vector_word handed_area i w)) (λ (w : ℕ). nonzero (get_or words w 0)) blocks (λ w small. ap nonzero (vectors i h w small))
      ∙ sym (map-map nonzero (λ (w : ℕ). get_or words w 0) (up_from 0 blocks))
      ∙ ap (map nonzero) (ap (λ (n : ℕ). map (λ (w : ℕ). get_or words w 0) (up_from 0 n)) (sym eight) ∙ by_places words 0)
      ∙ sym (take_all 32 (map nonzero words) (omega (arith, length-map words nonzero, eight))))

  -- ---- every word

  abbrev built_area : List ℕ
  built_area = summed count handed_area

  handed_length : length handed_area ≡ length a₀
  handed_length = sweep_length grown_area count trees count ∙ between.recorded.long

  record_word : (i r : ℕ) → i < count → r < record_words → get_or built_area (record_words * i + r) 0 ≡ get_or (record_of desk_shape rules ks (key i)) r 0
  unfolding record_of aggregate pack
  record_word i zero h hr =
      summed_other (record_words * i + 0) handed_area (λ k e. omega arith) count ∙ sweep_kids grown_area count trees count i 0 (omega arith) ∙ children i h false
  record_word i (suc zero) h hr =
      summed_other (record_words * i + 1) handed_area (λ k e. omega arith) count ∙ sweep_kids grown_area count trees count i 1 (omega arith) ∙ children i h true
  record_word i (suc (suc zero)) h hr = summed_at i count handed_area h (omega (arith, handed_length, whole)) ∙ aggregate_word i h
  record_word i (suc (suc (suc v))) h hr =
      ap (λ (x : ℕ). get_or built_area x 0) (omega arith)
      ∙ summed_other (record_words * i + vector_start + v) handed_area (λ k e. omega arith) count
      ∙ vectors i h v (omega arith)

  inside_word : (j : ℕ) → j < record_words * count → get_or built_area j 0 ≡ get_or (image desk_shape rules ++ drop (need desk_shape rules) a₀) j 0
  inside_word j h =
      let i : ℕ = j / record_words in
      let r : ℕ = j % record_words in
      let high : i < count = omega arith in
      let low : r < record_words = omega arith in
      ap (λ (x : ℕ). get_or built_area x 0) (omega arith)
      ∙ record_word i r high low
      ∙ sym (image_word desk_shape desk_sized rules i (key i) (stands_here ks i high) (drop (need desk_shape rules) a₀) r low)
      ∙ ap (λ (x : ℕ). get_or (image desk_shape rules ++ drop (need desk_shape rules) a₀) x 0) (omega arith)

  beyond_word : (j : ℕ) → record_words * count ≤ j → get_or built_area j 0 ≡ get_or (image desk_shape rules ++ drop (need desk_shape rules) a₀) j 0
  beyond_word j h =
      let N = need desk_shape rules in
      let size : length (image desk_shape rules) ≡ N = length_image desk_shape desk_sized rules in
      summed_beyond j count handed_area h
      ∙ sweep_beyond grown_area count trees j h count (le_refl count)
      ∙ between.recorded.rest j h
      ∙ sym
      (ap (λ (x : ℕ). get_or (image desk_shape rules ++ drop N a₀) x 0) (omega (arith, size, whole))
      ∙ get_or-append-add (image desk_shape rules) (drop N a₀) (j - N) 0
      ∙ get_or-drop N a₀ (j - N) 0
      ∙ ap (λ (x : ℕ). get_or a₀ x 0) (omega (arith, whole)))

  -- THE BUILD: the words needed are the image, and every further word is as it was
  built : built_area ≡ image desk_shape rules ++ drop (need desk_shape rules) a₀
  built =
      let N = need desk_shape rules in
      let size : length (image desk_shape rules) ≡ N = length_image desk_shape desk_sized rules in
      ext_get_or 0 built_area (image desk_shape rules ++ drop N a₀)
      (omega (arith, summed_length count handed_area, handed_length, length-append (image desk_shape rules) (drop N a₀), length-drop N a₀, size, room))
      (λ j h. ⊎_elim (inside_word j) (beyond_word j) (less j (record_words * count)))

  -- ---- pass by pass: what each asks of the one before, and what the last one leaves

  pub grow_asks : records 5 rules ≤ 40965 → Roomy (all_in table a₀) (length a₀)
  grow_asks h = record {
    room = omega (arith, between.next, whole, room);
    small = omega (arith, between.next, records_law 5 rules);
  }

  module _ (a₁ : List ℕ) (n : ℕ) (grew : mk a₁ 0 n ≡ all_in table a₀) where
    same_area : a₁ ≡ grown_area
    same_area = ap (λ (s : State). s.area) grew

    same_count : n ≡ count
    same_count = ap (λ (s : State). s.next) grew ∙ between.next

    pub hand_asks : (record_words * n ≤ length a₁) × Kids a₁ n
    unfolding Kids
    hand_asks = rw (same_area, same_count) (trees.whole, trees.below)

    module _ (a₂ : List ℕ) (handed-on : a₂ ≡ handed n a₁) where
      after_hand : a₂ ≡ handed_area
      after_hand = handed-on ∙ ap₂ handed same_count same_area

      pub sum_asks : record_words * n ≤ length a₂
      sum_asks = omega (arith, same_count, ap length after_hand, handed_length, whole)

      pub all_done : (a₃ : List ℕ) → a₃ ≡ summed n a₂ → a₃ ≡ image desk_shape rules ++ drop (need desk_shape rules) a₀
      all_done a₃ summed-up = summed-up ∙ ap₂ summed same_count after_hand ∙ built
