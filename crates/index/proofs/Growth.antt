-- Growing from field to field and from rule to rule: when all rules are in, the area holds the records of the index's keys, with the marks
-- of all rules.
-- Assumes nothing.
use mathlib.Core.Path.{◌≡◌, refl, sym, ap, subst, ◌∙◌}
use mathlib.Core.Bool.{Bool, false}
use mathlib.Core.List.{List, [], ◌∷◌, ◌++◌, append-nil, append_assoc, map-append}
use Prim.Native.Nat.{ℕ, zero, suc, ◌+◌, ◌*◌, ◌≤◌, ◌<◌}
use native.Mathlib.Nat.{le_refl, le_trans}
use native.Mathlib.Numerals.{add-one}
use native.Mathlib.Decide.{le_ind}
use native.Mathlib.Omega.{arith}
use lib.ListN.{length, get_or, take}
use lib.Seq.{take_all}
use Rattle.bits.specs.Path.{bit_of}
use Rattle.bits.specs.Word.{digit}
use Rattle.bits.specs.Tests.{any, up_from}
use Rattle.bits.proofs.DigitLaws.{digit_small, prefix_bit}
use Rattle.rules.specs.Field.{field_at, value_in, length_in}
use Rattle.rules.specs.Rule.{Rule}
use Rattle.rules.specs.Table.{rule_count, record_at, rules_of, SoundRule}
use Rattle.rules.specs.Match.{rule_at}
use Rattle.rules.proofs.RuleLaws.{length_fits}
use Rattle.rules.proofs.MatchLaws.{rules_size}
use Rattle.area.specs.Shape.{record_words, vector_start}
use Rattle.area.specs.Upto.{upto}
use Rattle.area.specs.Grow.{zeroed, State, mk, walked, inserted}
use Rattle.area.proofs.ZeroLaws.{length_zeroed, zeroed_inside, zeroed_above}
use Rattle.index.specs.Key.{Key, at}
use Rattle.index.specs.Keys.{insert, insert_all, rule_inserts, inserts, roots_from, keys}
use Rattle.index.specs.Image.{child}
use Rattle.index.specs.Steps.{AllSound, path_of, field_in, rule_in, rules_in, cleared, all_in}
use Rattle.index.proofs.KeyLaws.{further, place_out}
use Rattle.index.proofs.GrownLaws.{insert_all_append, insert_le, insert_all_le, roots_rooted}
use Rattle.index.proofs.ReachLaws.{below_beyond, roots_has_record}
use Rattle.index.proofs.CountLaws.{length_roots}
use Rattle.index.proofs.OrderLaws.{keys_once, keys_parented}
use Rattle.index.proofs.NeedLaws.{one_each, each_more, rule_inserts_lem, inserts_more, length_path}
use Rattle.index.proofs.MarkLaws.{Mark, mark, marked_at, no_marks, with_mark, marks_of, marks_to}
use Rattle.index.proofs.Recorded.{Walking, Between}
use Rattle.index.proofs.GrowPath.{walked_end}
use Rattle.index.proofs.GrowBit.{bit_recorded, bit_sound}

-- a rule's path has the bits of its value
path_bit : (bytes : List ℕ) → SoundRule bytes → (f : ℕ) → f < 5 → (j : ℕ) → j < length (path_of bytes f)
    → bit_of (field_at f).width (value_in bytes (field_at f)) j ≡ digit (get_or (path_of bytes f) j false)
unfolding path_of
path_bit bytes sound f hf j h =
    prefix_bit (field_at f).width (value_in bytes (field_at f)) (length_in bytes (field_at f)) j (omega (arith, length_path bytes sound f hf))
    (length_fits bytes sound.faultless f hf)

-- rule i's path goes into field f
module _ (n : ℕ) (a₀ : List ℕ) (ks : List Key) (marks : List Mark) (s : State) (t : Between n a₀ ks marks s) (i : ℕ) (h : i < n) (small : n ≤ 256)
    (f : ℕ) (hf : f < 5) (bytes : List ℕ) (sound : SoundRule bytes) (room : record_words * length (insert ks (at f (path_of bytes f))) ≤ length a₀) where
  abbrev W : State
  W = walked (field_at f).width (value_in bytes (field_at f)) (length_in bytes (field_at f)) (mk s.area f s.next)

  at_end : Walking n a₀ (insert ks (at f (path_of bytes f))) marks (at f (path_of bytes f)) W
  at_end =
      let p = path_of bytes f in
      let start : Walking n a₀ ks marks (at f []) (mk s.area f s.next) =
      record { sound = t.sound; recorded = t.recorded; next = t.next; here = t.sound.rooted f hf }
      in
      subst (λ (l : ℕ). Walking n a₀ (insert ks (at f p)) marks (at f p) (walked (field_at f).width (value_in bytes (field_at f)) l (mk s.area f s.next)))
      (length_path bytes sound f hf)
      (walked_end n a₀ ks marks f (field_at f).width (value_in bytes (field_at f)) p (path_bit bytes sound f hf) (mk s.area f s.next) start room)

  pub field_between : Between n a₀ (insert ks (at f (path_of bytes f))) (with_mark marks i (at f (path_of bytes f))) (field_in bytes i f s)
  unfolding field_in inserted
  field_between = record {
    sound = bit_sound n a₀ (insert ks (at f (path_of bytes f))) marks (at f (path_of bytes f)) W at_end i h small room;
    recorded = bit_recorded n a₀ (insert ks (at f (path_of bytes f))) marks (at f (path_of bytes f)) W at_end i h small room;
    next = at_end.next;
  }

-- ---- one rule: its path in each field

insert_last : (ks l : List Key) (k : Key) → insert_all ks (l ++ (k ∷ [])) ≡ insert (insert_all ks l) k
unfolding insert_all
insert_last ks l k = insert_all_append ks l (k ∷ [])

module _ (n : ℕ) (a₀ : List ℕ) (ks : List Key) (marks : List Mark) (s : State) (t : Between n a₀ ks marks s) (i : ℕ) (h : i < n) (small : n ≤ 256)
    (bytes : List ℕ) (sound : SoundRule bytes) (room : record_words * length (insert_all ks (one_each (path_of bytes) 0 5)) ≤ length a₀) where
  abbrev keys_to_lem : ℕ → List Key
  keys_to_lem f = insert_all ks (one_each (path_of bytes) 0 f)

  keys_more : (f : ℕ) → keys_to_lem (suc f) ≡ insert (keys_to_lem f) (at f (path_of bytes f))
  keys_more f =
      ap (insert_all ks) (ap (one_each (path_of bytes) 0) (sym (add-one f)) ∙ each_more (path_of bytes) f)
      ∙ insert_last ks (one_each (path_of bytes) 0 f) (at f (path_of bytes f))

  -- the keys of fewer fields are no more
  keys_le : (f : ℕ) → f ≤ 5 → length (keys_to_lem f) ≤ length (keys_to_lem 5)
  keys_le f hf =
      le_ind (λ (g : ℕ). length (keys_to_lem f) ≤ length (keys_to_lem g)) (le_refl _)
      (λ g hg e. le_trans e (subst (λ (l : List Key). length (keys_to_lem g) ≤ length l) (sym (keys_more g)) (insert_le (keys_to_lem g) (at g (path_of bytes g)))))
      5 hf

  marks_more : (f : ℕ) → marks ++ marks_of i (one_each (path_of bytes) 0 (suc f)) ≡ (marks ++ marks_of i (one_each (path_of bytes) 0 f)) ++ (mark i (at f (path_of bytes f)) ∷ [])
  marks_more f =
      ap (λ (l : List Key). marks ++ marks_of i l) (ap (one_each (path_of bytes) 0) (sym (add-one f)) ∙ each_more (path_of bytes) f)
      ∙ ap (λ (l : List Mark). marks ++ l) (map-append (mark i) (one_each (path_of bytes) 0 f) (at f (path_of bytes f) ∷ []))
      ∙ sym (append_assoc marks (marks_of i (one_each (path_of bytes) 0 f)) (mark i (at f (path_of bytes f)) ∷ []))

  none_between : Between n a₀ (keys_to_lem 0) (marks ++ marks_of i (one_each (path_of bytes) 0 0)) (upto (field_in bytes i) 0 s)
  unfolding upto insert_all up_from
  none_between = rw (append-nil marks) t

  fields_between : (f : ℕ) → f ≤ 5 → Between n a₀ (keys_to_lem f) (marks ++ marks_of i (one_each (path_of bytes) 0 f)) (upto (field_in bytes i) f s)
  unfolding upto
  fields_between zero hf = none_between
  fields_between (suc f) hf =
      let so_far = fields_between f (omega arith) in
      let more = keys_more f in
      let fits : record_words * length (insert (keys_to_lem f) (at f (path_of bytes f))) ≤ length a₀ = omega (arith, room, keys_le (suc f) hf, ap length more) in
      let S = upto (field_in bytes i) f s in
      let next = field_between n a₀ (keys_to_lem f) (marks ++ marks_of i (one_each (path_of bytes) 0 f)) S so_far i h small f hf bytes sound fits in
      subst (λ (l : List Key). Between n a₀ l (marks ++ marks_of i (one_each (path_of bytes) 0 (suc f))) (field_in bytes i f S)) (sym more)
      (subst (λ (m : List Mark). Between n a₀ (insert (keys_to_lem f) (at f (path_of bytes f))) m (field_in bytes i f S)) (sym (marks_more f)) next)

  pub rule_between : Between n a₀ (insert_all ks (one_each (path_of bytes) 0 5)) (marks ++ marks_of i (one_each (path_of bytes) 0 5)) (rule_in bytes i s)
  unfolding rule_in
  rule_between = fields_between 5 (le_refl 5)

-- ---- all rules

module _ (table : List ℕ) (sound : AllSound table) (few : rule_count table ≤ 256) (a₀ : List ℕ) where
  abbrev n : ℕ
  n = rule_count table

  abbrev keys_to : ℕ → List Key
  keys_to i = insert_all (roots_from 0 5) (inserts 5 (take i (rules_of table)))

  keys_to_more : (i : ℕ) → i < n → keys_to (suc i) ≡ insert_all (keys_to i) (rule_inserts 0 5 (rule_at (rules_of table) i))
  keys_to_more i h =
      ap (λ (m : ℕ). keys_to m) (sym (add-one i))
      ∙ ap (insert_all (roots_from 0 5)) (inserts_more table i h)
      ∙ insert_all_append (roots_from 0 5) (inserts 5 (take i (rules_of table))) (rule_inserts 0 5 (rule_at (rules_of table) i))

  keys_to_all : keys_to n ≡ keys 5 (rules_of table)
  unfolding keys
  keys_to_all = ap (λ (l : List Rule). insert_all (roots_from 0 5) (inserts 5 l)) (take_all n (rules_of table) (omega (arith, rules_size table)))

  module _ (room : record_words * length (keys 5 (rules_of table)) ≤ length a₀) where
    keys_to_le : (i : ℕ) → i ≤ n → length (keys_to i) ≤ length (keys_to n)
    keys_to_le i h =
        le_ind (λ (g : ℕ). g ≤ n → length (keys_to i) ≤ length (keys_to g)) (λ q. le_refl _)
        (λ g hg e q.
        let more = keys_to_more g q in
        let new = rule_inserts 0 5 (rule_at (rules_of table) g) in
        le_trans (e (omega arith)) (subst (λ (l : List Key). length (keys_to g) ≤ length l) (sym more) (insert_all_le (keys_to g) new)))
        n h (le_refl n)

    -- the five cleared roots
    big : 5 * record_words ≤ length a₀
    big = omega (arith, room, keys_to_le 0 (omega arith), ap length keys_to_all, roots_five)
      where
        roots_five : length (keys_to 0) ≡ 5
        roots_five = unfold insert_all inserts roots_from in refl

    root_childless : (k : Key) (b : Bool) → child (roots_from 0 5) k b ≡ 0
    unfolding child
    root_childless k b = place_out (further k b) 0 (roots_from 0 5) (roots_has_record (further k b) (below_beyond k b []) 0 5)

    root_word : (j : ℕ) → j < 5 * record_words → get_or (zeroed 0 (5 * record_words) a₀) j 0 ≡ 0
    root_word j h = zeroed_inside 0 (5 * record_words) j a₀ (omega arith) big (omega arith) h

    roots_between : Between n a₀ (keys_to 0) (marks_to table 0) (cleared a₀)
    unfolding insert_all inserts cleared marks_to
    roots_between =
        let five : length (roots_from 0 5) ≡ 5 = length_roots 0 5 in
        record {
          sound = record {
            once = unfold keys in keys_once 5 [];
            parented = unfold keys in keys_parented 5 [];
            rooted = roots_rooted 5;
            marked = λ k e i. unfold marked_at any in refl;
          };
          recorded = record {
            long = length_zeroed 0 (5 * record_words) a₀ (omega arith) big;
            kids = λ i k b st. root_word (record_words * i + digit b) (omega (arith, st.inside, digit_small b, five)) ∙ sym (root_childless k b);
            words = λ i k v st h.
                root_word (record_words * i + vector_start + v) (omega (arith, st.inside, five)) ∙ sym (no_marks n [] k v (λ r. unfold marked_at any in refl));
            rest = λ j h. zeroed_above 0 (5 * record_words) j a₀ (omega arith) big (omega (arith, five));
          };
          next = sym five;
        }

    rules_between : (i : ℕ) → i ≤ n → Between n a₀ (keys_to i) (marks_to table i) (rules_in table i (cleared a₀))
    unfolding rules_in upto marks_to
    rules_between zero h = roots_between
    rules_between (suc i) h =
        let so_far = rules_between i (omega arith) in
        let bytes = record_at table i in
        let here = rule_inserts_lem table i h in
        let more = keys_to_more i h ∙ ap (insert_all (keys_to i)) here in
        let fits : record_words * length (insert_all (keys_to i) (one_each (path_of bytes) 0 5)) ≤ length a₀ =
        omega (arith, room, keys_to_le (suc i) h, ap length more, ap length keys_to_all)
        in
        let S = upto (λ i. rule_in (record_at table i) i) i (cleared a₀) in
        let next = rule_between n a₀ (keys_to i) (marks_to table i) S so_far i h few bytes (sound.each i h) fits in
        subst (λ (l : List Key). Between n a₀ l (marks_to table i ++ marks_of i (rule_inserts 0 5 (rule_at (rules_of table) i))) (rule_in bytes i S)) (sym more)
        (subst (λ (l : List Key). Between n a₀ (insert_all (keys_to i) (one_each (path_of bytes) 0 5)) (marks_to table i ++ marks_of i l) (rule_in bytes i S)) (sym here) next)

    pub all_between : Between n a₀ (keys 5 (rules_of table)) (marks_to table n) (all_in table a₀)
    unfolding all_in
    all_between = subst (λ (l : List Key). Between n a₀ l (marks_to table n) (rules_in table n (cleared a₀))) keys_to_all (rules_between n (le_refl n))
