-- One step down of a growing walk: to a child that is there, or to a new record behind all others, cleared.
-- Assumes nothing.
use mathlib.Core.Path.{◌≡◌, sym, ap, ap₂, subst, ◌∙◌}
use mathlib.Core.Logic.{⊎_elim}
use mathlib.Core.Bool.{Bool, true, false}
use mathlib.Core.List.{List, [], ◌∷◌, ◌++◌}
use Prim.Native.Nat.{ℕ, ◌+◌, ◌*◌, ◌≤◌, ◌<◌}
use native.Mathlib.Nat.{zero-add}
use native.Mathlib.Omega.{arith}
use lib.ListN.{length, get_or, set, length-set, length-append}
use lib.Seq.{get_or-set_same, get_or-set_other, get_or-append_seam}
use Rattle.bits.specs.Word.{digit}
use Rattle.bits.proofs.TestLaws.{decided, clash, or_falses, refuted}
use Rattle.bits.proofs.DigitLaws.{digit_small, digit_same}
use Rattle.area.specs.Shape.{record_words, vector_start}
use Rattle.area.specs.Grow.{zeroed, State, made, kid, down}
use Rattle.area.proofs.ZeroLaws.{length_zeroed, zeroed_below, zeroed_inside, zeroed_above}
use Rattle.area.proofs.GrowLaws.{down_new, down_old}
use Rattle.index.specs.Key.{Key, at, same_key, has_record, place_from}
use Rattle.index.specs.Keys.{grown}
use Rattle.index.specs.Image.{child}
use Rattle.index.proofs.KeyLaws.{no_key, further, same_key_eq, same_key_refl, same_key_ne, longer, further_same, further_root, Stands, stands_same, stands_append, stands_snoc, stands_has_record, has_record_append, place_in, place_out}
use Rattle.index.proofs.GrownLaws.{grown_old, grown_new}
use Rattle.index.proofs.OrderLaws.{Once, once_grown, Parented, parented_grown, place_snoc, place_other}
use Rattle.index.proofs.MarkLaws.{Mark, no_marks}
use Rattle.index.proofs.Recorded.{Sound5, Recorded, Walking}

-- ---- a step to a child that is there

module _ (n : ℕ) (a₀ : List ℕ) (ks : List Key) (marks : List Mark) (k : Key) (b : Bool) (s : State) (w : Walking n a₀ ks marks k s) where
  word : kid (digit b) s ≡ place_from 0 (further k b) ks
  unfolding child
  word = w.recorded.kids s.at k b w.here

  old_child : has_record (further k b) ks ≡ true → Walking n a₀ ks marks (further k b) (down (digit b) s)
  old_child m =
      let place = place_in (further k b) ks m in
      let some : kid (digit b) s ≡ 0 → ⊥ =
      λ e.
      let at_zero : Stands ks 0 (further k b) = subst (λ (i : ℕ). Stands ks i (further k b)) (sym word ∙ e) place in
      further_root k b 0 (stands_same at_zero (w.sound.rooted 0 (omega arith)))
      in
      rw (down_old (digit b) s some)
      (record { sound = w.sound; recorded = w.recorded; next = w.next; here = rw word place })

  -- ---- a step to a new one

  module _ (new : has_record (further k b) ks ≡ false) (room : record_words * (length ks + 1) ≤ length a₀) where
    abbrev L : ℕ
    L = length ks

    abbrev z : Key
    z = further k b

    abbrev stored : List ℕ
    stored = set s.area (record_words * s.at + digit b) L

    abbrev area : List ℕ
    area = zeroed (record_words * L) (record_words * L + record_words) stored

    long : length stored ≡ length a₀
    long = length-set s.area (record_words * s.at + digit b) L ∙ w.recorded.long

    inside : s.at < L
    inside = w.here.inside

    -- no record goes on from the new one
    childless : (c : Bool) → has_record (further z c) ks ≡ false
    childless c = refuted (has_record (further z c) ks) (λ e. clash (stands_has_record ks _ z (w.sound.parented _ z c (place_in (further z c) ks e)).2) new)

    below : (j : ℕ) → j < record_words * L → (j ≡ record_words * s.at + digit b → ⊥) → get_or area j 0 ≡ get_or s.area j 0
    below j h ne =
        zeroed_below (record_words * L) (record_words * L + record_words) j stored (omega arith) (omega (arith, long)) h
        ∙ get_or-set_other s.area (record_words * s.at + digit b) j L 0 ne

    zeros : (j : ℕ) → j < record_words → get_or area (record_words * L + j) 0 ≡ 0
    zeros j h = zeroed_inside (record_words * L) (record_words * L + record_words) (record_words * L + j) stored (omega arith) (omega (arith, long)) (omega arith) (omega arith)

    kid_old : (i : ℕ) (l : Key) (c : Bool) → Stands ks i l → get_or area (record_words * i + digit c) 0 ≡ child (ks ++ (z ∷ [])) l c
    unfolding child
    kid_old i l c st =
        ⊎_elim
        (λ (e : same_key (further l c) z ≡ true).
        let same = further_same l k c b (same_key_eq (further l c) z e) in
        let it : i ≡ s.at = w.sound.once i s.at k (subst (λ (x : Key). Stands ks i x) same.0 st) w.here in
        let index : record_words * i + digit c ≡ record_words * s.at + digit b = ap₂ (λ (x : ℕ) (y : Bool). record_words * x + digit y) it same.1 in
        ap (λ (j : ℕ). get_or area j 0) index
        ∙ zeroed_below (record_words * L) (record_words * L + record_words) (record_words * s.at + digit b) stored (omega arith) (omega (arith, long)) (omega (arith, inside, digit_small b))
        ∙ get_or-set_same s.area (record_words * s.at + digit b) L 0 (omega (arith, inside, digit_small b, w.recorded.long))
        ∙ sym (ap (λ (x : Key). place_from 0 x (ks ++ (z ∷ []))) (same_key_eq (further l c) z e) ∙ place_snoc z 0 ks new ∙ zero-add L))
        (λ (e : same_key (further l c) z ≡ false).
        let apart : record_words * i + digit c ≡ record_words * s.at + digit b → ⊥ =
        λ q.
        let it : i ≡ s.at = omega (arith, digit_small b, digit_small c) in
        let bit : c ≡ b = digit_same c b (omega (arith, digit_small b, digit_small c)) in
        let same : l ≡ k = stands_same (subst (λ (x : ℕ). Stands ks x l) it st) w.here in
        clash (ap₂ (λ (x : Key) (y : Bool). same_key (further x y) z) same bit ∙ same_key_refl z) e
        in
        below (record_words * i + digit c) (omega (arith, st.inside, digit_small c)) apart
        ∙ w.recorded.kids i l c st
        ∙ sym (place_other (further l c) 0 ks z e))
        (decided (same_key (further l c) z))

    kid_new : (c : Bool) → get_or area (record_words * L + digit c) 0 ≡ child (ks ++ (z ∷ [])) z c
    unfolding child
    kid_new c =
        zeros (digit c) (omega (arith, digit_small c))
        ∙ sym
        (place_other (further z c) 0 ks z (same_key_ne (further z c) z (longer z c []))
        ∙ place_out (further z c) 0 ks (childless c))

    new_recorded : Recorded n a₀ (ks ++ (z ∷ [])) marks area
    new_recorded = record {
      long = length_zeroed (record_words * L) (record_words * L + record_words) stored (omega arith) (omega (arith, long)) ∙ long;
      kids = λ i l c st.
          ⊎_elim (λ o. kid_old i l c o)
          (λ e. (λ t. get_or area (record_words * e.0 t + digit c) 0) ∙ kid_new c ∙ (λ t. child (ks ++ (z ∷ [])) (sym e.1 t) c))
          (stands_snoc ks z i l st);
      words = λ i l v st h.
          ⊎_elim
          (λ o. below (record_words * i + vector_start + v) (omega (arith, o.inside)) (λ q. omega (arith, digit_small b)) ∙ w.recorded.words i l v o h)
          (λ e.
          (λ t. get_or area (record_words * e.0 t + vector_start + v) 0)
          ∙ ap (λ (j : ℕ). get_or area j 0) (omega arith)
          ∙ zeros (vector_start + v) (omega arith)
          ∙ sym (no_marks n marks l v (w.sound.marked l (ap (λ (x : Key). has_record x ks) e.1 ∙ new))))
          (stands_snoc ks z i l st);
      rest = λ j h.
          let more : length (ks ++ (z ∷ [])) ≡ L + 1 = length-append ks (z ∷ []) in
          zeroed_above (record_words * L) (record_words * L + record_words) j stored (omega arith) (omega (arith, long)) (omega (arith, more))
          ∙ get_or-set_other s.area (record_words * s.at + digit b) j L 0 (λ q. omega (arith, inside, digit_small b, more))
          ∙ w.recorded.rest j (omega (arith, more));
    }

    new_sound : Sound5 (ks ++ (z ∷ [])) marks
    new_sound =
        let grown : grown ks z ≡ ks ++ (z ∷ []) = grown_new ks z new in
        record {
          once = subst Once grown (once_grown ks z w.sound.once);
          parented = subst Parented grown (parented_grown ks k b (stands_has_record ks _ k w.here) w.sound.parented);
          rooted = λ f h. stands_append ks (z ∷ []) f (at f []) (w.sound.rooted f h);
          marked = λ l e i. w.sound.marked l (or_falses (has_record l ks) (has_record l (z ∷ [])) (sym (has_record_append l ks (z ∷ [])) ∙ e)).0 i;
        }

    new_child : Walking n a₀ (ks ++ (z ∷ [])) marks z (down (digit b) s)
    unfolding made
    new_child =
        rw (down_new (digit b) s (word ∙ place_out z 0 ks new), w.next)
        (record {
          sound = new_sound;
          recorded = new_recorded;
          next = sym (length-append ks (z ∷ []));
          here = record { inside = omega (arith, length-append ks (z ∷ [])); there = get_or-append_seam ks z [] no_key };
        })

  -- ---- either way

  pub step_walking : record_words * length (grown ks (further k b)) ≤ length a₀ → Walking n a₀ (grown ks (further k b)) marks (further k b) (down (digit b) s)
  step_walking room =
      ⊎_elim
      (λ (e : has_record (further k b) ks ≡ true). rw (grown_old ks (further k b) e) (old_child e))
      (λ (e : has_record (further k b) ks ≡ false).
      rw (grown_new ks (further k b) e)
      (new_child e (omega (arith, rw (grown_new ks (further k b) e) at room, length-append ks (further k b ∷ [])))))
      (decided (has_record (further k b) ks))
