-- Demand 2's pairs through the call: the entries that it leaves are exactly the pairs of rules that share a header of 13 bytes while neither
-- covers the other, each once, in order; and no two lists are so.
-- Assumes nothing.
use Rattle.rules.specs.Refusal.{told}
use Rattle.std.specs.Prelude.{Ok}
use mathlib.Core.Path.{◌≡◌, sym, ap, ap₂, subst, subst₂, ◌∙◌}
use mathlib.Core.Logic.{◌↔◌, ◌⊎◌, inl, inr, ⊎_elim}
use mathlib.Core.Bool.{false}
use mathlib.Core.List.{List, [], ◌∷◌, ◌++◌, map, Memᴰ}
use Prim.Native.Nat.{ℕ, ◌+◌, ◌*◌, ◌<◌}
use native.Mathlib.Omega.{arith}
use lib.ListN.{length, get_or, drop}
use lib.Seq.{drop_at}
use Rattle.bits.proofs.TestLaws.{clash, refuted}
use Rattle.bits.specs.Tests.{up_from}
use Rattle.bits.proofs.EachLaws.{tabled}
use Rattle.bits.proofs.PlaceLaws.{length_places}
use Rattle.bits.proofs.MemberLaws.{place_member, member_place}
use Rattle.rules.specs.Match.{rule_at}
use Rattle.rules.specs.Overlap.{covers}
use Rattle.rules.specs.Table.{rule_count, record_at, rules_of}
use Rattle.rules.proofs.MatchLaws.{rules_at}
use Rattle.overlap.specs.Pairs.{Pair, pairs_of, entries}
use Rattle.overlap.proofs.SortedLaws.{pair, Before, Sorted, sorted_at, at_sorted, sorted_one}
use Rattle.overlap.proofs.PairLaws.{pairs_sorted}
use Rattle.overlap.proofs.ListedHeaders.{listed_header}
use Rattle.overlap.proofs.LoopLaws.{entries_size}
use Rattle.overlap.proofs.EntryLaws.{pair_entries}
use Rattle.desk.specs.PairsCall.{pair_count, pairs_said, pairs_left, Pairs}
use Rattle.desk.specs.Terms.{IsHeader, IsTable, Covers, CutsAcross, ListsPairs}
use Rattle.desk.proofs.TermLaws.{fits_matches, covers_rules, rule_in_lem}
use Rattle.desk.proofs.LentLaws.{room_value, done_written}

-- ---- one pair

module _ {table : List ℕ} (t : IsTable table) {i j : ℕ} (low : i < rule_count table) (high : j < rule_count table) where
  uncovered : (covers (rule_at (rules_of table) i) (rule_at (rules_of table) j) ≡ false) ↔ (Covers (record_at table i) (record_at table j) → ⊥)
  uncovered =
      let c = covers_rules (rule_in_lem t low) (rule_in_lem t high) in
      let same = ap₂ covers (rules_at table i low) (rules_at table j high) in
      (λ e f. clash (same ∙ c.0 f) e, λ no. refuted (covers _ _) (λ e. no (c.1 (sym same ∙ e))))

pub listed_cuts : {table : List ℕ} → IsTable table → (i j : ℕ)
    → Memᴰ (pair i j) (pairs_of (rules_of table)) ↔ ((i < j) × (j < rule_count table) × CutsAcross (record_at table i) (record_at table j))
listed_cuts {table} t i j =
    let by-header = listed_header table t.bytes t.accepted (pair i j) in (
      λ m.
          let l = by-header.0 m in
          let low : i < rule_count table = omega (arith, l.within.rises, l.within.inside) in
          let high = l.within.inside in
          let s = l.shared in
          let is : IsHeader s.header = record { bytes = s.bytes; size = s.size } in (
            l.within.rises,
            high,
            record {
              share = record {
                header = s.header;
                is = is;
                fits_first = (fits_matches (rule_in_lem t low) is).1 s.first;
                fits_second = (fits_matches (rule_in_lem t high) is).1 s.second;
              };
              not_over = (uncovered t low high).0 l.not_over;
              not_under = (uncovered t high low).0 l.not_under;
            },
          ),
      λ c.
          let low : i < rule_count table = omega (arith, c.0, c.1) in
          let high = c.1 in
          let s = c.2.share in
          by-header.1 (record {
            within = record { rises = c.0; inside = high };
            shared = record {
              header = s.header;
              bytes = s.is.bytes;
              size = s.is.size;
              first = (fits_matches (rule_in_lem t low) s.is).0 s.fits_first;
              second = (fits_matches (rule_in_lem t high) s.is).0 s.fits_second;
            };
            not_over = (uncovered t low high).1 c.2.not_over;
            not_under = (uncovered t high low).1 c.2.not_under;
          }),
    )

-- ---- the list that the call leaves

module _ {table list after : List ℕ} {count : ℕ} (p : Pairs table list (Ok count) after) where
  abbrev ps : List Pair
  ps = pairs_of (rules_of table)

  counted : count ≡ length ps
  unfolding told pairs_said
  counted = room_value table list 9 (2 * pair_count table) (pair_count table) count (sym p.answer)

  left : after ≡ entries ps ++ drop (2 * length ps) list
  unfolding told pairs_left
  left = p.lent ∙ done_written (pairs_said table list) (entries ps ++ drop (2 * length ps) list) list (count ∷ []) (sym p.answer)

  -- pair k of the list
  abbrev listed : ℕ → Pair
  listed k = get_or ps k (pair 0 0)

  entry : (k : ℕ) → k < count → (get_or after (2 * k) 0 ≡ (listed k).lower) × (get_or after (2 * k + 1) 0 ≡ (listed k).higher)
  entry k h =
      subst (λ (l : List ℕ). (get_or l (2 * k) 0 ≡ (listed k).lower) × (get_or l (2 * k + 1) 0 ≡ (listed k).higher)) (sym left)
      (pair_entries (pair 0 0) (drop (2 * length ps) list) ps k (omega (arith, counted)))

  exact : IsTable table → (i j : ℕ)
      → ((k : ℕ) × (k < count) × (get_or after (2 * k) 0 ≡ i) × (get_or after (2 * k + 1) 0 ≡ j))
      ↔ ((i < j) × (j < rule_count table) × CutsAcross (record_at table i) (record_at table j))
  exact t i j = (
    λ there.
        let e = entry there.0 there.1 in
        let is : listed there.0 ≡ pair i j = λ k. pair ((sym e.0 ∙ there.2) k) ((sym e.1 ∙ there.3) k) in
        (listed_cuts t i j).0 (subst (λ (q : Pair). Memᴰ q ps) is (place_member (pair 0 0) ps there.0 (omega (arith, counted, there.1)))),
    λ c.
        let there = member_place (pair 0 0) ps ((listed_cuts t i j).1 c) in
        let inside : there.0 < count = omega (arith, counted, there.1) in
        let e = entry there.0 inside in
        (there.0, inside, e.0 ∙ ap (λ (q : Pair). q.lower) there.2, e.1 ∙ ap (λ (q : Pair). q.higher) there.2),
  )

  in_order : (k l : ℕ) → k < l → l < count
      → (get_or after (2 * k) 0 < get_or after (2 * l) 0)
      ⊎ ((get_or after (2 * k) 0 ≡ get_or after (2 * l) 0) × (get_or after (2 * k + 1) 0 < get_or after (2 * l + 1) 0))
  in_order k l h g =
      let a = entry k (omega arith) in
      let b = entry l g in
      ⊎_elim (λ (less : (listed k).lower < (listed l).lower). inl (omega (arith, a.0, b.0)))
      (λ (same : ((listed k).lower ≡ (listed l).lower) × ((listed k).higher < (listed l).higher)).
      inr (a.0 ∙ same.0 ∙ sym b.0, omega (arith, a.1, b.1, same.1)))
      (sorted_at ps (pair 0 0) (pairs_sorted (rules_of table)) k l h (omega (arith, counted)))

  pub pairs_listed : IsTable table → ListsPairs table after count
  pairs_listed t = record { exact = exact t; in_order = in_order }

  pub pairs_beyond : drop (2 * count) after ≡ drop (2 * count) list
  pairs_beyond =
      ap₂ (λ (n : ℕ) (l : List ℕ). drop (2 * n) l) counted left
      ∙ drop_at (entries ps) (drop (2 * length ps) list) (2 * length ps) (entries_size ps)
      ∙ ap (λ (n : ℕ). drop (2 * n) list) (sym counted)

-- ---- no two lists are so

-- the first pairs of a list, so many
module _ {table list : List ℕ} {count : ℕ} (is : ListsPairs table list count) where
  abbrev pair_at : ℕ → Pair
  pair_at k = pair (get_or list (2 * k) 0) (get_or list (2 * k + 1) 0)

  abbrev first : List Pair
  first = map pair_at (up_from 0 count)

  first_size : length first ≡ count
  first_size = length_places pair_at count

  first_at : (k : ℕ) → k < count → get_or first k (pair 0 0) ≡ pair_at k
  first_at k h = tabled pair_at count k (pair 0 0) h

  first_sorted : Sorted first
  first_sorted =
      at_sorted first (pair 0 0)
      (λ k l h g.
      let inside : l < count = omega (arith, first_size) in
      subst₂ Before (sym (first_at k (omega arith))) (sym (first_at l inside)) (is.in_order k l h inside))

  first_exact : (p : Pair) → Memᴰ p first
      ↔ ((p.lower < p.higher) × (p.higher < rule_count table) × CutsAcross (record_at table p.lower) (record_at table p.higher))
  first_exact p = (
    λ m.
        let there = member_place (pair 0 0) first m in
        let inside : there.0 < count = omega (arith, first_size, there.1) in
        let here : pair_at there.0 ≡ p = sym (first_at there.0 inside) ∙ there.2 in
        (is.exact p.lower p.higher).0 (there.0, inside, ap (λ (q : Pair). q.lower) here, ap (λ (q : Pair). q.higher) here),
    λ c.
        let there = (is.exact p.lower p.higher).1 c in
        let here : pair_at there.0 ≡ p = λ k. pair (there.2 k) (there.3 k) in
        subst (λ (q : Pair). Memᴰ q first) (first_at there.0 there.1 ∙ here)
        (place_member (pair 0 0) first there.0 (omega (arith, first_size, there.1))),
  )

pub pairs_only : {table one other : List ℕ} {m n : ℕ} → ListsPairs table one m → ListsPairs table other n
    → (m ≡ n) × ((k : ℕ) → k < m → (get_or one (2 * k) 0 ≡ get_or other (2 * k) 0) × (get_or one (2 * k + 1) 0 ≡ get_or other (2 * k + 1) 0))
pairs_only {table} {one} {other} {m} {n} a b =
    let same = sorted_one (first a) (first b) (first_sorted a) (first_sorted b)
    (λ p i. (first_exact b p).1 ((first_exact a p).0 i)) (λ p i. (first_exact a p).1 ((first_exact b p).0 i))
    in
    let size : m ≡ n = sym (first_size a) ∙ ap length same ∙ first_size b in (
      size,
      λ k h.
          let here : pair_at a k ≡ pair_at b k =
          sym (first_at a k h) ∙ ap (λ (ps : List Pair). get_or ps k (pair 0 0)) same ∙ first_at b k (omega (arith, size))
          in
          (ap (λ (q : Pair). q.lower) here, ap (λ (q : Pair). q.higher) here),
    )
