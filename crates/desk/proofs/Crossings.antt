-- Refusal 13 through the call: it names the first pair that changes order and clashes, and the 13 bytes that it carries are the lowest header
-- that fits both, on which the two rules alone answer differently in their two orders.
-- Assumes nothing.
use Rattle.rules.specs.declared.Refusal.{Refusal}
use Rattle.lookup.specs.declared.Answer.{Answer}
use mathlib.Core.Path.{◌≡◌, refl, sym, ap, ap₂, subst, ◌∙◌}
use mathlib.Core.Logic.{◌⊎◌, ⊎_elim}
use mathlib.Core.Bool.{true}
use mathlib.Core.List.{List, ◌++◌, head-eq_of_cons-eq}
use Rattle.std.specs.Prelude.{Option, None, Some, Result, Err}
use Prim.Native.Nat.{ℕ, ◌≤◌, ◌<◌}
use native.Mathlib.Omega.{arith}
use lib.Dec.{leb}
use lib.ListN.{length, get_or, take, drop, length-append}
use lib.Seq.{take_at, drop_at, take_all}
use borrow.Author.Tests.{le-ltb}
use Rattle.bits.specs.Tests.{each}
use Rattle.bits.proofs.ListLaws.{alike}
use Rattle.bits.proofs.NumberLaws.{bytes_append}
use Rattle.rules.specs.declared.Action.{Action}
use Rattle.rules.specs.declared.Crossing.{Crossing}
use Rattle.rules.specs.declared.Refusal.TheVariants.{NotAllowed}
use Rattle.rules.specs.Action.{action_in}
use Rattle.rules.specs.Rule.{Rule, rule_of}
use Rattle.rules.specs.Refusal.{told, values, said, first_refusal}
use Rattle.rules.specs.Header.{header_values, header_bytes}
use Rattle.rules.specs.Match.{rule_at}
use Rattle.rules.specs.Overlap.{lowest_shared}
use Rattle.rules.specs.Table.{record_size, rule_count, record_at, rules_of, fault}
use Rattle.rules.proofs.TableLaws.{sound_accepted, sound_known}
use Rattle.rules.proofs.MatchLaws.{rules_size, rules_at}
use Rattle.rules.proofs.HeaderLaws.{lowest_reads}
use Rattle.rules.proofs.OverlapLaws.{lowest_shared_fits, lowest_shared_lowest}
use Rattle.overlap.specs.Pairs.{Pair}
use Rattle.overlap.specs.Judge as judge
use Rattle.overlap.proofs.SortedLaws.{pair}
use Rattle.overlap.proofs.JudgeLaws.{clash_exact, Crossed, crossing_exact}
use Rattle.desk.specs.LookCall.{Looks}
use Rattle.desk.specs.JudgeCall.{order_said, output_said, crossing_said, judge_said, Judges}
use Rattle.desk.specs.Terms.{IsHeader, IsTable, Fits, Wins, IsOrder, Share, Clash, Turned, IsIndex, Gets, Differ, IsCrossing}
use Rattle.desk.proofs.TermLaws.{IsRule, fits_matches, share_rules, rule_in_lem, clash_at}
use Rattle.desk.proofs.Demand2.{lookup_match}
use Rattle.desk.proofs.Reasons.{is_order_lem}

-- ---- two rules alone

module _ {a b : List ℕ} (ra : IsRule a) (rb : IsRule b) where
  first_record : record_at (a ++ b) 0 ≡ a
  unfolding record_at
  first_record = take_at a b record_size ra.sound.whole

  second_record : record_at (a ++ b) 1 ≡ b
  unfolding record_at
  second_record = ap (take record_size) (drop_at a b record_size ra.sound.whole) ∙ take_all record_size b (omega (arith, rb.sound.whole))

  -- their table is accepted
  two_table : IsTable (a ++ b)
  two_table =
      let size = length-append a b in
      record {
        bytes = bytes_append a b ra.bytes rb.bytes;
        accepted = sound_accepted (a ++ b) (record {
          whole = omega (arith, size, ra.sound.whole, rb.sound.whole);
          few = omega (arith, size, ra.sound.whole, rb.sound.whole);
          faultless = λ place h.
              ⊎_elim (λ (e : place ≡ 0). rw e (ap fault first_record ∙ ra.sound.faultless))
              (λ (more : place ≡ 0 → ⊥).
              let e : place ≡ 1 = omega (arith, more, size, ra.sound.whole, rb.sound.whole) in
              rw e (ap fault second_record ∙ rb.sound.faultless))
              (alike place 0);
        });
      }

-- over an index of the table of two records, a header that fits the first gets its action
first_gets : {a b header area : List ℕ} {r : Result Answer Refusal} → IsRule a → IsRule b → IsHeader header → Fits header a → IsIndex (a ++ b) area
    → Looks (a ++ b) area header r → (x : Action) × (action_in a ≡ Some x) × Gets r x
first_gets {a} {b} {header} ra rb h fits x l =
    let known = sound_known a ra.sound.faultless in
    let here = first_record ra rb in
    let wins : Wins (a ++ b) header 0 known.0 = record {
      inside = omega (arith, length-append a b, ra.sound.whole, rb.sound.whole);
      fits = subst (Fits header) (sym here) fits;
      carries = ap action_in here ∙ known.1;
      lowest = λ lower q. absurd (omega arith);
    } in
    (known.0, known.1, (0, (lookup_match (two_table ra rb) x h l 0 known.0).1 wins))

two_differ : {a b header : List ℕ} → IsRule a → IsRule b → IsHeader header → Fits header a → Fits header b → (action_in a ≡ action_in b → ⊥) → Differ a b header
two_differ {a} {b} {header} ra rb h fa fb apart = record {
  there_table = two_table ra rb;
  back_table = two_table rb ra;
  answers_differ = λ x l y k.
      let first = first_gets ra rb h fa x l in
      let second = first_gets rb ra h fb y k in
      (first.0, second.0, first.2, second.2, λ e. apart (first.1 ∙ ap Some e ∙ sym second.1));
}

-- ---- the lowest header that two rules share

module _ {a b : List ℕ} (ra : IsRule a) (rb : IsRule b) (s : Share a b) where
  abbrev shared : List ℕ
  shared = header_bytes (lowest_shared (rule_of a) (rule_of b))

  reads : header_values shared ≡ lowest_shared (rule_of a) (rule_of b)
  reads = (lowest_reads a b ra.bytes rb.bytes ra.sound rb.sound).read

  shared_is : IsHeader shared
  shared_is =
      let low = lowest_reads a b ra.bytes rb.bytes ra.sound rb.sound in
      record { bytes = low.bytes_small; size = low.size }

  shared_fits : Fits shared a × Fits shared b
  shared_fits =
      let fits = lowest_shared_fits (rule_of a) (rule_of b) ((share_rules ra rb).0 s) in
      ((fits_matches ra shared_is).1 (rw reads fits.0), (fits_matches rb shared_is).1 (rw reads fits.1))

  shared_lowest : (other : List ℕ) → IsHeader other → Fits other a → Fits other b → each leb (header_values shared) (header_values other) ≡ true
  shared_lowest other is fa fb =
      rw reads (lowest_shared_lowest (rule_of a) (rule_of b) (header_values other) ((fits_matches ra is).0 fa) ((fits_matches rb is).0 fb))

-- ---- what refusal 13 carries

module _ {table o output after : List ℕ} {c : Crossing} (t : IsTable table) (x : IsOrder table o)
    (room : length table ≤ length output) (j : Judges table o output (Err (NotAllowed c)) after) where
  abbrev rules : List Rule
  rules = rules_of table

  says : said (NotAllowed c) ≡ crossing_said rules (judge.crossing rules o)
  unfolding told judge_said first_refusal order_said output_said
  says = j.answer ∙ rw (t.accepted, (is_order_lem table o).0 x, le-ltb (length output) (length table) room) refl

  module _ (p : Pair) (crossed : Crossed rules o p) where
    inside : p.higher < rule_count table
    inside = rw (← rules_size table) crossed.within.inside

    below : p.lower < rule_count table
    below = omega (arith, crossed.within.rises, inside)

    first : IsRule (record_at table p.lower)
    first = rule_in_lem t below

    second : IsRule (record_at table p.higher)
    second = rule_in_lem t inside

    clashes : Clash (record_at table p.lower) (record_at table p.higher)
    clashes = (clash_at t below inside).1 ((clash_exact (rule_at rules p.lower) (rule_at rules p.higher)).1 (crossed.shares, crossed.differs))

    earlier : (i k : ℕ) → (i < p.lower) ⊎ ((i ≡ p.lower) × (k < p.higher)) → Turned table o i k → ⊥
    earlier i k before turned =
        let low : i < rule_count table = omega (arith, turned.rises, turned.inside) in
        omega (
          arith,
          turned.changes,
          crossed.first (pair i k) (record { rises = turned.rises; inside = rw (rules_size table) turned.inside }) before
              ((clash_at t low turned.inside).0 turned.clash),
        )

    crossing_is : IsCrossing table o p.lower p.higher (shared first second clashes.share)
    crossing_is =
        let fits = shared_fits first second clashes.share in
        let is = shared_is first second clashes.share in
        record {
          turned = record { rises = crossed.within.rises; inside = inside; changes = crossed.changes; clash = clashes };
          first_pair = earlier;
          is = is;
          fits_lower = fits.0;
          fits_higher = fits.1;
          lowest = shared_lowest first second clashes.share;
          differ = two_differ first second is fits.0 fits.1 clashes.actions_differ;
        }

  named : (q : Option Pair) → judge.crossing rules o ≡ q → said (NotAllowed c) ≡ crossing_said rules q
      → IsCrossing table o c.lower c.higher (header_bytes (values c.header))
  unfolding said crossing_said
  named None e s = absurd (omega (arith, head-eq_of_cons-eq s))
  named (Some p) e s =
      let crossed = (crossing_exact rules o p).0 e in
      let low : c.lower ≡ p.lower = ap (λ (l : List ℕ). get_or l 1 0) s in
      let high : c.higher ≡ p.higher = ap (λ (l : List ℕ). get_or l 2 0) s in
      let bytes : header_bytes (values c.header) ≡ header_bytes (lowest_shared (rule_of (record_at table p.lower)) (rule_of (record_at table p.higher))) =
      ap (drop 3) s ∙ ap header_bytes (ap₂ lowest_shared (rules_at table p.lower (below p crossed)) (rules_at table p.higher (inside p crossed)))
      in
      rw (low, high, bytes) (crossing_is p crossed)

  pub judge_crossing : IsCrossing table o c.lower c.higher (header_bytes (values c.header))
  judge_crossing = named (judge.crossing rules o) refl says
