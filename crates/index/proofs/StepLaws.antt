-- Laws of the growing steps: each keeps an area ready where there is room, so that a run of them can be taken one after another.
-- Assumes nothing.
use mathlib.Core.Path.{◌≡◌, ap, ap₂, ◌∙◌}
use mathlib.Core.List.{List}
use Prim.Native.Nat.{ℕ, ◌+◌, ◌*◌, ◌≤◌, ◌<◌}
use native.Mathlib.Omega.{arith}
use lib.ListN.{length}
use Rattle.rules.specs.Field.{field_at, value_in, length_in}
use Rattle.rules.specs.Table.{rule_count, record_at, Accepted}
use Rattle.rules.proofs.TableLaws.{accepted_sound, accepted_record}
use Rattle.bits.specs.declared.prefixes.Prefix.{Prefix}
use Rattle.area.specs.declared.grow.Growth.{Growth}
use Rattle.area.specs.Growing.{standing, HasRoom, IsGrown}
use Rattle.area.specs.Shape.{record_words}
use Rattle.area.specs.Upto.{upto}
use Rattle.area.specs.Grow.{zeroed, State, mk, walked, inserted, Kids, Ready, Roomy}
use Rattle.area.proofs.ZeroLaws.{length_zeroed, zeroed_inside}
use Rattle.area.proofs.GrowLaws.{walked_good, bit_kids, bit_length, growth_ready, StateKept, Good, upto_good, turn}
use Rattle.index.specs.Steps.{AllSound, field_in, rule_in, rules_in, cleared, all_in}

-- a field's root may be stood at
pub field_start : (s : State) (f : ℕ) → f < 5 → Ready s → Ready (mk s.area f s.next)
field_start s f h r = record { roots = r.roots; inside = omega (arith, r.roots); whole = r.whole; kids = r.kids }

module _ (bytes : List ℕ) (i f : ℕ) (hi : i < 256) (hf : f < 5) where
  abbrev w : ℕ
  w = (field_at f).width

  abbrev v : ℕ
  v = value_in bytes (field_at f)

  abbrev l : ℕ
  l = length_in bytes (field_at f)

  pub field_good : Good (field_in bytes i f)
  unfolding field_in inserted
  field_good = record {
    more = λ s. (walked_good w v l).more (mk s.area f s.next);
    keeps = λ s r room.
        let start = field_start s f hf r in
        let end = (walked_good w v l).keeps (mk s.area f s.next) start (record { room = room.room; small = room.small }) in
        let t = walked w v l (mk s.area f s.next) in
        let same = bit_length t.at i t.area in
        record {
          ready = record { roots = end.ready.roots; inside = omega (arith, end.ready.roots); whole = rw same end.ready.whole; kids = bit_kids _ i _ _ hi end.ready.kids };
          long = same ∙ end.long;
        };
  }

pub rule_good : (bytes : List ℕ) (i : ℕ) → i < 256 → Good (rule_in bytes i)
unfolding rule_in
rule_good bytes i hi = upto_good (field_in bytes i) 5 (λ f hf. field_good bytes i f hi hf)

pub rules_good : (table : List ℕ) → rule_count table ≤ 256 → (i : ℕ) → i < rule_count table → Good (rule_in (record_at table i) i)
rules_good table h i hi = rule_good (record_at table i) i (omega arith)

-- ---- a growing area

-- of a prefix that is read from a record: what its insertion asks, and what that leaves
module _ (bytes : List ℕ) (i f : ℕ) (p : Prefix) (value : p.value ≡ value_in bytes (field_at f)) (len : p.len ≡ length_in bytes (field_at f))
    (width : p.width ≡ (field_at f).width) (g : Growth) where
  pub field_asks : HasRoom g (field_in bytes i f (standing g 0)) → HasRoom g (walked p.width p.value p.len (standing g f))
  unfolding field_in inserted
  field_asks r = rw (value, len, width) (record { room = r.room; small = r.small })

  pub field_done : (h : Growth) → IsGrown h (inserted p.width p.value p.len i (standing g f)) → standing h 0 ≡ field_in bytes i f (standing g 0)
  unfolding field_in
  field_done h grown = let e = rw (value, len, width) at grown in ap₂ (λ (a : List ℕ) (n : ℕ). mk a 0 n) e.0 e.1

-- of a run of steps: there is room for each turn
module _ (step : ℕ → State → State) (n : ℕ) (good : (j : ℕ) → j < n → Good (step j)) (g : Growth) (room : HasRoom g (upto step n (standing g 0))) where
  pub growth_turn : (j : ℕ) → j < n → (h : Growth) → standing h 0 ≡ upto step j (standing g 0) → HasRoom h (step j (standing h 0))
  growth_turn j l h e = (turn step n good (standing g 0) (growth_ready g 0 (omega (arith, g.roots))) room j l (standing h 0) e).1

-- the five cleared roots are ready
pub cleared_ready : (a : List ℕ) → 5 * record_words ≤ length a → StateKept (mk a 0 5) (cleared a)
unfolding cleared Kids
cleared_ready a h = record {
  ready = record {
    roots = omega arith;
    inside = omega arith;
    whole = omega (arith, length_zeroed 0 (5 * record_words) a (omega arith) h);
    kids = λ k b hk hb. rw (zeroed_inside 0 (5 * record_words) (record_words * k + b) a (omega arith) h (omega arith) (omega arith)) (omega arith);
  };
  long = length_zeroed 0 (5 * record_words) a (omega arith) h;
}

pub roots_ready : (a words : List ℕ) → 5 * record_words ≤ length a → words ≡ zeroed 0 (5 * record_words) a → Ready (mk words 0 5)
unfolding cleared
roots_ready a words h e = rw e (cleared_ready a h).ready

-- ---- all rules of a table

-- room for all has room for the roots
pub room_roots : (table a : List ℕ) (m : ℕ) → rule_count table ≤ 256 → Roomy (all_in table a) m → 5 * record_words ≤ m
unfolding all_in rules_in cleared
room_roots table a m h r =
    omega (arith, (upto_good (λ i. rule_in (record_at table i) i) (rule_count table) (rules_good table h)).more (cleared a), r.room)

-- and where the roots are cleared, there is still room for all
pub all_start : (table a : List ℕ) → rule_count table ≤ 256 → Roomy (all_in table a) (length a)
    → (g : Growth) → standing g 0 ≡ cleared a → HasRoom g (rules_in table (rule_count table) (standing g 0))
unfolding all_in
all_start table a h r g rooted =
    let big = room_roots table a (length a) h r in
    let same : length g.words.now ≡ length a = ap (λ (s : State). length s.area) rooted ∙ (cleared_ready a big).long in
    rw same (rw rooted r)

-- that is how an area grows, whose words in the end are those of the growing one
pub all_grown : (table a : List ℕ) (g h : Growth) → standing g 0 ≡ cleared a → standing h 0 ≡ rules_in table (rule_count table) (standing g 0)
    → (words : List ℕ) → words ≡ h.words.now → mk words 0 h.next ≡ all_in table a
unfolding all_in
all_grown table a g h rooted grown words same = ap (λ (l : List ℕ). mk l 0 h.next) same ∙ grown ∙ ap (rules_in table (rule_count table)) rooted

-- what these laws and those of the build ask of a table: an accepted one has it
pub all_sound : (table : List ℕ) → Accepted table → AllSound table × (rule_count table ≤ 256)
all_sound table ok = (record { each = accepted_record table ok }, (accepted_sound table ok).few)
