-- Blocks by places: which rules stand in a block, when a block deceives, and which of those that do are before the winner's.
-- Assumes nothing.
use mathlib.Core.Path.{◌≡◌, sym, ap, subst, ◌∙◌}
use mathlib.Core.Logic.{◌↔◌, ⊎_elim}
use mathlib.Core.Bool.{Bool, true, false, not}
use mathlib.Core.List.{List}
use Rattle.std.specs.Prelude.{Option, None, Some}
use Prim.Native.Nat.{ℕ, ◌+◌, ◌-◌, ◌*◌, ◌/◌, ◌≤◌, ◌<◌}
use native.Mathlib.Nat.{add-sub_of_le, div-lt_iff_lt-mul, div-mul-le_self, lt-div-mul-add}
use native.Mathlib.Omega.{arith}
use lib.Arith.{digits_div}
use lib.ListN.{length, get_or, drop, length-take, length-drop}
use lib.Seq.{get_or-take, get_or-drop}
use borrow.Author.Tests.{not-true}
use Rattle.bits.specs.Tests.{any, all, up_from}
use Rattle.bits.proofs.TestLaws.{decided, clash, refuted, and_trues, and_both, less, none_at, all_up, Told}
use Rattle.bits.proofs.EachLaws.{some_at}
use Rattle.bits.proofs.PassLaws.{up_all}
use Rattle.rules.specs.Rule.{Rule}
use Rattle.rules.specs.Match.{matches, no_rule, rule_at, first_match, matches_in, block_of, deceives, blocks_before}
use Rattle.rules.proofs.MatchLaws.{matches_at, match_told}

-- ---- the rules of a block

-- some rule of block b, of `size` places each, passes
abbrev pub SomeIn : ℕ → List Rule → ℕ → (Rule → Bool) → Type 0
SomeIn size rules b test = (place : ℕ) × (place < length rules) × (place / size ≡ b) × (test (rule_at rules place) ≡ true)

module _ (size : ℕ) (pos : 0 < size) (rules : List Rule) (b : ℕ) where
  block_size : (i : ℕ) → (i < length (block_of size rules b)) ↔ ((i < size) × (b * size + i < length rules))
  unfolding block_of
  block_size i =
      let t = length-take size (drop (b * size) rules) in
      let d = length-drop (b * size) rules in
      (λ h. (omega arith, omega arith), λ h. omega (arith, h.0, h.1))

  block_at : (i : ℕ) → i < size → get_or (block_of size rules b) i no_rule ≡ rule_at rules (b * size + i)
  unfolding block_of
  block_at i h = get_or-take size (drop (b * size) rules) i no_rule h ∙ get_or-drop (b * size) rules i no_rule

  -- some rule of the list that is block b passes when one at a place of that block does
  some_in : (test : Rule → Bool) → (any test (block_of size rules b) ≡ true) ↔ SomeIn size rules b test
  some_in test = (
    λ e.
        let s = some_at test (block_of size rules b) no_rule e in
        let inside = (block_size s.0).0 s.1 in
        (b * size + s.0, inside.1, digits_div b inside.0, ap test (sym (block_at s.0 inside.0)) ∙ s.2),
    λ s. ⊎_elim (λ e. e) (λ e. clash s.3 (none_here s.0 s.1 s.2 e)) (decided (any test (block_of size rules b))),
  )
    where
      none_here : (place : ℕ) → place < length rules → place / size ≡ b → any test (block_of size rules b) ≡ false → test (rule_at rules place) ≡ false
      none_here place h here e =
          let low : b * size ≤ place = subst (λ (q : ℕ). q * size ≤ place) here (div-mul-le_self place size) in
          let high : place < b * size + size = subst (λ (q : ℕ). place < q * size + size) here (lt-div-mul-add pos) in
          let i : ℕ = place - b * size in
          let small : i < size = omega arith in
          let at : b * size + i ≡ place = add-sub_of_le low in
          let inside = (block_size i).1 (small, omega arith) in
          ap (λ (k : ℕ). test (rule_at rules k)) (sym at) ∙ ap test (sym (block_at i small)) ∙ none_at test (block_of size rules b) no_rule i e inside

-- ---- the false blocks

-- no rule of block b or of a lower one matches
abbrev pub NoneYet : ℕ → List Rule → List ℕ → ℕ → Type 0
NoneYet size rules values b = (place : ℕ) → place < length rules → place / size ≤ b → matches values (rule_at rules place) ≡ false

-- none does, and in each field some rule of block b has the header's value
pub record Deceiving (size : ℕ) (rules : List Rule) (values : List ℕ) (b : ℕ) : Type 0 where
  pub each_field : (f : ℕ) → f < length values → SomeIn size rules b (matches_in values f)
  pub none_yet : NoneYet size rules values b

-- a place stands before any place of a later block
block_before : (size place later : ℕ) → 0 < size → place / size < later / size → place < later
block_before size place later pos h =
    omega (arith, (div-lt_iff_lt-mul {x = place} {y = later / size} pos).0 h, div-mul-le_self later size)

module _ (size : ℕ) (pos : 0 < size) (rules : List Rule) (values : List ℕ) (b : ℕ) where
  -- "each field has some matching rule and no rule matches in all five"
  deceives_in : deceives values (block_of size rules b) ≡ true
      → ((f : ℕ) → f < length values → SomeIn size rules b (matches_in values f)) × (SomeIn size rules b (matches values) → ⊥)
  unfolding deceives
  deceives_in e =
      let test : ℕ → Bool = λ f. any (matches_in values f) (block_of size rules b) in
      let whole : Bool = any (matches values) (block_of size rules b) in
      let parts = and_trues (all test (up_from 0 (length values))) (not whole) e in (
        λ f h. (some_in size pos rules b (matches_in values f)).0 (all_up test 0 (length values) parts.0 f (omega arith) (omega arith)),
        λ s. clash ((some_in size pos rules b (matches values)).1 s) (not-true whole parts.1),
      )

  in_deceives : ((f : ℕ) → f < length values → SomeIn size rules b (matches_in values f)) → (SomeIn size rules b (matches values) → ⊥)
      → deceives values (block_of size rules b) ≡ true
  unfolding deceives
  in_deceives each no_match =
      let test : ℕ → Bool = λ f. any (matches_in values f) (block_of size rules b) in
      let whole : Bool = any (matches values) (block_of size rules b) in
      and_both (all test (up_from 0 (length values))) (not whole)
      (up_all test 0 (length values) (λ f low high. (some_in size pos rules b (matches_in values f)).1 (each f (omega arith))))
      (ap not (refuted whole (λ e. no_match ((some_in size pos rules b (matches values)).0 e))))

  -- "a block before the winner's (any block, where none wins)"
  before_none : (blocks : ℕ) (o : Option ℕ) → Told (matches_at rules values) (length rules) o → b < blocks_before size blocks o → NoneYet size rules values b
  unfolding blocks_before
  before_none blocks None never h place inside low = never place inside
  before_none blocks (Some winner) is h place inside low = is.first place (block_before size place winner pos (omega arith))

  none_before : (blocks : ℕ) (o : Option ℕ) → Told (matches_at rules values) (length rules) o → b < blocks → NoneYet size rules values b → b < blocks_before size blocks o
  unfolding blocks_before
  none_before blocks None never h yet = h
  none_before blocks (Some winner) is h yet =
      ⊎_elim (λ later. later) (λ low. clash is.passes (yet winner is.below low)) (less b (winner / size))

  module _ (blocks : ℕ) (fits : length rules ≤ blocks * size) (some-field : 0 < length values) where
    -- a block with a rule in it is one of the blocks
    block_below : Deceiving size rules values b → b < blocks
    block_below d =
        let s = d.each_field 0 some-field in
        omega (arith, s.2, (div-lt_iff_lt-mul {x = s.0} {y = blocks} pos).1 (omega (arith, s.1)))

    -- the blocks that `false_blocks` counts
    pub false_exact : ((b < blocks_before size blocks (first_match rules values)) × (deceives values (block_of size rules b) ≡ true)) ↔ Deceiving size rules values b
    false_exact =
        let told = match_told rules values in (
          λ h. record { each_field = (deceives_in h.1).0; none_yet = before_none blocks (first_match rules values) told h.0 },
          λ d. (
            none_before blocks (first_match rules values) told (block_below d) d.none_yet,
            in_deceives d.each_field (λ s. clash s.3 (d.none_yet s.0 s.1 (omega (arith, s.2)))),
          ),
        )
