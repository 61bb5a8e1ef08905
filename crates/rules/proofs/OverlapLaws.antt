-- Two rules against each other.
-- Over any width, the tests of spans say of two prefixes what is meant: they share when one prefix leads the other, the lowest shared value is
-- then the longer prefix's, and one covers the other when its prefix leads the other's.
-- Over any rules, two share exactly when some header matches both, their lowest shared header is the lowest of those, and one covers another
-- exactly when it matches all that the other does.
-- Assumes nothing.
use mathlib.Core.Path.{◌≡◌, refl, sym, ap, ap₂, fun_ext, ◌∙◌}
use mathlib.Core.Logic.{◌↔◌, ⊎_elim}
use mathlib.Core.Bool.{true, false, ◌||◌, false≢true}
use mathlib.Core.List.{List, [], ◌∷◌}
use Prim.Native.Nat.{ℕ, ◌-◌, ◌^◌, ◌≤◌, ◌<◌, max, min}
use native.Mathlib.Nat.{max_comm, min_comm, max-eq_right}
use native.Mathlib.Omega.{arith}
use lib.Dec.{leb}
use lib.Pow.{pow_pos, pow-lt}
use borrow.Author.Tests.{leb-true, le-leb}
use Rattle.bits.specs.Path.{bits, prefix, leads, stray}
use Rattle.bits.specs.Tests.{each}
use Rattle.bits.proofs.TestLaws.{same_test, and_trues, and_both, or_trues, less}
use Rattle.bits.proofs.EachLaws.{each_flip, each_both, each_made, each_makes}
use Rattle.bits.proofs.PathLaws.{leads_trans, leads_either, leads_prefix}
use Rattle.rules.specs.Rule.{Span, has, span_of, Rule}
use Rattle.rules.specs.Match.{matches}
use Rattle.rules.specs.Overlap.{span_share, share, span_covers, covers, span_low, lowest_shared}
use Rattle.rules.proofs.SpanLaws.{has_ends, in_span, ends_in, own_in, has_leads, has_within}

-- ---- two spans

-- they share where they have a value in common
pub common_share : (s t : Span) (x : ℕ) → has s x ≡ true → has t x ≡ true → span_share s t ≡ true
unfolding span_share
common_share s t x p q = le-leb (max s.low t.low) (min s.high t.high) (omega (arith, has_ends s x p, has_ends t x q))

-- and then the larger low end is one
pub low_common : (s t : Span) → span_share s t ≡ true → (has s (span_low s t) ≡ true) × (has t (span_low s t) ≡ true)
unfolding span_share span_low
low_common s t e =
    let h = leb-true (max s.low t.low) (min s.high t.high) e in
    (in_span s (span_low s t) (omega arith) (omega arith), in_span t (span_low s t) (omega arith) (omega arith))

-- the lowest one
pub low_lowest : (s t : Span) (x : ℕ) → has s x ≡ true → has t x ≡ true → leb (span_low s t) x ≡ true
unfolding span_low
low_lowest s t x p q = le-leb (span_low s t) x (omega (arith, has_ends s x p, has_ends t x q))

pub span_swap : (s t : Span) → span_share s t ≡ span_share t s
unfolding span_share
span_swap s t = ap₂ leb (max_comm s.low t.low) (min_comm s.high t.high)

pub low_swap : (s t : Span) → span_low s t ≡ span_low t s
unfolding span_low
low_swap s t = max_comm s.low t.low

pub covers_ends : (s t : Span) → span_covers s t ≡ true → (s.low ≤ t.low) × (t.high ≤ s.high)
unfolding span_covers
covers_ends s t e =
    let b = and_trues (leb s.low t.low) (leb t.high s.high) e in
    (leb-true s.low t.low b.0, leb-true t.high s.high b.1)

-- what the covered span has the other has
pub covers_has : (s : Span) (x : ℕ) (t : Span) → span_covers s t ≡ true → has t x ≡ true → has s x ≡ true
covers_has s x t e f =
    let c = covers_ends s t e in
    let h = has_ends t x f in
    in_span s x (omega arith) (omega arith)

-- and to have its ends is enough to cover it
pub has_covers : (s t : Span) → has s t.low ≡ true → has s t.high ≡ true → span_covers s t ≡ true
unfolding span_covers
has_covers s t e f =
    and_both (leb s.low t.low) (leb t.high s.high)
    (le-leb s.low t.low (has_ends s t.low e).0)
    (le-leb t.high s.high (has_ends s t.high f).1)

-- ---- two prefixes

module _ (w v l x m : ℕ) (hl : l ≤ w) (hm : m ≤ w) (hv : v < 2 ^ w) (hx : x < 2 ^ w) (cv : stray w v l ≡ false) (cx : stray w x m ≡ false) where
  -- a prefix that leads another has all that the other has
  leads_has : leads (prefix w v l) (prefix w x m) ≡ true → (y : ℕ) → has (span_of w x m) y ≡ true → has (span_of w v l) y ≡ true
  leads_has e y f =
      let hy = has_within w x m y hm hx cx f in
      has_leads w v l y hl hv hy cv
      ∙ leads_trans (prefix w v l) (prefix w x m) (bits w y) e (sym (has_leads w x m y hm hx hy cx) ∙ f)

  -- its value above all
  leads_value_lem : leads (prefix w v l) (prefix w x m) ≡ true → has (span_of w v l) x ≡ true
  leads_value_lem e = leads_has e x (own_in w x m)

  -- the larger span is the shorter prefix's
  covers_shorter : span_covers (span_of w v l) (span_of w x m) ≡ true → l ≤ m
  unfolding span_of
  covers_shorter e =
      let c = covers_ends (span_of w v l) (span_of w x m) e in
      ⊎_elim (λ (h : m < l). absurd (omega (arith, pow-lt {i = w - l} {j = w - m} (omega arith), pow_pos (w - l)))) (λ h. h) (less m l)

  covers_prefix : span_covers (span_of w v l) (span_of w x m) ≡ true → leads (prefix w v l) (prefix w x m) ≡ true
  covers_prefix e =
      leads_prefix w v l x m hl
      ∙ and_both (leb l m) (leads (prefix w v l) (bits w x)) (le-leb l m (covers_shorter e))
      (sym (has_leads w v l x hl hv hx cv) ∙ covers_has (span_of w v l) x (span_of w x m) e (own_in w x m))

  leads_covers : leads (prefix w v l) (prefix w x m) ≡ true → span_covers (span_of w v l) (span_of w x m) ≡ true
  leads_covers e =
      let t = span_of w x m in
      let ends = ends_in t x (own_in w x m) in
      has_covers (span_of w v l) t (leads_has e t.low ends.0) (leads_has e t.high ends.1)

  pub covers_leads : span_covers (span_of w v l) (span_of w x m) ≡ leads (prefix w v l) (prefix w x m)
  covers_leads = same_test (span_covers (span_of w v l) (span_of w x m)) (leads (prefix w v l) (prefix w x m)) covers_prefix leads_covers

  leads_share : leads (prefix w v l) (prefix w x m) ≡ true → span_share (span_of w v l) (span_of w x m) ≡ true
  leads_share e = common_share (span_of w v l) (span_of w x m) x (leads_value_lem e) (own_in w x m)

  -- both prefixes lead the lowest shared value
  share_either : span_share (span_of w v l) (span_of w x m) ≡ true → (leads (prefix w v l) (prefix w x m) || leads (prefix w x m) (prefix w v l)) ≡ true
  share_either e =
      let y = span_low (span_of w v l) (span_of w x m) in
      let f = low_common (span_of w v l) (span_of w x m) e in
      let hy = has_within w x m y hm hx cx f.1 in
      leads_either (prefix w v l) (prefix w x m) (bits w y) (sym (has_leads w v l y hl hv hy cv) ∙ f.0) (sym (has_leads w x m y hm hx hy cx) ∙ f.1)

  -- the lowest shared value is the longer prefix's
  pub low_longer : leads (prefix w v l) (prefix w x m) ≡ true → span_low (span_of w v l) (span_of w x m) ≡ x
  unfolding span_low span_of
  low_longer e = max-eq_right (has_ends (span_of w v l) x (leads_value_lem e)).0

module _ (w v l x m : ℕ) (hl : l ≤ w) (hm : m ≤ w) (hv : v < 2 ^ w) (hx : x < 2 ^ w) (cv : stray w v l ≡ false) (cx : stray w x m ≡ false) where
  -- the same where the first prefix is the longer
  pub low_longer_first : leads (prefix w x m) (prefix w v l) ≡ true → span_low (span_of w v l) (span_of w x m) ≡ v
  low_longer_first e = low_swap (span_of w v l) (span_of w x m) ∙ low_longer w x m v l hm hl hx hv cx cv e

  pub share_leads : span_share (span_of w v l) (span_of w x m) ≡ (leads (prefix w v l) (prefix w x m) || leads (prefix w x m) (prefix w v l))
  share_leads =
      let s = span_of w v l in
      let t = span_of w x m in
      let a = leads (prefix w v l) (prefix w x m) in
      let b = leads (prefix w x m) (prefix w v l) in
      same_test (span_share s t) (a || b) (share_either w v l x m hl hm hv hx cv cx)
      (λ e. ⊎_elim (leads_share w v l x m hl hm hv hx cv cx) (λ h. span_swap s t ∙ leads_share w x m v l hm hl hx hv cx cv h) (or_trues a b e))

-- ---- two rules

-- the lowest shared header matches both
pub lowest_shared_fits : (a b : Rule) → share a b ≡ true → (matches (lowest_shared a b) a ≡ true) × (matches (lowest_shared a b) b ≡ true)
unfolding share matches lowest_shared
lowest_shared_fits a b e = each_makes span_share span_low has has low_common a.spans b.spans e

-- and in each field no header that matches both has a lower value
pub lowest_shared_lowest : (a b : Rule) (h : List ℕ) → matches h a ≡ true → matches h b ≡ true → each leb (lowest_shared a b) h ≡ true
unfolding matches lowest_shared
lowest_shared_lowest a b h e f = each_made has has span_low leb low_lowest a.spans b.spans h e f

pub share_exact : (a b : Rule) → (share a b ≡ true) ↔ ((h : List ℕ) × (matches h a ≡ true) × (matches h b ≡ true))
unfolding share matches
share_exact a b = (
  λ e. let f = lowest_shared_fits a b e in (lowest_shared a b, f.0, f.1),
  λ c. each_both has has span_share common_share a.spans b.spans c.0 c.1 c.2,
)

pub share_swap : (a b : Rule) → share a b ≡ share b a
unfolding share
share_swap a b = each_flip span_share a.spans b.spans ∙ ap (λ t. each t b.spans a.spans) (fun_ext (λ t. fun_ext (λ s. span_swap s t)))

-- what the covered rule matches the other matches
pub covers_matches : (a b : Rule) (h : List ℕ) → covers a b ≡ true → matches h b ≡ true → matches h a ≡ true
unfolding covers matches
covers_matches a b h e f =
    each_both span_covers (λ x t. has t x) has covers_has a.spans h b.spans e (sym (each_flip has b.spans h) ∙ f)

-- the other way round, where the covered rule matches some header h: any of its values may stand with the rest of h
matches_covers : (ss ts : List Span) (h : List ℕ)
    → each has ts h ≡ true → ((g : List ℕ) → each has ts g ≡ true → each has ss g ≡ true) → each span_covers ss ts ≡ true
unfolding each
matches_covers [] [] h e all = refl
matches_covers (s ∷ ss) [] h e all = absurd (false≢true (all [] refl))
matches_covers ss (t ∷ ts) [] e all = absurd (false≢true e)
matches_covers [] (t ∷ ts) (x ∷ h) e all = absurd (false≢true (all (x ∷ h) e))
matches_covers (s ∷ ss) (t ∷ ts) (x ∷ h) e all =
    let b = and_trues (has t x) (each has ts h) e in
    let ends = ends_in t x b.0 in
    let split : (y : ℕ) (g : List ℕ) → has t y ≡ true → each has ts g ≡ true → (has s y ≡ true) × (each has ss g ≡ true) =
    λ y g p q. and_trues (has s y) (each has ss g) (all (y ∷ g) (and_both (has t y) (each has ts g) p q))
    in
    and_both (span_covers s t) (each span_covers ss ts)
    (has_covers s t (split t.low h ends.0 b.1).0 (split t.high h ends.1 b.1).0)
    (matches_covers ss ts h b.1 (λ g q. (split x g b.0 q).1))

-- a rule that matches some header, which is to say that it shares with itself, is covered exactly by what matches all that it does
pub covers_exact : (a b : Rule) → share b b ≡ true → (covers a b ≡ true) ↔ ((h : List ℕ) → matches h b ≡ true → matches h a ≡ true)
unfolding covers matches
covers_exact a b e = (
  λ c h. covers_matches a b h c,
  matches_covers a.spans b.spans (lowest_shared b b) (lowest_shared_fits b b e).0,
)
