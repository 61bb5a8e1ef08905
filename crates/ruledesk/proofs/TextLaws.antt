-- Text that a line gains, and text that is put into a buffer.
-- Assumes nothing.
use mathlib.Core.Path.{◌≡◌, sym, ap, subst, ◌∙◌}
use mathlib.Core.List.{List, [], ◌++◌, append-nil, append_assoc}
use Prim.Native.Nat.{ℕ, ◌+◌, ◌-◌, ◌≤◌}
use native.Mathlib.Omega.{arith}
use lib.ListN.{length, take, drop, length-append}
use lib.Seq.{sets-eq, drop-drop}
use borrow.Rule.Slice.PartMut.{put_mid}
use Rattle.bits.specs.Writing.{Writes}
use Rattle.bits.proofs.WritingLaws.{writes_both}
use Rattle.ruledesk.specs.InCode.{Gains, Puts}

-- ---- at the end of a line

pub gains_text : (before text : List ℕ) {after : List ℕ} → after ≡ before ++ text → Gains (length text) before text after
gains_text before text e = record { behind = e; few = omega arith }

pub gains_nothing : (before : List ℕ) → Gains 0 before [] before
gains_nothing before = record { behind = sym (append-nil before); few = omega arith }

-- one text after another
pub gains_both : (j k : ℕ) {before first mid second after : List ℕ}
    → Gains j before first mid → Gains k mid second after → Gains (j + k) before (first ++ second) after
gains_both j k {before} {first} {second = second} v w = record {
  behind = w.behind ∙ ap (λ (l : List ℕ). l ++ second) v.behind ∙ append_assoc before first second;
  few = omega (arith, v.few, w.few, length-append first second);
}

-- there is room for more
pub gains_within : (k most : ℕ) {before text after : List ℕ} → k ≤ most → Gains k before text after → Gains most before text after
gains_within k most h w = record { behind = w.behind; few = omega (arith, w.few) }

-- an empty line has then that text alone
pub gains_alone : (most : ℕ) {before text after : List ℕ} → before ≡ [] → Gains most before text after → after ≡ text
gains_alone most {text = text} none w = w.behind ∙ ap (λ (l : List ℕ). l ++ text) none

-- ---- from a byte on

-- a text that a part of the buffer now is
pub writes_part : (out : List ℕ) (at count : ℕ) (text : List ℕ) {part : List ℕ} → part ≡ text → count ≡ length text → at + count ≤ length out
    → Writes out at text (put_mid at ((at + count) - at) out part) (at + count)
writes_part out at count text same size room =
    let whole : (at + count) - at ≡ count = omega arith in record {
      written =
          rw (same, whole)
          (ap (λ (rest : List ℕ). take at out ++ (text ++ rest)) (drop-drop count at out ∙ ap (λ (n : ℕ). drop (at + n) out) size)
          ∙ sym (append_assoc (take at out) text (drop (at + length text) out))
          ∙ sym (sets-eq text out at (omega (arith, size))));
      ends = omega (arith, size);
    }

-- the same text by another name
pub text_same : {out : List ℕ} {at : ℕ} {text other after : List ℕ} {next : ℕ} → text ≡ other → Writes out at text after next → Writes out at other after next
text_same {out} {at} {after = after} {next = next} e w = subst (λ (t : List ℕ). Writes out at t after next) e w

-- one text after another
pub puts_both : (j k : ℕ) {out : List ℕ} {at : ℕ} {first mid : List ℕ} {from : ℕ} {second after : List ℕ} {next : ℕ}
    → Puts j out at first mid from → Puts k mid from second after next → Puts (j + k) out at (first ++ second) after next
puts_both j k v w = (writes_both v.0 w.0, omega (arith, v.1, w.1))
