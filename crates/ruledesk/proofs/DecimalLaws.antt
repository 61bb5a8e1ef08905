-- A number's decimal text is the one that std prints.
-- Assumes nothing.
use mathlib.Core.Path.{◌≡◌, refl, sym}
use Prim.Native.Nat.{ℕ, suc, ◌^◌, ◌<◌}
use native.Mathlib.Omega.{arith}
use borrow.Author.Tests.{lt-ltb, le-ltb}
use Rattle.std.specs.Fmt as fmt
use Rattle.std.proofs.lemmas.Fmt.{AppendsLastDigit, decimal_from_appends, length-decimal-le_succ}
use Rattle.ruledesk.specs.Text.{decimal_within, decimal}

last_digit : AppendsLastDigit decimal_within
unfolding decimal_within
last_digit = record {
  one = λ k n h. rw (lt-ltb n 10 h, decimal_within) refl;
  more = λ k n h. rw (le-ltb n 10 h, decimal_within) refl;
}

pub decimal_printed : (n : ℕ) → n < 2 ^ 64 → fmt.decimal n ≡ decimal n
unfolding decimal
decimal_printed n h = sym (decimal_from_appends decimal_within last_digit (suc n) n h (omega (arith, length-decimal-le_succ n h)))
