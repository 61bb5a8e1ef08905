-- Each statement fixes its answer: any two answers that satisfy it, for the same bytes, are equal.
-- Assumes nothing.
use mathlib.Core.Path.{◌≡◌, sym, ◌∙◌}
use mathlib.Core.List.{List}
use Prim.Native.Nat.{ℕ}
use Rattle.std.specs.Prelude.{Result}
use Rattle.rules.specs.declared.Header.{Header}
use Rattle.rules.specs.declared.Refusal.{Refusal}
use Rattle.rules.specs.Refusal.{checked_said, heard_said}
use Rattle.rules.specs.Table.{rule_said, verdict}
use Rattle.rules.specs.Header.{header_said}
use Rattle.rules.proofs.SaidLaws.{checked_one, heard_one}

pub check_table_one : (table : List ℕ) (a b : Result Unit Refusal) → checked_said a ≡ verdict table → checked_said b ≡ verdict table → a ≡ b
check_table_one table a b p q = checked_one a b (p ∙ sym q)

pub check_rule_one : (place : ℕ) (rule : List ℕ) (a b : Result Unit Refusal) → checked_said a ≡ rule_said place rule → checked_said b ≡ rule_said place rule → a ≡ b
check_rule_one place rule a b p q = checked_one a b (p ∙ sym q)

pub read_header_one : (header : List ℕ) (a b : Result Header Refusal) → heard_said a ≡ header_said header → heard_said b ≡ header_said header → a ≡ b
read_header_one header a b p q = heard_one a b (p ∙ sym q)
