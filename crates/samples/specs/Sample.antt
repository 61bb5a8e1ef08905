-- What is written into a table: a record at a place, a rule that delivers, the six rules.
-- Assumes nothing.
use Rattle.std.specs.Prelude.{◌≡◌, cond, List, ◌++◌, ℕ, ◌*◌, ◌≤◌, ltb, length, drop}
use Rattle.std.proofs.Math.Seq.{paste}
use Rattle.rules.specs.Table.{record_size, rule_count}
use Rattle.desk.specs.Worked.{two_fields, six_rules}

-- a table without that place stays as it is
unfoldable pub written : List ℕ → ℕ → List ℕ → List ℕ
written table place rule = cond (ltb place (rule_count table)) (paste table (place * record_size) rule record_size) table

-- a rule over two addresses that delivers
abbrev pub delivering : ℕ → ℕ → ℕ → ℕ → ℕ → List ℕ
delivering a l b m feed = two_fields a l b m 1 feed

-- `after` is `before` with the six rules of 01's worked examples at its start, where they fit
pub record StartsWithSix (before after : List ℕ) : Type 0 where
  pub starts : length six_rules ≤ length before → after ≡ six_rules ++ drop (length six_rules) before
