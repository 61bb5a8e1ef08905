-- The rules of a table by place, and the first that matches a header.
-- Assumes nothing.
use mathlib.Core.Path.{◌≡◌}
use mathlib.Core.Bool.{Bool}
use mathlib.Core.List.{List}
use Rattle.std.specs.Prelude.{None, Some}
use Prim.Native.Nat.{ℕ, ◌*◌, ◌<◌}
use lib.ListN.{length}
use Rattle.bits.specs.Number.{Bytes}
use Rattle.bits.specs.Tests.{all, up_from}
use Rattle.bits.proofs.TestLaws.{Lowest, Never, Told, lowest_told, lowest_none, lowest_some}
use Rattle.bits.proofs.NumberLaws.{part_bytes}
use Rattle.bits.proofs.EachLaws.{tabled, each_places}
use Rattle.bits.proofs.PlaceLaws.{length_places}
use Rattle.rules.specs.Rule.{has, Rule, nowhere, rule_of}
use Rattle.rules.specs.Match.{matches, rule_at, no_rule, first_match, matches_in}
use Rattle.rules.specs.Table.{record_size, rule_count, record_at, rules_of}

-- ---- the rules of a table

pub rules_size : (table : List ℕ) → length (rules_of table) ≡ rule_count table
unfolding rules_of
rules_size table = length_places (λ place. rule_of (record_at table place)) (rule_count table)

pub rules_at : (table : List ℕ) (place : ℕ) → place < rule_count table → rule_at (rules_of table) place ≡ rule_of (record_at table place)
unfolding rules_of
rules_at table place h = tabled (λ k. rule_of (record_at table k)) (rule_count table) place no_rule h

pub record_bytes : (table : List ℕ) → Bytes table → (place : ℕ) → Bytes (record_at table place)
unfolding record_at
record_bytes table b place = part_bytes table b record_size (place * record_size)

-- a rule with a span for each value matches when it has the value in each field
pub matches_in_lem : (values : List ℕ) (r : Rule) → length r.spans ≡ length values → matches values r ≡ all (λ f. matches_in values f r) (up_from 0 (length values))
unfolding matches matches_in
matches_in_lem values r h = each_places has r.spans values nowhere 0 h

-- ---- the first match

module _ (rules : List Rule) (h : List ℕ) where
  -- the rule at a place matches the header
  abbrev pub matches_at : ℕ → Bool
  matches_at place = matches h (rule_at rules place)

  -- it is the first that does
  abbrev pub First : ℕ → Type 0
  First place = Lowest matches_at (length rules) place

  pub match_told : Told matches_at (length rules) (first_match rules h)
  unfolding first_match
  match_told = lowest_told matches_at (length rules)

  pub first_match_lem : (place : ℕ) → First place → first_match rules h ≡ Some place
  unfolding first_match
  first_match_lem place f = lowest_some matches_at (length rules) place f

  pub no_match : Never matches_at (length rules) → first_match rules h ≡ None
  unfolding first_match
  no_match never = lowest_none matches_at (length rules) never
