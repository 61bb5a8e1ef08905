-- 01's worked examples, K1 to K12, as one table: what the definitions give beside what 01 says, and of K11 what 02 says since Q-1.
-- Assumes nothing.
use Rattle.std.specs.Prelude.{◌≡◌, List, [], ◌∷◌, ◌++◌, map, ℕ, ◌*◌, take, drop}
use Rattle.rules.specs.Table.{rules_of, verdict}
use Rattle.area.specs.Shape.{desk_shape, record_words}
use Rattle.index.specs.Image.{image}
use Rattle.index.specs.Need.{need}
use Rattle.lookup.specs.Answer.{answer_said}
use Rattle.lookup.specs.Look.{look_said}
use Rattle.overlap.specs.Pairs.{pairs_of, entries}
use Rattle.desk.specs.JudgeCall.{judge_said}

-- ---- the six rules of 001, Fig. 1: source and destination address carry the two fields, all deliver

-- a rule over two addresses given by their first bytes: a/l to b/m, with kind and feed
abbrev pub two_fields : ℕ → ℕ → ℕ → ℕ → ℕ → ℕ → List ℕ
two_fields a l b m kind feed =
    a ∷ 0 ∷ 0 ∷ 0 ∷ b ∷ 0 ∷ 0 ∷ 0 ∷ 0 ∷ 0 ∷ 0 ∷ 0 ∷ 0 ∷ l ∷ m ∷ 0 ∷ 0 ∷ 0 ∷ kind ∷ feed ∷ 0 ∷ 0 ∷ 0 ∷ 0 ∷ []

abbrev R0 : List ℕ
R0 = two_fields 0 1 128 2 1 10

abbrev R1 : List ℕ
R1 = two_fields 0 2 128 1 1 100

abbrev R2 : List ℕ
R2 = two_fields 192 2 192 2 1 10

abbrev R3 : List ℕ
R3 = two_fields 224 3 224 3 1 100

abbrev R4 : List ℕ
R4 = two_fields 160 3 128 2 1 100

abbrev R5 : List ℕ
R5 = two_fields 0 0 64 2 1 10

abbrev pub six_rules : List ℕ
six_rules = R0 ++ R1 ++ R2 ++ R3 ++ R4 ++ R5

-- ---- other tables

-- protocol 1 exactly, with destination port 80 exactly
abbrev port_of_icmp : List ℕ
port_of_icmp = 0 ∷ 0 ∷ 0 ∷ 0 ∷ 0 ∷ 0 ∷ 0 ∷ 0 ∷ 0 ∷ 0 ∷ 0 ∷ 80 ∷ 1 ∷ 0 ∷ 0 ∷ 0 ∷ 16 ∷ 8 ∷ 0 ∷ 0 ∷ 0 ∷ 0 ∷ 0 ∷ 0 ∷ []

-- R3 with kind 2
abbrev unknown_third : List ℕ
unknown_third = R0 ++ R1 ++ R2 ++ two_fields 224 3 224 3 2 100 ++ R4 ++ R5

-- record n of a table's index
abbrev record_in : List ℕ → ℕ → List ℕ
record_in table n = take record_words (drop (n * record_words) (image desk_shape (rules_of table)))

-- a header from a.0.0.1 to b.0.0.1, with ports and protocol 0
abbrev header_of : ℕ → ℕ → List ℕ
header_of a b = a ∷ 0 ∷ 0 ∷ 1 ∷ b ∷ 0 ∷ 0 ∷ 1 ∷ 0 ∷ 0 ∷ 0 ∷ 0 ∷ 0 ∷ []

-- what the steps over a table's index say of a header
abbrev looked_in : List ℕ → List ℕ → List ℕ
looked_in table header = look_said table (image desk_shape (rules_of table)) header

-- ---- the table

pub record Example : Type 0 where
  -- its number in 01
  pub k : ℕ
  -- what the definitions give, and what 01 says
  pub given : List ℕ
  pub told : List ℕ

abbrev example : ℕ → List ℕ → List ℕ → Example
example n g t = record { k = n; given = g; told = t }

abbrev pub examples : List Example
examples =
    example 1 (need desk_shape (rules_of six_rules) ∷ []) (198 ∷ [])
    ∷ example 2 (need desk_shape (rules_of []) ∷ []) (55 ∷ [])
    ∷ example 3 (record_in six_rules 0) (5 ∷ 9 ∷ 1 ∷ 32 ∷ 0 ∷ 0 ∷ 0 ∷ 0 ∷ 0 ∷ 0 ∷ 0 ∷ [])
    ∷ example 4 (record_in six_rules 8) (0 ∷ 0 ∷ 1 ∷ 35 ∷ 0 ∷ 0 ∷ 0 ∷ 0 ∷ 0 ∷ 0 ∷ 0 ∷ [])
    ∷ example 5 (looked_in six_rules (header_of 0 128)) (0 ∷ 0 ∷ 1 ∷ 0 ∷ 1 ∷ 10 ∷ [])
    ∷ example 5 (answer_said six_rules (header_of 0 128)) (0 ∷ 0 ∷ 1 ∷ 0 ∷ 1 ∷ 10 ∷ [])
    ∷ example 6 (looked_in six_rules (header_of 224 240)) (0 ∷ 0 ∷ 1 ∷ 2 ∷ 1 ∷ 10 ∷ [])
    ∷ example 6 (answer_said six_rules (header_of 224 240)) (0 ∷ 0 ∷ 1 ∷ 2 ∷ 1 ∷ 10 ∷ [])
    ∷ example 7 (looked_in six_rules (header_of 64 192)) (0 ∷ 1 ∷ 0 ∷ [])
    ∷ example 7 (answer_said six_rules (header_of 64 192)) (0 ∷ 1 ∷ 0 ∷ [])
    ∷ example 8 (entries (pairs_of (rules_of six_rules))) (0 ∷ 1 ∷ [])
    ∷ example 9 (judge_said six_rules (0 ∷ 1 ∷ 2 ∷ 3 ∷ 5 ∷ 4 ∷ []) six_rules) (0 ∷ [])
    ∷ example 10 (judge_said six_rules (1 ∷ 0 ∷ 2 ∷ 3 ∷ 4 ∷ 5 ∷ []) six_rules) (13 ∷ 0 ∷ 1 ∷ 0 ∷ 0 ∷ 0 ∷ 0 ∷ 128 ∷ 0 ∷ 0 ∷ 0 ∷ 0 ∷ 0 ∷ 0 ∷ 0 ∷ 0 ∷ [])
    ∷ example 11 (verdict port_of_icmp) (14 ∷ 0 ∷ [])
    ∷ example 12 (verdict unknown_third) (5 ∷ 3 ∷ [])
    ∷ []

-- the one claim
abbrev pub AllWorked : Type 0
AllWorked = map (λ (e : Example). e.given) examples ≡ map (λ (e : Example). e.told) examples
