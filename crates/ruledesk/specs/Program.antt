-- The desk program (01: "The desk program"): the whole text that it writes, from the whole file and the whole input.
-- Assumes nothing.
use Rattle.std.specs.Prelude.{◌≡◌, Bool, not, ◌||◌, cond, ℕ, zero, suc, ◌*◌, ◌/◌, ◌%◌, eqb, ltb, length, take, drop, replicate}
use mathlib.Core.List.{List, [], ◌∷◌, map, flatten}
use Rattle.bits.specs.Number.{Bytes}
use Rattle.bits.specs.Tests.{up_from}
use Rattle.bits.specs.Writing.{Writes}
use Rattle.rules.specs.Header.{header_size}
use Rattle.lookup.specs.Answer.{answer_said}
use Rattle.desk.specs.BuildCall.{build_said, area_left}
use Rattle.ruledesk.specs.Lines.{refused_text, answer_text, line}

-- "with an area of 16,384 words": whatever stands in them
abbrev pub area_words : ℕ
area_words = 16384

unfoldable pub fresh_area : List ℕ
fresh_area = replicate area_words 0

-- "headers from standard input, at most 13,000 bytes"
abbrev pub most_input : ℕ
most_input = 13000

-- the headers of an input, one after another
unfoldable pub header_in : List ℕ → ℕ → List ℕ
header_in input n = take header_size (drop (n * header_size) input)

-- a line for each of the first n, by what is said of a header
unfoldable pub first_lines : (List ℕ → List ℕ) → List ℕ → ℕ → List ℕ
first_lines says input n = flatten (map (λ k. line (answer_text (says (header_in input k)))) (up_from 0 n))

-- "a length over 13,000 or no multiple of 13"
unfoldable pub bad_length : ℕ → Bool
bad_length n = ltb most_input n || not (eqb (n % header_size) 0)

-- "one line per header"; a bad length "gives only `refused 8`"
unfoldable pub input_text : (List ℕ → List ℕ) → List ℕ → List ℕ
input_text says input = cond (bad_length (length input)) (line (refused_text (8 ∷ []))) (first_lines says input (length input / header_size))

-- "Only after a successful build is the input judged"; "A refused table or build gives one line"
unfoldable pub text_after : List ℕ → List ℕ → List ℕ → List ℕ
text_after [] table input = []
text_after (zero ∷ values) table input = input_text (answer_said table) input
text_after (suc n ∷ values) table input = line (refused_text (suc n ∷ values))

-- the answers are those of the rule that wins, by the rules alone (`answer_said`)
unfoldable pub program_text : List ℕ → List ℕ → List ℕ
program_text file input = text_after (build_said file fresh_area) file input

-- ---- what was read

-- bytes of which the first are held, as many as there is room for, and whose length was counted to the end
pub record Holds (bytes room : List ℕ) (whole : ℕ) : Type 0 where
  pub each : Bytes bytes
  pub size : length bytes ≡ whole
  pub front : take (length room) bytes ≡ take whole room

-- what the program writes from the front of `out`, and what it leaves in its area
pub record Reports (file input area out : List ℕ) (next : ℕ) (after left : List ℕ) : Type 0 where
  pub text : Writes out 0 (program_text file input) after next
  pub lent : left ≡ area_left file area
