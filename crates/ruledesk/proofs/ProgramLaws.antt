-- The program's text: what is held stands for the whole, one line more, and the ways in which the program ends.
-- Assumes nothing.
use Rattle.std.specs.Prelude.{Result, Ok, Err}
use mathlib.Core.Path.{◌≡◌, refl, sym, ap, subst, ◌∙◌}
use mathlib.Core.Logic.{⊎_elim}
use mathlib.Core.Bool.{cond}
use mathlib.Core.List.{List, [], ◌∷◌, ◌++◌, map, flatten, append-nil, map-append}
use Prim.Native.Nat.{ℕ, zero, suc, ◌+◌, ◌-◌, ◌*◌, ◌/◌, ◌%◌, ◌≤◌, ◌<◌}
use native.Mathlib.Nat.{zero-add}
use native.Mathlib.Numerals.{add-one}
use native.Mathlib.Omega.{arith}
use lib.Dec.{ltb}
use lib.ListN.{length, get_or, take, drop, replicate, length-drop, length-replicate}
use lib.Seq.{take_all, length-take-le}
use borrow.Author.Tests.{lt-ltb, le-ltb, eq-eqb, ne_eqb}
use Rattle.std.specs.List.{slice_range}
use Rattle.std.specs.Simd.{first_chunks}
use Rattle.bits.specs.Writing.{Writes}
use Rattle.bits.specs.Number.{Bytes}
use Rattle.bits.specs.Tests.{up_from}
use Rattle.bits.proofs.ListLaws.{alike, flatten_append}
use Rattle.bits.proofs.NumberLaws.{part_bytes}
use Rattle.bits.proofs.EachLaws.{up_snoc}
use Rattle.rules.proofs.RecordLaws.{chunk_at}
use Rattle.rules.specs.declared.Refusal.{Refusal}
use Rattle.rules.specs.declared.Refusal.TheVariants.{NotAHeader}
use Rattle.rules.specs.Refusal.{told, said, first_refusal}
use Rattle.rules.specs.Header.{header_size}
use Rattle.rules.specs.Table.{record_size, most_rules, verdict}
use Rattle.rules.proofs.SaidLaws.{numbered}
use Rattle.lookup.specs.Answer.{answer_said}
use Rattle.lookup.specs.Look.{look_said}
use Rattle.lookup.proofs.Demand2.{look_answer}
use Rattle.desk.specs.Lent.{room_said}
use Rattle.desk.specs.BuildCall.{built_said, words_needed, build_said, area_left, Builds}
use Rattle.desk.proofs.LentLaws.{lent_refused}
use Rattle.desk.proofs.BuildLaws.{built_image}
use Rattle.ruledesk.specs.InCode.{Puts, long_said}
use Rattle.ruledesk.specs.Lines.{refused_text, answer_text, line}
use Rattle.ruledesk.specs.Program.{area_words, fresh_area, most_input, header_in, first_lines, bad_length, input_text, text_after, program_text, Holds, Reports}
use Rattle.ruledesk.proofs.TextLaws.{text_same, puts_both}

-- ---- what is held

-- bytes for which there is room are held whole
pub holds_whole : {bytes room : List ℕ} {whole : ℕ} → Holds bytes room whole → whole ≤ length room → bytes ≡ take whole room
holds_whole {bytes} {room} h fits = sym (take_all (length room) bytes (omega (arith, h.size))) ∙ h.front

pub held_part : {bytes room part : List ℕ} {whole : ℕ} → Holds bytes room whole → whole ≤ length room → part ≡ slice_range room 0 whole → bytes ≡ part
held_part {room = room} {whole = whole} h fits same =
    let all : whole - 0 ≡ whole = omega arith in
    holds_whole h fits ∙ sym (same ∙ ap (λ (n : ℕ). take n room) all)

-- the same file by another name
pub report_same : {table other input area out : List ℕ} {next : ℕ} {after left : List ℕ} → table ≡ other
    → Reports table input area out next after left → Reports other input area out next after left
report_same {input = input} {area} {out} {next} {after} {left} e r = subst (λ (t : List ℕ). Reports t input area out next after left) e r

-- ---- lines

module _ (says : List ℕ → List ℕ) (input : List ℕ) where
  pub lines_none : first_lines says input 0 ≡ []
  unfolding first_lines up_from flatten
  lines_none = refl

  -- one line more
  pub lines_more : (n : ℕ) → first_lines says input (n + 1) ≡ first_lines says input n ++ line (answer_text (says (header_in input n)))
  unfolding first_lines flatten
  lines_more n =
      let line_at : ℕ → List ℕ = λ k. line (answer_text (says (header_in input k))) in
      ap (λ (l : List ℕ). flatten (map line_at l)) (ap (up_from 0) (add-one n) ∙ up_snoc 0 n)
      ∙ ap flatten (map-append line_at (up_from 0 n) ((0 + n) ∷ []))
      ∙ flatten_append (map line_at (up_from 0 n)) (line_at (0 + n) ∷ [])
      ∙ ap (λ (l : List ℕ). flatten (map line_at (up_from 0 n)) ++ l) (append-nil (line_at (0 + n)) ∙ ap line_at (zero-add n))

-- one line more, put
pub lines_put : (says : List ℕ → List ℕ) (input : List ℕ) (n : ℕ) {out mid : List ℕ} {at : ℕ} {after : List ℕ} {next : ℕ}
    → Puts (n * 64) out 0 (first_lines says input n) mid at → Puts 64 mid at (line (answer_text (says (header_in input n)))) after next
    → Puts ((n + 1) * 64) out 0 (first_lines says input (n + 1)) after next
lines_put says input n before here =
    let both = puts_both (n * 64) 64 before here in
    (text_same (sym (lines_more says input n)) both.0, omega (arith, both.1))

-- what is said of the headers alone counts
pub lines_agree : (says other : List ℕ → List ℕ) (input : List ℕ) (n : ℕ) → ((k : ℕ) → k < n → says (header_in input k) ≡ other (header_in input k))
    → first_lines says input n ≡ first_lines other input n
lines_agree says other input zero same = lines_none says input ∙ sym (lines_none other input)
lines_agree says other input (suc n) same =
    let one : suc n ≡ n + 1 = sym (add-one n) in
    ap (first_lines says input) one
    ∙ lines_more says input n
    ∙ ap (λ (l : List ℕ). l ++ line (answer_text (says (header_in input n)))) (lines_agree says other input n (λ k h. same k (omega arith)))
    ∙ ap (λ (h : List ℕ). first_lines other input n ++ line (answer_text h)) (same n (omega arith))
    ∙ sym (lines_more other input n)
    ∙ ap (first_lines other input) (sym one)

-- a header as a part of the input
pub header_part : (input : List ℕ) (k : ℕ) → take ((k * header_size + header_size) - k * header_size) (drop (k * header_size) input) ≡ header_in input k
unfolding header_in
header_part input k = let size : (k * header_size + header_size) - k * header_size ≡ header_size = omega arith in ap (λ (n : ℕ). take n (drop (k * header_size) input)) size

-- a chunk of the input is a header
pub header_chunk : (input : List ℕ) (k n : ℕ) → n < k → get_or (first_chunks header_size k input) n [] ≡ header_in input n
header_chunk input k n h =
    let size : header_size ≡ (n * header_size + header_size) - n * header_size = omega arith in
    chunk_at header_size k n input h ∙ ap (λ (m : ℕ). take m (drop (n * header_size) input)) size ∙ header_part input n

header_whole : (input : List ℕ) (k : ℕ) → k < length input / header_size → length (header_in input k) ≡ header_size
unfolding header_in
header_whole input k h = length-take-le header_size (drop (k * header_size) input) (simp length-drop (omega arith))

header_bytes_lem : (input : List ℕ) → Bytes input → (k : ℕ) → Bytes (header_in input k)
unfolding header_in
header_bytes_lem input each k = part_bytes input each header_size (k * header_size)

-- ---- the input

module _ (says : List ℕ → List ℕ) (input : List ℕ) where
  pub input_long : most_input < length input → line (refused_text (said NotAHeader)) ≡ input_text says input
  unfolding input_text bad_length said
  input_long h = rw (lt-ltb most_input (length input) h) refl

  pub input_ragged : length input ≤ most_input → (length input % header_size ≡ 0 → ⊥) → line (refused_text (said NotAHeader)) ≡ input_text says input
  unfolding input_text bad_length said
  input_ragged h e = rw (le-ltb most_input (length input) h, ne_eqb (length input % header_size) 0 e) refl

  pub input_lines : length input ≤ most_input → length input % header_size ≡ 0 → first_lines says input (length input / header_size) ≡ input_text says input
  unfolding input_text bad_length
  input_lines h e = rw (le-ltb most_input (length input) h, eq-eqb (length input % header_size) 0 e) refl

pub input_agree : (says other : List ℕ → List ℕ) (input : List ℕ) → Bytes input
    → ((header : List ℕ) → Bytes header → length header ≡ header_size → says header ≡ other header) → input_text says input ≡ input_text other input
unfolding input_text
input_agree says other input each same =
    ap (cond (bad_length (length input)) (line (refused_text (8 ∷ []))))
    (lines_agree says other input (length input / header_size)
    (λ k h. same (header_in input k) (header_bytes_lem input each k) (header_whole input k h)))

-- ---- the ends

-- of an area its length alone counts
fresh : (table area : List ℕ) → length area ≡ area_words → build_said table area ≡ build_said table fresh_area
unfolding build_said room_said fresh_area
fresh table area size =
    let same : length area ≡ length {A = ℕ} (replicate area_words 0) = size ∙ sym (length-replicate {A = ℕ} area_words 0) in
    ap (λ (n : ℕ). first_refusal (verdict table) (cond (ltb n (words_needed table)) (7 ∷ []) (0 ∷ words_needed table ∷ []))) same

module _ (table input area : List ℕ) (size : length area ≡ area_words) where
  text_from : (says : List ℕ) → says ≡ build_said table area → text_after says table input ≡ program_text table input
  unfolding program_text
  text_from says e = ap (λ (l : List ℕ). text_after l table input) (e ∙ fresh table area size)

  -- a table or a build that is refused
  pub text_said : (r : Refusal) → said r ≡ build_said table area → line (refused_text (said r)) ≡ program_text table input
  unfolding text_after
  text_said r e =
      ap (λ (l : List ℕ). line (refused_text l)) (numbered r).2
      ∙ text_from (suc (numbered r).0 ∷ (numbered r).1) (sym (numbered r).2 ∙ e)

  module _ {o : Result ℕ Refusal} {left : List ℕ} (built : Builds table area o left) {out after : List ℕ} {next : ℕ} where
    pub reports_refused : {r : Refusal} → o ≡ Err r → Writes out 0 (line (refused_text (said r))) after next → Reports table input area out next after left
    unfolding told
    reports_refused {r} e w = record { text = text_same (text_said r (ap built_said (sym e) ∙ built.answer)) w; lent = built.lent }

    -- a build that is done: what the steps over its area say is what the rules say
    pub reports_done : {words : ℕ} → o ≡ Ok words → Bytes table → Bytes input → Writes out 0 (input_text (look_said table left) input) after next
        → Reports table input area out next after left
    unfolding text_after told
    reports_done {words} e bytes each w =
        let held = built_image (subst (λ (r : Result ℕ Refusal). Builds table area r left) e built) in
        let text = input_agree (look_said table left) (answer_said table) input each (λ header b right. look_answer table bytes held.0 header b right left held.1)
        ∙ text_from (0 ∷ words ∷ []) (ap built_said (sym e) ∙ built.answer) in
        record { text = text_same text w; lent = built.lent }

pub left_refused : (table area : List ℕ) (r : Refusal) → said r ≡ build_said table area → area ≡ area_left table area
unfolding area_left
left_refused table area r e = (lent_refused r (build_said table area) _ area (sym e)).1

-- a table of more than 256 rules is refused by its length
pub long_refused : (table area : List ℕ) → most_rules * record_size < length table → build_said table area ≡ long_said (length table)
unfolding build_said verdict long_said first_refusal
long_refused table area h =
    ⊎_elim
    (λ (even : length table % record_size ≡ 0).
    let many : most_rules < length table / record_size = omega arith in
    rw (eq-eqb (length table % record_size) 0 even, lt-ltb most_rules (length table / record_size) many) refl)
    (λ (ragged : length table % record_size ≡ 0 → ⊥). rw (ne_eqb (length table % record_size) 0 ragged) refl)
    (alike (length table % record_size) 0)
