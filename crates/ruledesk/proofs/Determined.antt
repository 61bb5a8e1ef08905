-- The statement of `report` fixes what the program writes: two results are equal, and whatever was read is held of some file and some input.
-- Assumes nothing.
use mathlib.Core.Path.{◌≡◌, refl, sym, ◌∙◌}
use mathlib.Core.Logic.{⊎_elim}
use mathlib.Core.List.{List, [], ◌∷◌, ◌++◌}
use Prim.Native.Nat.{ℕ, zero, suc, ◌-◌, ◌≤◌, ◌<◌}
use native.Mathlib.Omega.{arith}
use lib.ListN.{length, take, replicate, length-append, length-replicate}
use lib.Seq.{take_all, take_at, length-take-le}
use Rattle.bits.specs.Number.{Bytes}
use Rattle.bits.proofs.TestLaws.{less}
use Rattle.bits.proofs.NumberLaws.{bytes_append, part_bytes}
use Rattle.rules.specs.Refusal.{first_refusal}
use Rattle.rules.specs.Table.{verdict}
use Rattle.desk.specs.BuildCall.{build_said}
use Rattle.ruledesk.specs.Text.{codes, decimal_within, decimal}
use Rattle.ruledesk.specs.Lines.{place_text, refused_text, line}
use Rattle.ruledesk.specs.Program.{text_after, program_text, Holds, Reports}

pub report_one : {file input area out : List ℕ} {n m : ℕ} {a b k l : List ℕ} → Reports file input area out n a k → Reports file input area out m b l
    → (n ≡ m) × (a ≡ b) × (k ≡ l)
report_one r s = (r.text.ends ∙ sym s.text.ends, r.text.written ∙ sym s.text.written, r.lent ∙ sym s.lent)

zeros_bytes : (n : ℕ) → Bytes (replicate n 0)
zeros_bytes zero k = omega arith
zeros_bytes (suc n) zero = omega arith
zeros_bytes (suc n) (suc k) = zeros_bytes n k

-- bytes of any length that begin with what is held
pub held_some : (room : List ℕ) (whole : ℕ) → Bytes room → (bytes : List ℕ) × Holds bytes room whole
held_some room whole each =
    ⊎_elim
    (λ (long : length room < whole).
    let rest : List ℕ = replicate (whole - length room) 0 in
    let zeros : length rest ≡ whole - length room = length-replicate (whole - length room) 0 in (
      room ++ rest,
      record {
        each = bytes_append room rest each (zeros_bytes (whole - length room));
        size = omega (arith, length-append room rest, zeros);
        front = take_at room rest (length room) refl ∙ sym (take_all whole room (omega arith));
      },
    ))
    (λ (short : whole ≤ length room).
    let size = length-take-le whole room short in (
      take whole room,
      record { each = part_bytes room each whole 0; size = size; front = take_all (length room) (take whole room) (omega (arith, size)) },
    ))
    (less (length room) whole)

-- so what `report` ensures, of every file and every input of which so much was read, fixes its result
module _ (head : List ℕ) (file : ℕ) (first : List ℕ) (input : ℕ) (area out : List ℕ) where
  abbrev Ensured : ℕ → List ℕ → List ℕ → Type 0
  Ensured n after left = (table bytes : List ℕ) → Holds table head file → Holds bytes first input → Reports table bytes area out n after left

  pub report_fixed : Bytes head → Bytes first → {n m : ℕ} {a b k l : List ℕ} → Ensured n a k → Ensured m b l → (n ≡ m) × (a ≡ b) × (k ≡ l)
  report_fixed h f r s =
      let table = held_some head file h in
      let bytes = held_some first input f in
      report_one (r table.0 bytes.0 table.1 bytes.1) (s table.0 bytes.0 table.1 bytes.1)

-- what cannot be read counts as one byte: 1
pub unreadable_text : (b : ℕ) (input : List ℕ) → program_text (b ∷ []) input ≡ codes "refused 1\n"
unfolding program_text text_after build_said verdict first_refusal line refused_text place_text decimal decimal_within
unreadable_text b input = refl
