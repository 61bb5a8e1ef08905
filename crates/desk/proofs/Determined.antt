-- Each call's statement fixes its answer and every lent word: any two results that satisfy it are equal.
-- Assumes nothing.
use Rattle.rules.specs.declared.Refusal.{Refusal}
use Rattle.lookup.specs.declared.Answer.{Answer}
use Rattle.std.specs.Prelude.{Result}
use mathlib.Core.Path.{◌≡◌, refl, sym, ◌∙◌}
use mathlib.Core.Logic.{◌⊎◌, inl, inr, ⊎_elim}
use mathlib.Core.List.{List, [], ◌∷◌}
use Prim.Native.Nat.{ℕ, ◌≤◌, ◌<◌}
use lib.ListN.{get_or}
use borrow.Author.Tests.{lt-ltb, le-ltb}
use Rattle.bits.proofs.TestLaws.{less}
use Rattle.rules.specs.Table.{rule_count, record_at}
use Rattle.rules.specs.Refusal.{told}
use Rattle.rules.proofs.SaidLaws.{told_one}
use Rattle.lookup.proofs.LookedLaws.{looked_one}
use Rattle.desk.specs.BuildCall.{Builds}
use Rattle.desk.specs.LookCall.{Looks}
use Rattle.desk.specs.PairsCall.{Pairs}
use Rattle.desk.specs.JudgeCall.{Judges}
use Rattle.desk.specs.Show.{shown_part, Shows}

-- an answer whose values can be read back, and what is left: both fixed by what is said and what must be left
lent_one : {A : Type 0} (carried : A → List ℕ) (read : List ℕ → A) → ((a : A) → read (carried a) ≡ a) → {a b : Result A Refusal} {says after other left : List ℕ}
    → told carried a ≡ says → told carried b ≡ says → after ≡ left → other ≡ left → (a ≡ b) × (after ≡ other)
lent_one carried read back {a} {b} p q l m = (told_one carried read back a b (p ∙ sym q), l ∙ sym m)

-- of an answer that carries one number
number_one : {a b : Result ℕ Refusal} {says after other left : List ℕ}
    → told (λ n. n ∷ []) a ≡ says → told (λ n. n ∷ []) b ≡ says → after ≡ left → other ≡ left → (a ≡ b) × (after ≡ other)
number_one = lent_one (λ n. n ∷ []) (λ vs. get_or vs 0 0) (λ _. refl)

pub build_one : {table area : List ℕ} {a b : Result ℕ Refusal} {after other : List ℕ}
    → Builds table area a after → Builds table area b other → (a ≡ b) × (after ≡ other)
build_one p q = number_one p.answer q.answer p.lent q.lent

pub lookup_one : {table area header : List ℕ} {a b : Result Answer Refusal} → Looks table area header a → Looks table area header b → a ≡ b
lookup_one {a = a} {b = b} p q = looked_one a b (p.answer ∙ sym q.answer)

pub pairs_one : {table list : List ℕ} {a b : Result ℕ Refusal} {after other : List ℕ}
    → Pairs table list a after → Pairs table list b other → (a ≡ b) × (after ≡ other)
pairs_one p q = number_one p.answer q.answer p.lent q.lent

pub judge_one : {table order output : List ℕ} {a b : Result Unit Refusal} {after other : List ℕ}
    → Judges table order output a after → Judges table order output b other → (a ≡ b) × (after ≡ other)
judge_one p q = lent_one (λ _. []) (λ _. tt) (λ _. refl) p.answer q.answer p.lent q.lent

-- ---- show

pub show_one : {table : List ℕ} {place : ℕ} {part other : List ℕ} → Shows table place part → Shows table place other → part ≡ other
show_one s t = s.answer ∙ sym t.answer

-- the record at the place, or nothing
pub shown_part_lem : {table : List ℕ} {place : ℕ} {part : List ℕ} → Shows table place part
    → ((place < rule_count table) × (part ≡ record_at table place)) ⊎ ((rule_count table ≤ place) × (part ≡ []))
unfolding shown_part
shown_part_lem {table} {place} s =
    ⊎_elim (λ h. inl (h, s.answer ∙ rw (lt-ltb place (rule_count table) h) refl)) (λ h. inr (h, s.answer ∙ rw (le-ltb place (rule_count table) h) refl))
    (less place (rule_count table))
