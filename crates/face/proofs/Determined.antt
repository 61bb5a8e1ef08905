-- What goes out is fixed by what is said: any two answers that hand over the same, and any two parts that show the same place, are equal.
-- And nothing is lost on the way.
-- Assumes nothing.
use mathlib.Core.Path.{◌≡◌, sym, ap, ◌∙◌}
use mathlib.Core.List.{List, ◌∷◌}
use Prim.Native.Nat.{ℕ, suc, ◌-◌}
use native.Mathlib.Omega.{arith}
use lib.ListN.{length, get_or, take, drop, replicate}
use lib.Seq.{take_at}
use Rattle.face.specs.declared.Answer.{Answer}
use Rattle.face.specs.declared.Part.{Part}
use Rattle.face.specs.Hands.{Hands}
use Rattle.face.specs.Points.{Points}

-- ---- build, lookup, pairs and judge

pub hands_one : {said : List ℕ} {a b : Answer} → Hands said a → Hands said b → a ≡ b
hands_one {a = a} {b = b} p q =
    let counts : a.count ≡ b.count = omega (arith, p.carried, q.carried) in
    let all : a.number ∷ a.values ≡ b.number ∷ b.values = p.answer ∙ sym q.answer in
    λ i. record {
      number = ap (λ (vs : List ℕ). get_or vs 0 0) all i;
      count = counts i;
      values = ap (drop 1) all i;
    }

-- what is said can be read back: the number, and then as many values as `count` says
pub hands_back : {said : List ℕ} {r : Answer} → Hands said r → r.number ∷ take r.count r.values ≡ said
hands_back {said = said} {r = r} h =
    ap (take (suc r.count)) h.answer ∙ take_at said (replicate (16 - length said) 0) (suc r.count) (sym h.carried)

-- ---- show

pub points_one : {table : List ℕ} {place : ℕ} {a b : Part} → Points table place a → Points table place b → a ≡ b
points_one p q = λ i. record { start = (p.from ∙ sym q.from) i; length = (p.long ∙ sym q.long) i }
