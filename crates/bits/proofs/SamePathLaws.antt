-- Laws of paths, bit by bit: equal paths, a path against one that goes on, and what two paths have in common.
-- Assumes nothing.
use mathlib.Core.Path.{◌≡◌, refl, ap, ap₂, ◌∙◌}
use mathlib.Core.Bool.{Bool, true, false, ◌&&◌, ◌||◌, beq, true≢false, false≢true}
use mathlib.Core.List.{[], ◌∷◌, ◌++◌}
use Prim.Native.Nat.{suc}
use lib.Dec.{leb, leb-zero, leb-suc-zero, leb-suc-suc}
use lib.ListN.{length}
use Rattle.bits.specs.Path.{Path, leads, same_path, common}
use Rattle.bits.proofs.TestLaws.{and_trues, and_both}
use Rattle.bits.proofs.PathLaws.{beq_same, beq_self}

-- ---- equal paths

pub same_path_eq : (p q : Path) → same_path p q ≡ true → p ≡ q
unfolding same_path
same_path_eq [] [] e = refl
same_path_eq [] (b ∷ q) e = absurd (false≢true e)
same_path_eq (a ∷ p) [] e = absurd (false≢true e)
same_path_eq (a ∷ p) (b ∷ q) e =
    let s = and_trues (beq a b) (same_path p q) e in
    ap₂ (λ (x : Bool) (l : Path). x ∷ l) (beq_same a b s.0) (same_path_eq p q s.1)

pub same_path_refl : (p : Path) → same_path p p ≡ true
unfolding same_path
same_path_refl [] = refl
same_path_refl (a ∷ p) = and_both (beq a a) (same_path p p) (beq_self a) (same_path_refl p)

-- ---- a path against one that goes on

pub leads_cons : (b : Bool) (p q : Path) → leads (b ∷ p) (b ∷ q) ≡ leads p q
unfolding leads
leads_cons true p q = refl
leads_cons false p q = refl

pub leads_append : (q r : Path) → leads q (q ++ r) ≡ true
unfolding leads
leads_append [] r = refl
leads_append (a ∷ q) r = leads_cons a q (q ++ r) ∙ leads_append q r

-- a longer path does not lead
pub leads_longer : (q : Path) (b : Bool) (r : Path) → leads (q ++ b ∷ r) q ≡ false
unfolding leads
leads_longer [] b r = refl
leads_longer (a ∷ q) b r = leads_cons a (q ++ b ∷ r) q ∙ leads_longer q b r

-- the empty path is led by itself alone
pub leads_root : (p : Path) → leads p [] ≡ same_path p []
unfolding leads same_path
leads_root [] = refl
leads_root (a ∷ p) = refl

-- one bit more is led by what led before, and by itself
pub leads_snoc : (p q : Path) (b : Bool) → leads p (q ++ (b ∷ [])) ≡ (leads p q || same_path p (q ++ (b ∷ [])))
unfolding leads same_path
leads_snoc [] q b = refl
leads_snoc (a ∷ p) [] b = ap (λ t. beq a b && t) (leads_root p)
leads_snoc (a ∷ p) (c ∷ q) b = under (beq a c) (leads_snoc p q b)
  where
    under : (t : Bool) → leads p (q ++ (b ∷ [])) ≡ (leads p q || same_path p (q ++ (b ∷ [])))
        → (t && leads p (q ++ (b ∷ []))) ≡ ((t && leads p q) || (t && same_path p (q ++ (b ∷ []))))
    under true e = e
    under false e = refl

-- a path that does not go on from q by b leads what goes on from q by b exactly when it leads q
pub leads_stop : (q p : Path) (b : Bool) (r : Path) → leads (q ++ (b ∷ [])) p ≡ false → leads p q ≡ leads p (q ++ b ∷ r)
unfolding leads
leads_stop [] [] b r h = refl
leads_stop [] (true ∷ p) true r h = absurd (true≢false h)
leads_stop [] (true ∷ p) false r h = refl
leads_stop [] (false ∷ p) true r h = refl
leads_stop [] (false ∷ p) false r h = absurd (true≢false h)
leads_stop (a ∷ q) [] b r h = refl
leads_stop (true ∷ q) (true ∷ p) b r h = leads_stop q p b r h
leads_stop (true ∷ q) (false ∷ p) b r h = refl
leads_stop (false ∷ q) (true ∷ p) b r h = refl
leads_stop (false ∷ q) (false ∷ p) b r h = leads_stop q p b r h

-- ---- what two paths have in common

-- a leading part of the one leads the other exactly when it is no longer than what the two have in common
pub leads_common : (x p l : Path) → leads x p ≡ true → leads x l ≡ leb (length x) (common p l)
unfolding leads common
leads_common [] p l h = rw leb-zero
leads_common (a ∷ x) [] l h = absurd (false≢true h)
leads_common (a ∷ x) (b ∷ p) [] h = rw leb-suc-zero
leads_common (a ∷ x) (b ∷ p) (c ∷ l) h =
    let s = and_trues (beq a b) (leads x p) h in
    rw (beq_same a b s.0) (step (beq b c) (leads_common x p l s.1))
  where
    step : (t : Bool) → leads x l ≡ leb (length x) (common p l)
        → (t && leads x l) ≡ leb (suc (length x)) (elim t [ true ↦ suc (common p l) | false ↦ 0 ])
    step true e = e ∙ rw leb-suc-suc
    step false e = rw leb-suc-zero
