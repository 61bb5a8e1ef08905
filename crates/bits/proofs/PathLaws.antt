-- Laws of paths, over any width: a prefix leads a value exactly when both have the same number above the bits after it,
-- a stray bit is a remainder that is not zero, leading goes on through a third path, and a prefix leads another when it is no longer and leads its value.
-- Assumes nothing.
use mathlib.Core.Path.{◌≡◌, refl, sym, ap, ap₂, ◌∙◌}
use mathlib.Core.Bool.{Bool, true, false, not, ◌&&◌, ◌||◌, beq, and-false, false≢true}
use mathlib.Core.List.{[], ◌∷◌}
use Prim.Native.Nat.{ℕ, zero, suc, ◌+◌, ◌-◌, ◌*◌, ◌/◌, ◌%◌, ◌^◌, ◌≤◌, ◌<◌}
use native.Mathlib.Nat.{le_of_suc-le-suc, add_comm, suc-add, zero-add, mod-one, mod-lt, zero-lt-suc}
use native.Mathlib.Omega.{arith}
use lib.Dec.{leb, eqb, leb-zero, leb-suc-zero, leb-suc-suc}
use lib.ListN.{length, get_or, take, drop, length-take}
use lib.Seq.{get_or-take}
use lib.Pow.{pow_pos, shr-shr, mod-pow-add, shr_mod}
use borrow.Author.Tests.{eq-eqb, ne_eqb}
use Rattle.bits.specs.Tests.{any}
use Rattle.bits.specs.Path.{Path, bits, prefix, leads, stray, bit_of}
use Rattle.bits.proofs.TestLaws.{same_eqb, and_trues, and_both, on_bits}

-- ---- a prefix leads a value

-- numbers of two digits, the upper a bit and the lower below e
two_digits : (e a b s t : ℕ) → a < 2 → b < 2 → s < e → t < e → (beq (eqb a 1) (eqb b 1) && eqb s t) ≡ eqb (a * e + s) (b * e + t)
two_digits e a b s t ha hb hs ht =
    on_bits (λ (a b : ℕ). (beq (eqb a 1) (eqb b 1) && eqb s t) ≡ eqb (a * e + s) (b * e + t))
    (same_eqb s t (0 * e + s) (0 * e + t) (λ q. omega arith) (λ q. omega arith))
    (sym (ne_eqb (0 * e + s) (1 * e + t) (λ q. omega arith)))
    (sym (ne_eqb (1 * e + s) (0 * e + t) (λ q. omega arith)))
    (same_eqb s t (1 * e + s) (1 * e + t) (λ q. omega arith) (λ q. omega arith))
    a b ha hb

-- a number of k + 1 bits: the top one, and the rest
pub top_digit : (v k : ℕ) → v % 2 ^ suc k ≡ (v / 2 ^ k % 2) * 2 ^ k + v % 2 ^ k
top_digit v k = ap (λ (n : ℕ). v % 2 ^ n) (omega arith) ∙ mod-pow-add v 1 k

-- of the l + 1 bits above the k lowest: the top one, and the rest
top_bits : (v l k : ℕ) → v / 2 ^ k % 2 ^ suc l ≡ (v / 2 ^ (l + k) % 2) * 2 ^ l + v / 2 ^ k % 2 ^ l
top_bits v l k =
    top_digit (v / 2 ^ k) l
    ∙ ap (λ (x : ℕ). (x % 2) * 2 ^ l + v / 2 ^ k % 2 ^ l) (shr-shr v k l ∙ ap (λ (x : ℕ). v / 2 ^ x) (add_comm k l))

leads_top : (l k v x : ℕ) → leads (prefix (l + k) v l) (bits (l + k) x) ≡ eqb (v / 2 ^ k % 2 ^ l) (x / 2 ^ k % 2 ^ l)
unfolding bits prefix leads
leads_top zero k v x = sym (eq-eqb (v / 2 ^ k % 1) (x / 2 ^ k % 1) (mod-one (v / 2 ^ k) ∙ sym (mod-one (x / 2 ^ k))))
leads_top (suc l) k v x =
    ap (λ (w : ℕ). leads (take (suc l) (bits w v)) (bits w x)) (suc-add l k)
    ∙ ap (λ t. beq (eqb (v / 2 ^ (l + k) % 2) 1) (eqb (x / 2 ^ (l + k) % 2) 1) && t) (leads_top l k v x)
    ∙ two_digits (2 ^ l) (v / 2 ^ (l + k) % 2) (x / 2 ^ (l + k) % 2) (v / 2 ^ k % 2 ^ l) (x / 2 ^ k % 2 ^ l)
    (mod-lt (v / 2 ^ (l + k)) (zero-lt-suc 1)) (mod-lt (x / 2 ^ (l + k)) (zero-lt-suc 1)) (mod-lt (v / 2 ^ k) (pow_pos l)) (mod-lt (x / 2 ^ k) (pow_pos l))
    ∙ sym (ap₂ eqb (top_bits v l k) (top_bits x l k))

pub leads_number : (w l v x : ℕ) → l ≤ w → v < 2 ^ w → x < 2 ^ w → leads (prefix w v l) (bits w x) ≡ eqb (v / 2 ^ (w - l)) (x / 2 ^ (w - l))
leads_number w l v x h hv hx =
    let k = w - l in
    let e : l + (w - l) ≡ w = omega arith in
    ap (λ (n : ℕ). leads (prefix n v l) (bits n x)) (sym e) ∙ leads_top l k v x ∙ ap₂ eqb (shr_mod l k (rw e hv)) (shr_mod l k (rw e hx))

-- ---- bits after a prefix

bits_after : (l k v : ℕ) → drop l (bits (l + k) v) ≡ bits k v
unfolding bits
bits_after zero k v = ap (λ (n : ℕ). bits n v) (zero-add k)
bits_after (suc l) k v = ap (λ (n : ℕ). drop (suc l) (bits n v)) (suc-add l k) ∙ bits_after l k v

some_digit : (e d r : ℕ) → 0 < e → d < 2 → (eqb d 1 || not (eqb r 0)) ≡ not (eqb (d * e + r) 0)
some_digit e zero r he hd = ap not (same_eqb r 0 (0 * e + r) 0 (λ q. omega arith) (λ q. omega arith))
some_digit e (suc zero) r he hd = ap not (sym (ne_eqb (1 * e + r) 0 (λ q. omega arith)))
some_digit e (suc (suc d)) r he hd = absurd (omega arith)

some_bit : (k v : ℕ) → any (λ b. b) (bits k v) ≡ not (eqb (v % 2 ^ k) 0)
unfolding any bits
some_bit zero v = ap not (sym (eq-eqb (v % 1) 0 (mod-one v)))
some_bit (suc k) v =
    ap (λ t. eqb (v / 2 ^ k % 2) 1 || t) (some_bit k v)
    ∙ some_digit (2 ^ k) (v / 2 ^ k % 2) (v % 2 ^ k) (pow_pos k) (mod-lt (v / 2 ^ k) (zero-lt-suc 1))
    ∙ ap (λ (n : ℕ). not (eqb n 0)) (sym (top_digit v k))

pub stray_number : (w v l : ℕ) → l ≤ w → stray w v l ≡ not (eqb (v % 2 ^ (w - l)) 0)
unfolding stray
stray_number w v l h =
    let e : l + (w - l) ≡ w = omega arith in
    ap (λ (n : ℕ). any (λ b. b) (drop l (bits n v))) (sym e) ∙ ap (any (λ b. b)) (bits_after l (w - l) v) ∙ some_bit (w - l) v

-- ---- paths that lead each other

pub beq_same : (a b : Bool) → beq a b ≡ true → a ≡ b
beq_same true true e = refl
beq_same true false e = absurd (false≢true e)
beq_same false true e = absurd (false≢true e)
beq_same false false e = refl

pub beq_self : (a : Bool) → beq a a ≡ true
beq_self true = refl
beq_self false = refl

-- what leads a leading part leads the whole
pub leads_trans : (p q r : Path) → leads p q ≡ true → leads q r ≡ true → leads p r ≡ true
unfolding leads
leads_trans [] q r e f = refl
leads_trans (a ∷ p) [] r e f = absurd (false≢true e)
leads_trans (a ∷ p) (b ∷ q) [] e f = absurd (false≢true f)
leads_trans (a ∷ p) (b ∷ q) (c ∷ r) e f =
    let x = and_trues (beq a b) (leads p q) e in
    let y = and_trues (beq b c) (leads q r) f in
    rw (beq_same a b x.0) (and_both (beq b c) (leads p r) y.0 (leads_trans p q r x.1 y.1))

-- of two leading parts of one path, one leads the other
pub leads_either : (p q r : Path) → leads p r ≡ true → leads q r ≡ true → (leads p q || leads q p) ≡ true
unfolding leads
leads_either [] q r e f = refl
leads_either (a ∷ p) [] r e f = refl
leads_either (a ∷ p) (b ∷ q) [] e f = absurd (false≢true e)
leads_either (a ∷ p) (b ∷ q) (c ∷ r) e f =
    let x = and_trues (beq a c) (leads p r) e in
    let y = and_trues (beq b c) (leads q r) f in
    rw (beq_same a c x.0, beq_same b c y.0, beq_self c) (leads_either p q r x.1 y.1)

and_between : (a b c : Bool) → (a && (b && c)) ≡ (b && (a && c))
and_between true b c = refl
and_between false b c = sym (and-false b)

-- a prefix leads another exactly when it is no longer and leads the other's value
pub leads_prefix : (w v l x m : ℕ) → l ≤ w → leads (prefix w v l) (prefix w x m) ≡ (leb l m && leads (prefix w v l) (bits w x))
unfolding leads prefix bits
leads_prefix w v zero x m h = rw leb-zero
leads_prefix zero v (suc l) x m h = absurd (omega arith)
leads_prefix (suc w) v (suc l) x zero h = rw leb-suc-zero
leads_prefix (suc w) v (suc l) x (suc m) h =
    let same = beq (eqb (v / 2 ^ w % 2) 1) (eqb (x / 2 ^ w % 2) 1) in
    ap (λ t. same && t) (leads_prefix w v l x m (le_of_suc-le-suc h))
    ∙ and_between same (leb l m) (leads (take l (bits w v)) (bits w x))
    ∙ rw leb-suc-suc

-- ---- a prefix bit by bit

bits_at : (w v j : ℕ) → j < w → get_or (bits w v) j false ≡ eqb (bit_of w v j) 1
unfolding bits
bits_at zero v j h = absurd (omega arith)
bits_at (suc w) v zero h = ap (λ (n : ℕ). eqb (v / 2 ^ n % 2) 1) (omega arith)
bits_at (suc w) v (suc j) h = bits_at w v j (omega arith) ∙ ap (λ (n : ℕ). eqb (v / 2 ^ n % 2) 1) (omega arith)

pub length_bits : (w v : ℕ) → length (bits w v) ≡ w
unfolding bits
length_bits zero v = refl
length_bits (suc w) v = ap suc (length_bits w v)

pub length_prefix : (w v l : ℕ) → l ≤ w → length (prefix w v l) ≡ l
unfolding prefix
length_prefix w v l h = length-take l (bits w v) ∙ omega (arith, length_bits w v)

pub prefix_at : (w v l j : ℕ) → j < l → l ≤ w → get_or (prefix w v l) j false ≡ eqb (bit_of w v j) 1
unfolding prefix
prefix_at w v l j h k = get_or-take l (bits w v) j false h ∙ bits_at w v j (omega arith)
