-- Laws of numbers as bytes: a number's bytes are some, one byte more, how large a number of few bytes can be, and that bytes fix their number.
-- Assumes nothing.
use mathlib.Core.Path.{◌≡◌, refl, sym, ap, ◌∙◌, subst}
use mathlib.Core.Logic.{⊎_elim}
use mathlib.Core.Bool.{not, ◌||◌, or-false, or_assoc}
use mathlib.Core.List.{List, [], ◌∷◌, ◌++◌}
use Prim.Native.Nat.{ℕ, zero, suc, ◌+◌, ◌*◌, ◌/◌, ◌%◌, ◌^◌, ◌≤◌, ◌<◌}
use native.Mathlib.Nat.{lt_of_lt_of_le, div-add-mod', div-lt_iff_lt-mul, mod-lt, pow-suc, one-le-pow, mul_assoc, mul_comm, mul_right_comm, add-mul, add_assoc, zero-lt-suc, zero-add}
use native.Mathlib.Numerals.{add-one}
use native.Mathlib.Omega.{arith}
use lib.Dec.{eqb, eqb-suc-zero}
use lib.ListN.{length, get_or, take, drop, length-take, length-drop, get_or-eq_default}
use lib.Seq.{take_all, take-suc, get_or-take, get_or-drop}
use lib.Pow.{pow-add, pow_mono}
use borrow.Author.Tests.{ne_eqb}
use Rattle.bits.specs.Tests.{any}
use Rattle.bits.specs.Number.{Bytes, number_from, number, number_at, bytes_of}
use Rattle.bits.proofs.TestLaws.{same_eqb, less}

-- ---- bytes

pub bytes_append : (l m : List ℕ) → Bytes l → Bytes m → Bytes (l ++ m)
bytes_append [] m b c k = c k
bytes_append (x ∷ l) m b c zero = b 0
bytes_append (x ∷ l) m b c (suc k) = bytes_append l m (λ j. b (suc j)) c k

-- a part of a list of bytes is one
pub part_bytes : (l : List ℕ) → Bytes l → (n from : ℕ) → Bytes (take n (drop from l))
part_bytes l each n from k =
    let rest = drop from l in
    ⊎_elim
    (λ (h : k < n). rw (get_or-take n rest k 0 h, get_or-drop from l k 0) (each (from + k)))
    (λ (h : n ≤ k). rw (get_or-eq_default (take n rest) 0 {n = k} (omega (arith, length-take n rest))) (omega arith))
    (less k n)

-- the bytes of a number that fits them
pub bytes_small : (size v : ℕ) → v < 256 ^ size → Bytes (bytes_of size v)
unfolding bytes_of
bytes_small zero v h k = omega arith
bytes_small (suc size) v h zero =
    (div-lt_iff_lt-mul (one-le-pow size 256 (zero-lt-suc 255))).1 (subst (λ (x : ℕ). v < x) (pow-suc 256 size ∙ mul_comm (256 ^ size) 256) h)
bytes_small (suc size) v h (suc k) = bytes_small size (v % 256 ^ size) (mod-lt v (one-le-pow size 256 (zero-lt-suc 255))) k

-- ---- one byte more

from_snoc : (n : ℕ) (bs : List ℕ) (b : ℕ) → number_from n (bs ++ (b ∷ [])) ≡ number_from n bs * 256 + b
unfolding number_from
from_snoc n [] b = refl
from_snoc n (c ∷ bs) b = from_snoc (n * 256 + c) bs b

pub number_none : (bytes : List ℕ) (at : ℕ) → number_at bytes at 0 ≡ 0
unfolding number_at number number_from
number_none bytes at = refl

-- all bytes of a list
pub number_whole : (bytes : List ℕ) (n : ℕ) → length bytes ≤ n → number_at bytes 0 n ≡ number bytes
unfolding number_at
number_whole bytes n h = ap number (take_all n bytes h)

pub number_more : (bytes : List ℕ) (at i : ℕ) → at + i < length bytes → number_at bytes at i * 256 + get_or bytes (at + i) 0 ≡ number_at bytes at (i + 1)
unfolding number_at number
number_more bytes at i h =
    let inside : i < length (drop at bytes) = omega (arith, length-drop at bytes) in
    rw (add-one i, take-suc (drop at bytes) i 0 inside, get_or-drop at bytes i 0) (sym (from_snoc 0 (take i (drop at bytes)) (get_or bytes (at + i) 0)))

-- the same of the first bytes of a list
pub number_next : (bytes : List ℕ) (i : ℕ) → i < length bytes → number_at bytes 0 i * 256 + get_or bytes i 0 ≡ number_at bytes 0 (i + 1)
number_next bytes i h =
    let e : 0 + i ≡ i = omega arith in
    ap (λ k. number_at bytes 0 i * 256 + get_or bytes k 0) (sym e) ∙ number_more bytes 0 i (rw e h)

-- ---- how large

-- a byte is 8 bits
pub byte_bits : (n : ℕ) → 256 ^ n ≡ 2 ^ (8 * n)
byte_bits zero = refl
byte_bits (suc n) =
    let e : 8 * suc n ≡ 8 * n + 8 = omega arith in
    pow-suc 256 n ∙ ap (λ (x : ℕ). x * 256) (byte_bits n) ∙ sym (pow-add 2 (8 * n) 8) ∙ ap (λ (k : ℕ). 2 ^ k) (sym e)

pub byte_more : (n b i : ℕ) → n < 2 ^ (8 * i) → b < 256 → n * 256 + b < 2 ^ (8 * (i + 1))
byte_more n b i hn hb =
    let e : 8 * (i + 1) ≡ 8 * i + 8 = omega arith in
    rw e (omega (arith, pow-add 2 (8 * i) 8))

pub byte_room : (n i : ℕ) → n < 2 ^ (8 * i) → i < 4 → n < 2 ^ 24
byte_room n i hn hi = lt_of_lt_of_le hn (pow_mono {j = 24} (omega arith))

-- a number of bytes that are there
pub number_small : (bytes : List ℕ) → Bytes bytes → (at size : ℕ) → at + size ≤ length bytes → number_at bytes at size < 2 ^ (8 * size)
number_small bytes b at zero h = rw (number_none bytes at) (omega arith)
number_small bytes b at (suc size) h =
    let more = number_more bytes at size (omega arith) in
    rw (← add-one size, ← more) (byte_more (number_at bytes at size) (get_or bytes (at + size) 0) size (number_small bytes b at size (omega arith)) (b (at + size)))

-- ---- bytes fix their number

digits_join : (n q p r : ℕ) → (n * 256 + q) * p + r ≡ n * (p * 256) + (q * p + r)
digits_join n q p r =
    ap (λ (x : ℕ). x + r) (add-mul (n * 256) q p ∙ ap (λ (x : ℕ). x + q * p) (mul_right_comm n 256 p ∙ mul_assoc n p 256))
    ∙ add_assoc (n * (p * 256)) (q * p) r

-- the bytes of a number after n, where the number fits them
from_bytes : (size n v : ℕ) → v < 256 ^ size → number_from n (bytes_of size v) ≡ n * 256 ^ size + v
unfolding number_from bytes_of
from_bytes zero n v h = omega arith
from_bytes (suc size) n v h =
    let p = 256 ^ size in
    let r = v % p in
    let rest : number_from (n * 256 + v / p) (bytes_of size r) ≡ (n * 256 + v / p) * p + r =
    from_bytes size (n * 256 + v / p) r (mod-lt v (one-le-pow size 256 (zero-lt-suc 255)))
    in
    rest ∙ digits_join n (v / p) p r ∙ ap (λ (x : ℕ). n * (p * 256) + x) (div-add-mod' v p) ∙ ap (λ (x : ℕ). n * x + v) (sym (pow-suc 256 size))

-- the first byte takes whatever does not fit the others, so nothing is lost
pub number_bytes : (size v : ℕ) → number (bytes_of (suc size) v) ≡ v
unfolding number bytes_of number_from
number_bytes size v =
    let p = 256 ^ size in
    from_bytes size (0 * 256 + v / p) (v % p) (mod-lt v (one-le-pow size 256 (zero-lt-suc 255)))
    ∙ ap (λ (q : ℕ). q * p + v % p) (zero-add (v / p))
    ∙ div-add-mod' v p

-- ---- a number is zero exactly when its bytes are

from_nonzero : (n : ℕ) (bs : List ℕ) → not (eqb (number_from n bs) 0) ≡ (not (eqb n 0) || any (λ b. not (eqb b 0)) bs)
unfolding number_from any
from_nonzero n [] = sym (or-false (not (eqb n 0)))
from_nonzero n (b ∷ bs) =
    from_nonzero (n * 256 + b) bs
    ∙ ap (λ t. t || any (λ x. not (eqb x 0)) bs) (digit n)
    ∙ or_assoc (not (eqb n 0)) (not (eqb b 0)) (any (λ x. not (eqb x 0)) bs)
  where
    digit : (m : ℕ) → not (eqb (m * 256 + b) 0) ≡ (not (eqb m 0) || not (eqb b 0))
    digit zero = ap not (same_eqb (0 * 256 + b) 0 b 0 (λ e. omega arith) (λ e. omega arith))
    digit (suc m) = ap not (ne_eqb (suc m * 256 + b) 0 (λ e. omega arith)) ∙ sym (ap (λ t. not t || not (eqb b 0)) (eqb-suc-zero m))

pub number_nonzero : (bs : List ℕ) → not (eqb (number bs) 0) ≡ any (λ b. not (eqb b 0)) bs
unfolding number
number_nonzero bs = from_nonzero 0 bs
