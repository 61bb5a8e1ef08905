-- Vectors of words: each word is a chunk of the tests, and with one place set they are the same but for one bit; and the one law of one
-- level of aggregation.
-- Assumes nothing.
use mathlib.Core.Path.{◌≡◌, refl, sym, ap, ap₂, ◌∙◌}
use mathlib.Core.Logic.{◌⊎◌, inl, inr}
use mathlib.Core.Bool.{Bool, true, false}
use mathlib.Core.List.{List, ◌∷◌, map}
use Prim.Native.Nat.{ℕ, zero, suc, ◌+◌, ◌-◌, ◌*◌, ◌/◌, ◌%◌, ◌^◌, ◌≤◌, ◌<◌}
use native.Mathlib.Nat.{zero-mul, suc-mul, add_comm, add-sub_of_le, add-div_left, add-mod_left, div-eq_of_lt, mod-eq_of_lt, le_of_suc-le-suc}
use native.Mathlib.Numerals.{add-one}
use native.Mathlib.Omega.{arith}
use lib.Bits.{bit_or}
use lib.ListN.{length, get_or, take, drop, set, length-take, length-drop, get_or-map}
use lib.Pow.{pow_pos, pow_mono}
use lib.Seq.{drop-drop, get_or-take, get_or-drop, take-set-lt, drop-set-lt, take-set-le, drop-set-add}
use Rattle.bits.specs.Word.{word_of, pack, bit, nonzero, aggregate}
use Rattle.bits.proofs.TestLaws.{less}
use Rattle.bits.proofs.WordLaws.{word_small, bit_word}
use Rattle.bits.proofs.WordSetLaws.{word_set}

-- ---- packed words

-- a word is a chunk of the tests
pub pack_at : (size n : ℕ) (h : List Bool) (b : ℕ) → b < n → get_or (pack size n h) b 0 ≡ word_of (take size (drop (b * size) h))
unfolding pack
pack_at size zero h b l = absurd (omega arith)
pack_at size (suc n) h zero l = ap (λ (x : ℕ). word_of (take size (drop x h))) (sym (zero-mul size))
pack_at size (suc n) h (suc b) l =
    pack_at size n (drop size h) b (le_of_suc-le-suc l)
    ∙ ap (λ (x : List Bool). word_of (take size x)) (drop-drop (b * size) size h)
    ∙ ap (λ (x : ℕ). word_of (take size (drop x h))) (add_comm size (b * size) ∙ sym (suc-mul b size))

pub length_pack : (size n : ℕ) (h : List Bool) → length (pack size n h) ≡ n
unfolding pack
length_pack size zero h = refl
length_pack size (suc n) h = ap suc (length_pack size n (drop size h))

chunk_small : (size : ℕ) (l : List Bool) → word_of (take size l) < 2 ^ size
chunk_small size l = omega (arith, word_small (take size l), pow_mono {i = length (take size l)} {j = size} (omega (arith, length-take size l)))

-- each word fits its places
pub pack_small : (size n : ℕ) (h : List Bool) (b : ℕ) → get_or (pack size n h) b 0 < 2 ^ size
unfolding pack
pack_small size zero h b = pow_pos size
pack_small size (suc n) h zero = chunk_small size h
pack_small size (suc n) h (suc b) = pack_small size n (drop size h) b

-- ---- one place is set

-- place i of the tests is bit 2^(i mod size) of word i / size
pub pack_set : (size : ℕ) → 0 < size → (n : ℕ) (l : List Bool) (i : ℕ) → i < length l → i < n * size
    → pack size n (set l i true) ≡ set (pack size n l) (i / size) (bit_or (get_or (pack size n l) (i / size) 0) (2 ^ (i % size)))
unfolding pack
pack_set size pos zero l i h s = absurd (omega arith)
pack_set size pos (suc n) l i h s = go (less i size) (pack_set size pos n)
  where
    Set : ℕ → (m : List Bool) → ℕ → ℕ → ℕ → Type 0
    Set n m i w b = pack size n (set m i true) ≡ set (pack size n m) w (bit_or (get_or (pack size n m) w 0) (2 ^ b))

    go : (i < size) ⊎ (size ≤ i) → ((m : List Bool) (j : ℕ) → j < length m → j < n * size → Set n m j (j / size) (j % size))
        → Set (suc n) l i (i / size) (i % size)
    go (inl small) ih =
        let inside : i < length (take size l) = omega (arith, length-take size l) in
        ap₂ (λ (x : ℕ) (m : List ℕ). x ∷ m)
        (ap word_of (take-set-lt size l i true small) ∙ word_set (take size l) i inside)
        (ap (pack size n) (drop-set-lt size l i true small))
        ∙ ap₂ (λ w b. set (pack size (suc n) l) w (bit_or (get_or (pack size (suc n) l) w 0) (2 ^ b))) (sym (div-eq_of_lt small)) (sym (mod-eq_of_lt small))
    go (inr big) ih =
        let j : ℕ = i - size in
        let sum : size + (i - size) ≡ i = add-sub_of_le big in
        let inside : j < length (drop size l) = omega (arith, length-drop size l) in
        let below : j < n * size = omega (arith, suc-mul n size) in
        ap₂ (λ (x : ℕ) (m : List ℕ). x ∷ m)
        (ap word_of (take-set-le size l i true big))
        (ap (λ (x : ℕ). pack size n (drop size (set l x true))) (sym sum) ∙ ap (pack size n) (drop-set-add size l j true) ∙ ih (drop size l) j inside below)
        ∙ ap₂ (λ w b. set (pack size (suc n) l) w (bit_or (get_or (pack size (suc n) l) w 0) (2 ^ b)))
        (sym (ap (λ (x : ℕ). x / size) (sym sum) ∙ add-div_left j pos ∙ add-one (j / size)))
        (sym (ap (λ (x : ℕ). x % size) (sym sum) ∙ add-mod_left size j))

-- ---- one level of aggregation: bit j of word b tells whether word b * size + j is not zero

pub aggregate_bit : (size n : ℕ) (ws : List ℕ) (b j : ℕ) → b < n → j < size
    → bit (get_or (aggregate size n ws) b 0) j ≡ nonzero (get_or ws (b * size + j) 0)
unfolding aggregate
aggregate_bit size n ws b j hb hj =
    ap (λ (x : ℕ). bit x j) (pack_at size n (map nonzero ws) b hb)
    ∙ bit_word (take size (drop (b * size) (map nonzero ws))) j
    ∙ get_or-take size (drop (b * size) (map nonzero ws)) j false hj
    ∙ get_or-drop (b * size) (map nonzero ws) j false
    ∙ get_or-map nonzero ws (b * size + j) 0

pub length_aggregate : (size n : ℕ) (ws : List ℕ) → length (aggregate size n ws) ≡ n
unfolding aggregate
length_aggregate size n ws = length_pack size n (map nonzero ws)

pub aggregate_small : (size n : ℕ) (ws : List ℕ) (b : ℕ) → get_or (aggregate size n ws) b 0 < 2 ^ size
unfolding aggregate
aggregate_small size n ws b = pack_small size n (map nonzero ws) b
