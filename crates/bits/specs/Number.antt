-- Numbers as bytes, the highest byte first (01: "Numbers are big-endian").
-- Assumes nothing.
use Rattle.std.specs.Prelude.{List, [], ◌∷◌, ℕ, zero, suc, ◌+◌, ◌*◌, ◌/◌, ◌%◌, ◌^◌, ◌<◌, get_or, take, drop}

-- a list of bytes
abbrev pub Bytes : List ℕ → Type 0
Bytes l = (k : ℕ) → get_or l k 0 < 256

-- n, with the bytes after it as its lower digits
unfoldable pub number_from : ℕ → List ℕ → ℕ
number_from n [] = n
number_from n (b ∷ bs) = number_from (n * 256 + b) bs

-- the number that bytes say
unfoldable pub number : List ℕ → ℕ
number bs = number_from 0 bs

-- the number of the `size` bytes that start at `at`
unfoldable pub number_at : List ℕ → ℕ → ℕ → ℕ
number_at bytes at size = number (take size (drop at bytes))

-- a number written as `size` bytes
unfoldable pub bytes_of : ℕ → ℕ → List ℕ
bytes_of zero v = []
bytes_of (suc size) v = v / 256 ^ size ∷ bytes_of size (v % 256 ^ size)
