-- The masks (01: "The masks for lengths 0 to 32 are a fixed table of 33 numbers").
-- Assumes nothing.
use Rattle.std.specs.Prelude.{ℕ, ◌-◌, ◌^◌}

-- of 32 bits the first `length` are set and the others are zero
abbrev pub mask_of : ℕ → ℕ
mask_of length = 2 ^ 32 - 2 ^ (32 - length)
