-- 01 "The checksum": the accumulator, and what a bit, a byte and a word of the data make of it.
use Rattle.std.specs.Prelude.{ℕ, zero, suc, ◌+◌, ◌/◌, ◌%◌, ◌^◌, cond, List, [], ◌∷◌, ◌==◌, bit_xor}

-- 01 "The checksum": 0x1021
abbrev pub poly : ℕ
poly = 0x1021

-- 01 "The checksum": doubled in sixteen bits, the bit that leaves being dropped, and 0x1021 exclusive-ored in when that
-- bit differs from the data bit
unfoldable pub bit_step : ℕ → ℕ → ℕ
bit_step acc bit =
    let doubled : ℕ = (acc + acc) % 2 ^ 16 in
    cond (acc / 2 ^ 15 == bit) doubled (bit_xor doubled poly)

-- 01 "The checksum": the lowest k bits of a number, the highest of them first
abbrev pub bits : ℕ → ℕ → List ℕ
bits zero n = []
bits (suc k) n = n / 2 ^ k % 2 ∷ bits k n

-- 01 "The checksum": the accumulator after each of these bits in turn
abbrev pub bit_steps : ℕ → List ℕ → ℕ
bit_steps acc [] = acc
bit_steps acc (b ∷ bs) = bit_steps (bit_step acc b) bs

-- 01 "The checksum": for each bit of the data, highest first
unfoldable pub byte_step : ℕ → ℕ → ℕ
byte_step acc byte = bit_steps acc (bits 8 byte)
