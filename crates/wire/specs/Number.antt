-- 01 "Where the rules come from": numbers are big endian.
use Rattle.std.specs.Prelude.{ℕ, zero, suc, ◌+◌, ◌*◌, ◌/◌, ◌%◌, ◌^◌, List, [], ◌∷◌, get_or}

-- 01 "Where the rules come from": the number of so many bytes at a place: each counts 256 for every byte behind it. What stands
-- past the end counts as zero
abbrev pub number_at : ℕ → List ℕ → ℕ → ℕ
number_at zero s at = 0
number_at (suc width) s at = get_or s at 0 * 256 ^ width + number_at width s (at + 1)

-- 01 "Where the rules come from": the bytes of a number at so many bytes
abbrev pub bytes_of : ℕ → ℕ → List ℕ
bytes_of zero n = []
bytes_of (suc width) n = n / 256 ^ width % 256 ∷ bytes_of width n
