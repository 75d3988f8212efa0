-- 01 "The checksum".
use Rattle.std.specs.Prelude.{ℕ, ◌-◌, ◌/◌, ◌%◌, List, [], ◌∷◌, cond, ◌||◌, eqb}
use Rattle.accumulator.specs.Accumulator.{byte_step}

-- 01 "The checksum": the accumulator after these bytes
abbrev pub sum_from : ℕ → List ℕ → ℕ
sum_from acc [] = acc
sum_from acc (b ∷ bs) = sum_from (byte_step acc b) bs

-- 01 "The checksum": the accumulator starts at 0
abbrev pub sum_of : List ℕ → ℕ
sum_of text = sum_from 0 text

-- 01 "The checksum": lowered by one if it is 10, 13, 17 or 19
abbrev pub lowered : ℕ → ℕ
lowered byte = cond (eqb byte 10 || eqb byte 13 || eqb byte 17 || eqb byte 19) (byte - 1) byte

-- 01 "The checksum": the low byte is sent first, each byte lowered
abbrev pub sent_of : ℕ → List ℕ
sent_of sum = lowered (sum % 256) ∷ lowered (sum / 256) ∷ []

-- 01 "The checksum": the two bytes of a text's checksum as sent
abbrev pub checksum_of : List ℕ → List ℕ
checksum_of text = sent_of (sum_of text)
