-- The bytes of a key, in a list and as written: 01 "The contract list", and the table's row 11.
use Rattle.std.specs.Prelude.{ℕ, Bool, ◌&&◌, List, leb}
use Rattle.std.specs.List.{list_all}

-- 01 "The contract list": a key's bytes are 32 to 126
abbrev pub lowest_byte : ℕ
lowest_byte = 32

-- 01 "The contract list": a key's bytes are 32 to 126
abbrev pub highest_byte : ℕ
highest_byte = 126

-- 01 "The contract list", and the table's row 11: a byte of a key is 32 to 126
abbrev pub printable : ℕ → Bool
printable byte = leb lowest_byte byte && leb byte highest_byte

-- 01 "The contract list", and the table's row 11: no byte of a key is outside 32 to 126
abbrev pub all_printable : List ℕ → Bool
all_printable = list_all printable
