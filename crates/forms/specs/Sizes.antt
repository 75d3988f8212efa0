-- The sizes that follow from the forms: FormsLaws' `sizes` computes each from them.
use Rattle.std.specs.Prelude.{ℕ}

-- 01 "The message", M-104: the most rows of a form
abbrev pub most_rows : ℕ
most_rows = 38

-- 01 "The message": the longest data of a form
abbrev pub most_data : ℕ
most_data = 494

-- 01 "The message": the rows of a contract key
abbrev pub key_row_count : ℕ
key_row_count = 5

-- 01 "The message": the bytes of a contract key
abbrev pub key_bytes : ℕ
key_bytes = 39

-- M-100: the rows of a pair's key
abbrev pub pair_row_count : ℕ
pair_row_count = 10

-- M-100: the bytes of a pair's key: two contract keys
abbrev pub pair_bytes : ℕ
pair_bytes = 78

-- 01 "The message": what a message has beside its data: code (2), length (2), sequence number (4), checksum (2), end byte
abbrev pub bare_length : ℕ
bare_length = 11
