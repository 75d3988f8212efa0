-- The fields of a message: 01 "The message" and "The checksum". What stands past the end reads as zero.
use Rattle.std.specs.Prelude.{ℕ, ◌-◌, cond, List, [], ◌∷◌, eqb, take, drop}
use Rattle.wire.specs.Number.{number_at}
use Rattle.checksum.specs.Checksum.{checksum_of}
use Rattle.forms.specs.declared.forms.Named.{Named}
use Rattle.forms.specs.declared.forms.Session.{Session}
use Rattle.forms.specs.declared.forms.Session.TheVariants.{Normal, PreOpen}
use Rattle.forms.specs.declared.forms.Sum.{Sum}
use Rattle.forms.specs.Sizes.{bare_length}
use Rattle.forms.specs.Forms.{form_of, sum_rule}

-- 01 "The message": code (2), length (2) and sequence number (4) stand before the data
abbrev pub data_at : ℕ
data_at = 8

-- 01 "The message": the first byte of the code is the segment's letter
unfoldable pub letter_of : List ℕ → ℕ
letter_of bytes = number_at 1 bytes 0

-- M-104: "PN belongs to segment F": the codes of pre-open begin with P
abbrev pub pre_open_letter : ℕ
pre_open_letter = 0x50

-- M-104: the letter of the segment that codes with a letter count as: P counts as F
abbrev pub segment_letter : ℕ → ℕ
segment_letter letter = cond (eqb letter pre_open_letter) 0x46 letter

-- M-104: the letter of the segment that a message belongs to
unfoldable pub segment_letter_of : List ℕ → ℕ
segment_letter_of bytes = segment_letter (letter_of bytes)

-- M-104: the session in which a message was sent, by its code
unfoldable pub session_sent : List ℕ → Session
session_sent bytes = cond (eqb (letter_of bytes) pre_open_letter) PreOpen Normal

-- 01 "The message": the second byte of the code
unfoldable pub second_of : List ℕ → ℕ
second_of bytes = number_at 1 bytes 1

-- 01 "The message": length (2), which counts the whole message
unfoldable pub length_of : List ℕ → ℕ
length_of bytes = number_at 2 bytes 2

-- 01 "The message": sequence number (4)
unfoldable pub number_of : List ℕ → ℕ
number_of bytes = number_at 4 bytes 4

-- 01 "The message": the data, up to the trailer
unfoldable pub data_of : List ℕ → List ℕ
data_of bytes = take (length_of bytes - bare_length) (drop data_at bytes)

-- 01 "The message": checksum (2), before the end byte
unfoldable pub sum_sent : List ℕ → List ℕ
sum_sent bytes = number_at 1 bytes (length_of bytes - 3) ∷ number_at 1 bytes (length_of bytes - 2) ∷ []

-- 01 "The message": the last byte
unfoldable pub end_byte : List ℕ → ℕ
end_byte bytes = number_at 1 bytes (length_of bytes - 1)

-- 01 "The message": what the code and the length name in the table
unfoldable pub form_in : List ℕ → Named
form_in bytes = form_of (letter_of bytes) (second_of bytes) (length_of bytes)

-- 01 "The checksum": what the table says of the code's sum
unfoldable pub sum_in : List ℕ → Sum
sum_in bytes = sum_rule (letter_of bytes) (second_of bytes)

-- 01 "The checksum": by the routine, over all bytes before the trailer
unfoldable pub right_sum : List ℕ → List ℕ
right_sum bytes = checksum_of (take (length_of bytes - 3) bytes)

-- 01 "The checksum": heartbeats carry zero
abbrev pub zero_sum : List ℕ
zero_sum = 0 ∷ 0 ∷ []
