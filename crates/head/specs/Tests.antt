-- The tests of a message's rules, as they compute: HeadLaws' `..-exact` and `cell_said` (GoodLaws) say that each holds exactly where
-- its rule of `Good` does.
use Rattle.std.specs.Prelude.{ℕ, Bool, true, false, cond, ◌&&◌, ◌||◌, List, [], ◌∷◌, leb, eqb, length, Ok, Err}
use Rattle.decimal.specs.declared.FieldFault.TheVariants.{Malformed, OutOfRange}
use Rattle.layout.specs.Answers.{RowRead}
use Rattle.std.proofs.Math.Option.{Option, none, some}
use Rattle.forms.specs.declared.forms.Named.{Named}
use Rattle.forms.specs.declared.forms.Named.TheVariants as is
use Rattle.forms.specs.declared.forms.Subject.{Subject}
use Rattle.forms.specs.declared.forms.Subject.TheVariants.{Nothing, Of}
use Rattle.forms.specs.declared.forms.Sum.{Sum}
use Rattle.forms.specs.declared.forms.Sum.TheVariants.{Zero, Right, RightOrZero}
use Rattle.forms.specs.Sizes.{bare_length}
use Rattle.forms.specs.Forms.{subject_of}
use Rattle.head.specs.Fields.{data_at, letter_of, pre_open_letter, segment_letter_of, second_of, length_of, sum_sent, end_byte, sum_in, right_sum, zero_sum}

-- 01, the table's row 5: at least 8 bytes left, a length of at least 11 and not over what is left
unfoldable pub framed : List ℕ → Bool
framed bytes = leb data_at (length bytes) && leb bare_length (length_of bytes) && leb (length_of bytes) (length bytes)

-- a word of our own: there is a place
abbrev pub is_some : Option ℕ → Bool
is_some none = false
is_some (some place) = true

-- 01 "The message": the second byte is A to Z
abbrev pub is_capital : ℕ → Bool
is_capital second = leb 65 second && leb second 90

-- M-104: the P codes that 002 prints: PN, PO and PC
abbrev pub is_pre_open : ℕ → Bool
is_pre_open second = eqb second 78 || (eqb second 79 || eqb second 67)

-- 01, the table's row 6, M-104: a code of the segment
abbrev pub is_code : ℕ → ℕ → Bool
is_code letter second = cond (eqb letter pre_open_letter) (is_pre_open second) (is_capital second)

-- 01, the table's row 6, M-104: the first message's segment, which is listed, and a code of it
unfoldable pub coded : ℕ → Option ℕ → List ℕ → Bool
coded letter segment bytes =
    eqb (segment_letter_of bytes) letter && is_code (letter_of bytes) (second_of bytes) && is_some segment

-- 01, the table's row 7: the last byte is 13
unfoldable pub trailed : List ℕ → Bool
trailed bytes = eqb (end_byte bytes) 13

-- 01, the table's row 8: a table code with none of its lengths
abbrev pub takes_length : Named → Bool
takes_length (is.Form form) = true
takes_length is.NoLength = false
takes_length is.PassedOver = true

-- a word of our own: byte for byte the same
abbrev pub same_bytes : List ℕ → List ℕ → Bool
same_bytes [] [] = true
same_bytes [] (b ∷ bs) = false
same_bytes (a ∷ rest) [] = false
same_bytes (a ∷ rest) (b ∷ bs) = eqb a b && same_bytes rest bs

-- 01, the table's row 9: the sum is as its rule says
abbrev pub takes_sum : Sum → List ℕ → List ℕ → Bool
takes_sum Zero sent right = same_bytes sent zero_sum
takes_sum Right sent right = same_bytes sent right
takes_sum RightOrZero sent right = same_bytes sent zero_sum || same_bytes sent right

-- 01, the table's row 9: the sum that was sent, beside the right one
unfoldable pub summed : List ℕ → Bool
summed bytes = takes_sum (sum_in bytes) (sum_sent bytes) (right_sum bytes)

-- 01, the table's row 10: a message that tells of nothing, a heartbeat, has number 0, every other 1 or more
abbrev pub numbers_subject : Subject → ℕ → Bool
numbers_subject Nothing number = eqb number 0
numbers_subject (Of item level) number = leb 1 number

-- 01, the table's row 10: by what the message tells of; of what is passed over nothing is known
abbrev pub takes_number : Named → ℕ → Bool
takes_number (is.Form form) number = numbers_subject (subject_of form) number
takes_number is.NoLength number = leb 1 number
takes_number is.PassedOver number = leb 1 number

-- 01 "The message": a heartbeat tells of nothing
abbrev pub tells_nothing : Subject → Bool
tells_nothing Nothing = true
tells_nothing (Of item level) = false

-- 01 "The message": whether what is named is a heartbeat
abbrev pub is_heartbeat : Named → Bool
is_heartbeat (is.Form form) = tells_nothing (subject_of form)
is_heartbeat is.NoLength = false
is_heartbeat is.PassedOver = false

-- 01, the table's row 11: well formed
abbrev pub is_formed : RowRead → Bool
is_formed (Ok cell) = true
is_formed (Err Malformed) = false
is_formed (Err OutOfRange) = true

-- 01, the table's row 12: in range
abbrev pub is_in_range : RowRead → Bool
is_in_range (Ok cell) = true
is_in_range (Err Malformed) = true
is_in_range (Err OutOfRange) = false
