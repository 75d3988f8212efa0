-- Writing a message from the values of its rows: 01 "The message", "The checksum", "Numbers in text", and the writer's order of
-- checks.
use Rattle.std.specs.Prelude.{ℕ, ◌+◌, ◌≤◌, ◌≡◌, true, false, List, [], ◌∷◌, ◌++◌, leb, length, drop, Option, Some, None, Result, Ok, Err}
use Rattle.layout.specs.declared.read.BadRow.TheVariants as bad_row
use Rattle.layout.specs.Answers.{Verdict}
use Rattle.laws.specs.Rules.{first_broken}
use Rattle.wire.specs.Number.{bytes_of}
use Rattle.checksum.specs.Checksum.{checksum_of}
use Rattle.forms.specs.declared.rows.Row.{Row}
use Rattle.forms.specs.declared.forms.Form.{Form}
use Rattle.forms.specs.declared.forms.Sum.{Sum}
use Rattle.forms.specs.declared.forms.Sum.TheVariants.{Zero, Right, RightOrZero}
use Rattle.forms.specs.Forms.{rows_of, sum_rule}
use Rattle.forms.specs.Rows.{message_length}
use Rattle.forms.specs.Sizes.{bare_length}
use Rattle.compose.specs.Write.{Laid, write_rows, over_front, where_good}
use Rattle.head.specs.Fields.{zero_sum}
use Rattle.state.specs.declared.refusal.Refusal.{Refusal}
use Rattle.state.specs.declared.refusal.Refusal.TheVariants.{Code as CodeOver, Numbering, Field, Range, Memory}
use Rattle.writer.specs.declared.writing.Code.{Code}
use Rattle.state.specs.Answers.{written_numbers, answered, left_by, checked_numbers, checked_by}
use Rattle.state.specs.Refusals.{Rule}
use Rattle.writer.specs.Chosen.{in_table, numbered}

-- ---- the checks

-- 01, the writer's order of checks: "code not in the table (6), 10"; "its message number is 0, as for every call without a
-- batch"
abbrev pub code_rules : Option Form → ℕ → List Rule
code_rules form number =
    record { holds = in_table form; refusal = CodeOver 0 }
    ∷ record { holds = numbered form number; refusal = Numbering 0 }
    ∷ []

-- 01 "The message": the rows that are written; a heartbeat has none, so that its quote isn't looked at
abbrev pub rows_written : Option Form → List Row
rows_written (Some form) = rows_of form
rows_written None = []

-- 01 "The message": the values that they are written from, by what a quote's values are in each form
abbrev pub values_written : Option Form → (Form → List ℕ) → List ℕ
values_written (Some form) values = values form
values_written None values = []

-- 01 "The message": the data, and the verdict on its rows
unfoldable pub data_written : Option Form → List ℕ → List ℕ → Laid
data_written form key values = write_rows 0 (rows_written form) key values

-- 01, the writer's order of checks: "then 11 and 12 by row": the first bad row's
abbrev pub rows_rules : Verdict → List Rule
rows_rules (Ok good) = []
rows_rules (Err (bad_row.Field row)) = record { holds = false; refusal = Field 0 row } ∷ []
rows_rules (Err (bad_row.Range row)) = record { holds = false; refusal = Range 0 row } ∷ []

-- 01, the writer's order of checks and the table's row 15: "then 15": one cell a byte
abbrev pub room_rules : ℕ → ℕ → List Rule
room_rules wanted room = record { holds = leb wanted room; refusal = Memory wanted } ∷ []

-- 01 "The message": the length of a message, which the writer answers
unfoldable pub length_written : Option Form → ℕ
length_written form = message_length (rows_written form)

-- 01, the order of checks: "Writer: code not in the table (6), 10, then 11 and 12 by row, then 15"
unfoldable pub write_rules : Option Form → ℕ → List ℕ → List ℕ → ℕ → List Rule
write_rules form number key values room =
    code_rules form number ++ rows_rules (data_written form key values).verdict ++ room_rules (length_written form) room

-- 01, the table's rows 6, 10, 11, 12 and 15: a message that the writer writes breaks no rule
pub record GoodWrite (form : Option Form) (number : ℕ) (key values : List ℕ) (room : ℕ) : Type 0 where
  -- 6
  pub tabled : in_table form ≡ true
  -- 10
  pub has_number : numbered form number ≡ true
  -- 11 and 12
  pub rows_good : (data_written form key values).verdict ≡ Ok tt
  -- 15
  pub has_room : length_written form ≤ room

-- ---- the message

-- 01 "The message": code (2), length (2), sequence number (4)
abbrev pub head_bytes : Code → ℕ → ℕ → List ℕ
head_bytes code long number = code.0 ∷ code.1 ∷ bytes_of 2 long ++ bytes_of 4 number

-- 01 "The checksum": over all bytes before the trailer, and "heartbeats carry zero"
abbrev pub sum_written : Sum → List ℕ → List ℕ
sum_written Zero bytes = zero_sum
sum_written Right bytes = checksum_of bytes
sum_written RightOrZero bytes = checksum_of bytes

-- 01 "The message": end byte 13
abbrev pub end_byte : ℕ
end_byte = 13

-- 01 "The message": "The length counts the whole message"
abbrev pub before_trailer : Code → ℕ → List ℕ → List ℕ
before_trailer code number bytes = head_bytes code (length bytes + bare_length) number ++ bytes

-- 01 "The message": code, length, number, data, checksum, end byte 13
unfoldable pub message_bytes : Code → ℕ → List ℕ → List ℕ
message_bytes code number bytes =
    before_trailer code number bytes ++ (sum_written (sum_rule code.0 code.1) (before_trailer code number bytes) ++ (end_byte ∷ []))

-- 01 "What may be asked": "no call writes past its answer"
unfoldable pub message_put : Code → ℕ → List ℕ → List ℕ → List ℕ
message_put code number bytes out = message_bytes code number bytes ++ drop (length bytes + bare_length) out

-- ---- the words of the inner contracts

-- a word of our own: rows laid over scratch memory
pub record LaysRows (rows : Laid) (before : List ℕ) (answer : Result (Unit {0}) Refusal) (after : List ℕ) : Type 0 where
  pub answers : checked_numbers answer ≡ checked_by (first_broken (rows_rules rows.verdict))
  pub leaves : after ≡ where_good rows.verdict (over_front rows.bytes before) before

-- a word of our own: a message with this data, where there is room
pub record PutsMessage (code : Code) (number : ℕ) (bytes out : List ℕ) (answer : Result ℕ Refusal) (out' : List ℕ) : Type 0 where
  pub answers : written_numbers answer ≡ answered (first_broken (room_rules (length bytes + bare_length) (length out))) ((length bytes + bare_length) ∷ [])
  pub leaves : out' ≡ left_by (first_broken (room_rules (length bytes + bare_length) (length out))) out (message_put code number bytes out)
