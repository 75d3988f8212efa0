-- 01, the table of refusals: the number of each, by its name there. Every definition that gives a refusal's number has it from here.
use Rattle.std.specs.Prelude.{ℕ}

-- 01, the table of refusals: SIZE
abbrev pub size_no : ℕ
size_no = 1

-- 01, the table of refusals: PACKED
abbrev pub packed_no : ℕ
packed_no = 2

-- 01, the table of refusals: FLAG
abbrev pub flag_no : ℕ
flag_no = 3

-- 01, the table of refusals: COUNT
abbrev pub count_no : ℕ
count_no = 4

-- 01, the table of refusals: FRAME
abbrev pub frame_no : ℕ
frame_no = 5

-- 01, the table of refusals: CODE
abbrev pub code_no : ℕ
code_no = 6

-- 01, the table of refusals: TRAILER
abbrev pub trailer_no : ℕ
trailer_no = 7

-- 01, the table of refusals: LENGTH
abbrev pub length_no : ℕ
length_no = 8

-- 01, the table of refusals: CHECKSUM
abbrev pub checksum_no : ℕ
checksum_no = 9

-- 01, the table of refusals: NUMBERING
abbrev pub numbering_no : ℕ
numbering_no = 10

-- 01, the table of refusals: FIELD
abbrev pub field_no : ℕ
field_no = 11

-- 01, the table of refusals: RANGE
abbrev pub range_no : ℕ
range_no = 12

-- 01, the table of refusals: CONTRACT
abbrev pub contract_no : ℕ
contract_no = 13

-- 01, the table of refusals: GAPS
abbrev pub gaps_no : ℕ
gaps_no = 14

-- 01, the table of refusals: MEMORY
abbrev pub memory_no : ℕ
memory_no = 15

-- 01, the table of refusals: LIST
abbrev pub list_no : ℕ
list_no = 16

-- 01, the table of refusals: NO GAP
abbrev pub no_gap_no : ℕ
no_gap_no = 17

-- 01, the table of refusals: STATE
abbrev pub state_no : ℕ
state_no = 18
