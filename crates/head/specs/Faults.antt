-- The faults of a message in the paper's numbers.
use Rattle.std.specs.Prelude.{ℕ, List, [], ◌∷◌, Ok, Err, Result}
use Rattle.laws.specs.Refused.{frame_no, code_no, trailer_no, length_no, checksum_no, numbering_no, field_no, range_no, contract_no}
use Rattle.layout.specs.declared.read.BadRow.{BadRow}
use Rattle.layout.specs.declared.read.BadRow.TheVariants as bad_row
use Rattle.head.specs.declared.head.Fault.{Fault}
use Rattle.head.specs.declared.head.Fault.TheVariants.{Frame, Code, Trailer, Length, Checksum, Numbering, Field, Range, Contract}

-- 01, the table: the row's number, and the row of the data where it returns one
abbrev pub fault_numbers : Fault → List ℕ
fault_numbers Frame = frame_no ∷ []
fault_numbers Code = code_no ∷ []
fault_numbers Trailer = trailer_no ∷ []
fault_numbers Length = length_no ∷ []
fault_numbers Checksum = checksum_no ∷ []
fault_numbers Numbering = numbering_no ∷ []
fault_numbers (Field row) = field_no ∷ row ∷ []
fault_numbers (Range row) = range_no ∷ row ∷ []
fault_numbers Contract = contract_no ∷ []

-- 01, the table's rows 11 and 12: a bad row's fault
abbrev pub row_fault : BadRow → Fault
row_fault (bad_row.Field row) = Field row
row_fault (bad_row.Range row) = Range row

-- 01, the order of checks: nothing where no rule is broken, or the fault of the first that is
abbrev pub Head : Type 0
Head = Result (Unit {0}) Fault

-- 01, the table's rows 5 to 10: 0 where none of them is broken, or the fault's
abbrev pub head_numbers : Head → List ℕ
head_numbers (Ok _) = 0 ∷ []
head_numbers (Err fault) = fault_numbers fault
