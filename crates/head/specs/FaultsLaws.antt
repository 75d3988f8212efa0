-- The fault that numbers tell; proofs/FaultsTold has the laws.
use Rattle.std.specs.Prelude.{ℕ, Bool, cond, List, eqb, get_or}
use Rattle.head.specs.declared.head.Fault.{Fault}
use Rattle.head.specs.declared.head.Fault.TheVariants.{Frame, Code, Trailer, Length, Checksum, Numbering, Field, Range, Contract}

-- the fault of a number, with its row
abbrev pub fault_in : ℕ → ℕ → Fault
fault_in number row =
    cond (eqb number 5) Frame (cond (eqb number 6) Code (cond (eqb number 7) Trailer (cond (eqb number 8) Length
    (cond (eqb number 9) Checksum (cond (eqb number 10) Numbering (cond (eqb number 11) (Field row)
    (cond (eqb number 12) (Range row) Contract)))))))

abbrev pub fault_of : List ℕ → Fault
fault_of ns = fault_in (get_or ns 0 0) (get_or ns 1 0)

-- the numbers of what has no fault begin with 0, and no fault's do
abbrev pub good : List ℕ → Bool
good ns = eqb (get_or ns 0 0) 0
