-- A fault's numbers tell the fault.
use Rattle.std.specs.Prelude.{ℕ, ◌≡◌, refl, false, cond, List, Ok, Err}
use Rattle.laws.specs.Told.{told}
use Rattle.head.specs.declared.head.Fault.{Fault}
use Rattle.head.specs.declared.head.Fault.TheVariants.{Frame, Code, Trailer, Length, Checksum, Numbering, Field, Range, Contract}
use Rattle.head.specs.Faults.{Head, fault_numbers, head_numbers}
use Rattle.head.specs.FaultsLaws.{fault_of, good}

pub fault_back : (f : Fault) → (fault_of (fault_numbers f) ≡ f) × (good (fault_numbers f) ≡ false)
fault_back Frame = (refl, refl)
fault_back Code = (refl, refl)
fault_back Trailer = (refl, refl)
fault_back Length = (refl, refl)
fault_back Checksum = (refl, refl)
fault_back Numbering = (refl, refl)
fault_back (Field row) = (refl, refl)
fault_back (Range row) = (refl, refl)
fault_back Contract = (refl, refl)

abbrev head_in : List ℕ → Head
head_in ns = cond (good ns) (Ok tt) (Err (fault_of ns))

head_back : (h : Head) → head_in (head_numbers h) ≡ h
head_back (Ok _) = refl
head_back (Err fault) = let b = fault_back fault in rw (b.1, b.0)

pub head_told : (h k : Head) → head_numbers h ≡ head_numbers k → h ≡ k
head_told = told head_numbers head_in head_back
