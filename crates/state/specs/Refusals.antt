-- 01, the table of refusals.
use Rattle.std.specs.Prelude.{ℕ, List, [], ◌∷◌, get_or}
use Rattle.laws.specs.Rules.{Rule as RuleOf}
use Rattle.laws.specs.Refused.{size_no, packed_no, flag_no, count_no, frame_no, code_no, trailer_no, length_no, checksum_no, numbering_no, field_no, range_no, contract_no, gaps_no, memory_no, list_no, no_gap_no, state_no}
use Rattle.head.specs.declared.head.Fault.{Fault}
use Rattle.head.specs.declared.head.Fault.TheVariants as fault
use Rattle.state.specs.declared.refusal.Refusal.{Refusal}
use Rattle.state.specs.declared.refusal.Refusal.TheVariants.{Size, Packed, Flag, Count, Frame, Code, Trailer, Length, Checksum, Numbering, Field, Range, Contract, Gaps, Memory, List as ListOf, NoGap, State}

-- 01, the table of refusals: a refusal's number, then message, row and cells wanted, 0 where the table returns none
abbrev pub refusal_numbers : Refusal → List ℕ
refusal_numbers Size = size_no ∷ 0 ∷ 0 ∷ 0 ∷ []
refusal_numbers Packed = packed_no ∷ 0 ∷ 0 ∷ 0 ∷ []
refusal_numbers Flag = flag_no ∷ 0 ∷ 0 ∷ 0 ∷ []
refusal_numbers Count = count_no ∷ 0 ∷ 0 ∷ 0 ∷ []
refusal_numbers (Frame message) = frame_no ∷ message ∷ 0 ∷ 0 ∷ []
refusal_numbers (Code message) = code_no ∷ message ∷ 0 ∷ 0 ∷ []
refusal_numbers (Trailer message) = trailer_no ∷ message ∷ 0 ∷ 0 ∷ []
refusal_numbers (Length message) = length_no ∷ message ∷ 0 ∷ 0 ∷ []
refusal_numbers (Checksum message) = checksum_no ∷ message ∷ 0 ∷ 0 ∷ []
refusal_numbers (Numbering message) = numbering_no ∷ message ∷ 0 ∷ 0 ∷ []
refusal_numbers (Field message row) = field_no ∷ message ∷ row ∷ 0 ∷ []
refusal_numbers (Range message row) = range_no ∷ message ∷ row ∷ 0 ∷ []
refusal_numbers (Contract message) = contract_no ∷ message ∷ 0 ∷ 0 ∷ []
refusal_numbers (Gaps message) = gaps_no ∷ message ∷ 0 ∷ 0 ∷ []
refusal_numbers (Memory wanted) = memory_no ∷ 0 ∷ 0 ∷ wanted ∷ []
refusal_numbers ListOf = list_no ∷ 0 ∷ 0 ∷ 0 ∷ []
refusal_numbers NoGap = no_gap_no ∷ 0 ∷ 0 ∷ 0 ∷ []
refusal_numbers State = state_no ∷ 0 ∷ 0 ∷ 0 ∷ []

-- 01, the table of refusals: the refusal of a message's fault, with the message's place in the batch
abbrev pub of_fault : Fault → ℕ → Refusal
of_fault fault.Frame i = Frame i
of_fault fault.Code i = Code i
of_fault fault.Trailer i = Trailer i
of_fault fault.Length i = Length i
of_fault fault.Checksum i = Checksum i
of_fault fault.Numbering i = Numbering i
of_fault (fault.Field row) i = Field i row
of_fault (fault.Range row) i = Range i row
of_fault fault.Contract i = Contract i

-- 01, the table of refusals: the numbers of a message's fault, with the message's place in the batch
abbrev pub in_message : ℕ → List ℕ → List ℕ
in_message i fault = get_or fault 0 0 ∷ i ∷ get_or fault 1 0 ∷ 0 ∷ []

-- a word of our own: a rule, and the refusal of what breaks it
abbrev pub Rule : Type 0
Rule = RuleOf Refusal
