-- The rules of a message before its data, in their order: the table's rows 5 to 10.
use Rattle.std.specs.Prelude.{ℕ, List, [], ◌∷◌, ◌++◌}
use Rattle.std.proofs.Math.Option.{Option}
use Rattle.laws.specs.Rules.{Rule}
use Rattle.head.specs.declared.head.Fault.{Fault}
use Rattle.head.specs.declared.head.Fault.TheVariants.{Frame, Code, Trailer, Length, Checksum, Numbering}
use Rattle.head.specs.Fields.{number_of, form_in}
use Rattle.head.specs.Tests.{coded, framed, summed, takes_length, takes_number, trailed}

-- 01, the order of checks: the rules 5 to 7
abbrev pub frame_rules : ℕ → Option ℕ → List ℕ → List (Rule Fault)
frame_rules letter segment bytes =
    record { holds = framed bytes; refusal = Frame }
    ∷ record { holds = coded letter segment bytes; refusal = Code }
    ∷ record { holds = trailed bytes; refusal = Trailer }
    ∷ []

-- 01, the order of checks: the rules 8 to 10
abbrev pub form_rules : List ℕ → List (Rule Fault)
form_rules bytes =
    record { holds = takes_length (form_in bytes); refusal = Length }
    ∷ record { holds = summed bytes; refusal = Checksum }
    ∷ record { holds = takes_number (form_in bytes) (number_of bytes); refusal = Numbering }
    ∷ []

-- 01, the order of checks: the rules 5 to 10
abbrev pub head_rules : ℕ → Option ℕ → List ℕ → List (Rule Fault)
head_rules letter segment bytes = frame_rules letter segment bytes ++ form_rules bytes
