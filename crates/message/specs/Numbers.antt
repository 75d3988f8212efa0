-- The answers of this crate in the paper's numbers.
use Rattle.std.specs.Prelude.{ℕ, List, [], ◌∷◌, Ok, Err, Result}
use Rattle.std.proofs.Math.Option.{Option, none, some}
use Rattle.forms.specs.declared.forms.Form.{Form}
use Rattle.forms.specs.Answers.{Tells, subject_level}
use Rattle.forms.specs.Forms.{subject_of}
use Rattle.message.specs.declared.body.What.{What}
use Rattle.message.specs.declared.body.What.TheVariants.{Heartbeat, PassedOver, Update}
use Rattle.head.specs.declared.head.Fault.{Fault}
use Rattle.head.specs.Faults.{Head, fault_numbers}

-- 01 "The message": 0 for a message with no fault; then the number by which it counts in the sequence, an update's level and
-- its place
abbrev pub what_numbers : Result What Fault → List ℕ
what_numbers (Ok Heartbeat) = 0 ∷ []
what_numbers (Ok (PassedOver number)) = 0 ∷ number ∷ []
what_numbers (Ok (Update number form place)) = 0 ∷ number ∷ subject_level (subject_of form) ∷ place ∷ []
what_numbers (Err fault) = fault_numbers fault

-- a word of our own: the form of an update, which has no number in 01
abbrev pub form_told : Result What Fault → Option Form
form_told (Ok Heartbeat) = none
form_told (Ok (PassedOver number)) = none
form_told (Ok (Update number form place)) = some form
form_told (Err fault) = none

-- a word of our own: what a message is, by its numbers and its form
abbrev pub TellsWhat : Result What Fault → Result What Fault → Type 0
TellsWhat = Tells what_numbers form_told

-- 01, the table of refusals: the fault of a message, if it has one
abbrev pub verdict_of : Result What Fault → Head
verdict_of (Ok _) = Ok tt
verdict_of (Err fault) = Err fault

-- 01 "Sequence and gaps": a heartbeat has number 0
abbrev pub number_in : Result What Fault → ℕ
number_in (Ok Heartbeat) = 0
number_in (Ok (PassedOver number)) = number
number_in (Ok (Update number form place)) = number
number_in (Err fault) = 0
