-- The answers of the public calls, and of the checks before them, by document 01's numbers: 0 and the values of what is
-- accepted, or a refusal's.
use Rattle.std.specs.Prelude.{ℕ, List, [], ◌∷◌, ◌++◌, Result, Ok, Err}
use Rattle.std.proofs.Math.Option.{Option, none, some}
use Rattle.layout.specs.Cells.{session_cell}
use Rattle.state.specs.declared.refusal.Refusal.{Refusal}
use Rattle.state.specs.declared.answers.Judged.{Judged}
use Rattle.sequence.specs.declared.GapsListed.{GapsListed}
use Rattle.sequence.specs.declared.Run.{Run}
use Rattle.state.specs.declared.answers.Recorded.{Recorded}
use Rattle.state.specs.Refusals.{refusal_numbers}

-- 01 "What may be asked": start, which answers nothing more
abbrev pub started_numbers : Result (Unit {0}) Refusal → List ℕ
started_numbers (Ok _) = 0 ∷ []
started_numbers (Err refusal) = refusal_numbers refusal

-- 01 "What may be asked": an accepted batch answers how many messages were taken, old and heartbeats; M-102: and then how many keys
-- its lookups compared, behind a refusal too
abbrev pub judged_numbers : Judged → List ℕ
judged_numbers (Judged.Accepted taken old heartbeats compared) = 0 ∷ taken ∷ old ∷ heartbeats ∷ compared ∷ []
judged_numbers (Judged.Refused refusal compared) = refusal_numbers refusal ++ (compared ∷ [])

-- 01 "What may be asked": list gaps answers highest and the number of runs
abbrev pub Listed : Type 0
Listed = Result GapsListed Refusal

abbrev pub runs_told : ℕ → ℕ → Listed
runs_told highest runs = Ok (record { highest = highest; runs = runs })

abbrev pub listed_numbers : Listed → List ℕ
listed_numbers (Ok gaps) = 0 ∷ gaps.highest ∷ gaps.runs ∷ []
listed_numbers (Err refusal) = refusal_numbers refusal

-- 01 "What may be asked": a write-off answers the run it removed, by its first and last number
abbrev pub WrittenOff : Type 0
WrittenOff = Result Run Refusal

abbrev pub run_told : ℕ → ℕ → WrittenOff
run_told first last = Ok (record { first = first; last = last })

abbrev pub written_off_numbers : WrittenOff → List ℕ
written_off_numbers (Ok run) = 0 ∷ run.first ∷ run.last ∷ []
written_off_numbers (Err refusal) = refusal_numbers refusal

-- 01 "What may be asked": a record, or "no record": 1 and its number for a record, 0 where there is none; M-104: and its session
abbrev pub recorded_numbers : Recorded → List ℕ
recorded_numbers (Recorded.Record number session) = 0 ∷ 1 ∷ number ∷ session_cell session ∷ []
recorded_numbers Recorded.NoRecord = 0 ∷ 0 ∷ []
recorded_numbers (Recorded.Refused refusal) = refusal_numbers refusal

-- 01 "What may be asked": "the writer its length"
abbrev pub written_numbers : Result ℕ Refusal → List ℕ
written_numbers (Ok length) = 0 ∷ length ∷ []
written_numbers (Err refusal) = refusal_numbers refusal

-- 01, the order of checks: one that refuses nothing answers nothing more
abbrev pub checked_numbers : Result (Unit {0}) Refusal → List ℕ
checked_numbers (Ok _) = 0 ∷ []
checked_numbers (Err refusal) = refusal_numbers refusal

-- 01, the order of checks: the segment that is asked for, by its place in the list
abbrev pub asked_numbers : Result ℕ Refusal → List ℕ
asked_numbers (Ok segment) = 0 ∷ segment ∷ []
asked_numbers (Err refusal) = refusal_numbers refusal

-- 01, the table of refusals: the numbers of the first broken rule's refusal, or else 0 and the values of an accepted call
abbrev pub answered : Option Refusal → List ℕ → List ℕ
answered (some refusal) values = refusal_numbers refusal
answered none values = 0 ∷ values

-- 01, the table of refusals: the numbers of a check, which answers no values
abbrev pub checked_by : Option Refusal → List ℕ
checked_by refusal = answered refusal []

-- 01 "What may be asked": "A refusal leaves all lent memory as before"
abbrev pub left_by : {A : Type 0} → Option Refusal → A → A → A
left_by (some refusal) before after = before
left_by none before after = after
