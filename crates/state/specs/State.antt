-- The checks of the state that is handed to a call, and what they answer.
use Rattle.std.specs.Prelude.{ℕ, ◌≡◌, List, [], ◌∷◌, ◌++◌, leb, length, Result}
use Rattle.std.proofs.Math.Option.{Option, none, some}
use Rattle.laws.specs.Rules.{first_broken}
use Rattle.pairs.specs.Lists.{Lists}
use Rattle.files.specs.File.{segments_of}
use Rattle.lookup.specs.Lookup.{segment_of}
use Rattle.contracts.specs.SoundTests.{header_sound}
use Rattle.pairs.specs.SpreadTests.{spread_header_sound}
use Rattle.head.specs.Tests.{is_some}
use Rattle.state.specs.declared.refusal.Refusal.{Refusal}
use Rattle.state.specs.declared.refusal.Refusal.TheVariants.{Code, Memory, List as ListOf, State}
use Rattle.state.specs.Refusals.{Rule}
use Rattle.state.specs.Answers.{asked_numbers, answered}
use Rattle.state.specs.Memory.{Lent, gap_rows_wanted}
use Rattle.state.specs.MemoryRows.{gap_rows_sound}
use Rattle.slots.specs.Slots.{records_wanted}

-- 01, the table's row 15 for so many cells lent: "Where both are short, 15 names the gap rows and not the records"
abbrev pub memory_rules : Lists → ℕ → ℕ → List Rule
memory_rules lists rows records =
    record { holds = leb (gap_rows_wanted lists) rows; refusal = Memory (gap_rows_wanted lists) }
    ∷ record { holds = leb (records_wanted lists) records; refusal = Memory (records_wanted lists) }
    ∷ []

-- 01, the order of checks of the calls after start, the writer apart: 16, M-100 16 for the spread list, 15 for gap rows, 15 for records, 18
abbrev pub state_rules : Lent → List Rule
state_rules lent =
    record { holds = header_sound lent.lists.contracts; refusal = ListOf }
    ∷ record { holds = spread_header_sound lent.lists.contracts lent.lists.pairs; refusal = ListOf }
    ∷ memory_rules lent.lists (length lent.rows) (length lent.records)
    ++ (record { holds = gap_rows_sound (segments_of lent.lists.contracts) lent.rows; refusal = State } ∷ [])

-- 01, the order of checks of list gaps, write-off and record: those of the state, then 6
unfoldable pub segment_rules : Lent → ℕ → List Rule
segment_rules lent letter =
    state_rules lent ++ (record { holds = is_some (segment_of lent.lists.contracts letter); refusal = Code 0 } ∷ [])

-- 01, the order of checks: the segment of a letter, where it is listed
abbrev pub segment_values : Option ℕ → List ℕ
segment_values none = []
segment_values (some segment) = segment ∷ []

-- 01, the order of checks: the segment of the letter where no rule is broken, or the first broken rule's refusal
abbrev pub Asks : Lent → ℕ → Result ℕ Refusal → Type 0
Asks lent letter answer =
    asked_numbers answer ≡ answered (first_broken (segment_rules lent letter)) (segment_values (segment_of lent.lists.contracts letter))
