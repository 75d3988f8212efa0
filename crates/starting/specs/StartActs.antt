-- What a start leaves, as it computes: `gaps_started`, `no_records` (CallPromisesLaws), and `history`'s `refines`.
use Rattle.std.specs.Prelude.{ℕ, zero, suc, List, [], ◌++◌, length, drop, replicate}
use Rattle.std.proofs.Math.Option.{Option}
use Rattle.laws.specs.Rules.{first_broken}
use Rattle.files.specs.File.{segments_of}
use Rattle.pairs.specs.Lists.{Lists}
use Rattle.sequence.specs.Changes.{begun}
use Rattle.sequence.specs.RowLaid.{laid}
use Rattle.state.specs.declared.refusal.Refusal.{Refusal}
use Rattle.state.specs.Memory.{Lent, lends, gap_row_cells, gap_rows_wanted}
use Rattle.slots.specs.Slots.{records_wanted}
use Rattle.starting.specs.Start.{start_of, start_rules}

-- 01 "Sequence and gaps": a gap row at its start: "highest begins one below it", no runs, and every other cell 0
abbrev pub started_row : ℕ → List ℕ
started_row number = laid (replicate gap_row_cells 0) (begun number)

-- 01 "Sequence and gaps": a start number for each listed segment, in list order; the rows of the first n segments, one behind
-- the other
abbrev pub started_rows : ℕ → List ℕ → List ℕ
started_rows zero starts = []
started_rows (suc n) starts = started_rows n starts ++ started_row (start_of starts n)

-- 01 "What may be asked": no call writes past its answer: every cell beyond those wanted stays
unfoldable pub rows_started : Lists → List ℕ → List ℕ → List ℕ
rows_started lists starts rows = started_rows (segments_of lists.contracts) starts ++ drop (gap_rows_wanted lists) rows

-- 01 "What may be asked": a contract with no update taken has no record; every cell beyond those wanted stays
unfoldable pub records_cleared : Lists → List ℕ → List ℕ
records_cleared lists records = replicate (records_wanted lists) 0 ++ drop (records_wanted lists) records

-- 01, the order of checks at start: the first broken rule
abbrev pub start_broken : Lent → List ℕ → Option Refusal
start_broken lent starts = first_broken (start_rules lent.lists starts (length lent.rows) (length lent.records))

-- 01 "What may be asked": what a start leaves
abbrev pub lent_started : Lent → List ℕ → Lent
lent_started lent starts = lends lent.lists (rows_started lent.lists starts lent.rows) (records_cleared lent.lists lent.records)
