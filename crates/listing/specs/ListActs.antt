-- What listing gaps and writing off answer and leave, as it computes: 01 "Sequence and gaps", "What may be asked".
use Rattle.std.specs.Prelude.{ℕ, List, [], ◌∷◌, ◌++◌, length, drop}
use Rattle.sequence.specs.Gaps.{Gaps, wanted}
use Rattle.sequence.specs.Changes.{wrote_off}
use Rattle.sequence.specs.RowLaid.{flat, laid}
use Rattle.sequence.specs.Runs.{Run, run}
use Rattle.state.specs.Memory.{Lent, lends, gap_row_of_letter}
use Rattle.state.specs.MemoryRows.{with_gap_row_of_letter}
use Rattle.listing.specs.ListRules.{gaps_of_letter}

-- 01 "What may be asked": "List gaps answers highest and the number of runs"
abbrev pub list_values : Gaps → List ℕ
list_values gaps = gaps.highest ∷ length gaps.runs ∷ []

-- 01 "What may be asked": "and puts the runs in lent cells", from the first on; "no call writes past its answer"
unfoldable pub runs_put : Gaps → List ℕ → List ℕ
runs_put gaps cells = flat gaps.runs ++ drop (wanted gaps.runs) cells

-- 01 "What may be asked": "a write-off answers the run it removed", as its first and last number
abbrev pub run_values : Run → List ℕ
run_values r = r.first ∷ r.last ∷ []

-- 01 "Sequence and gaps": a write-off removes the lowest run; runs ascend
abbrev pub lowest_run : Gaps → Run
lowest_run gaps = run gaps.runs 0

-- 01 "Sequence and gaps": what a write-off leaves: the segment's row without its lowest run; every other row stays
unfoldable pub lent_written_off : Lent → ℕ → Lent
lent_written_off lent letter =
    lends lent.lists
    (with_gap_row_of_letter lent.lists letter lent.rows (laid (gap_row_of_letter lent.lists letter lent.rows) (wrote_off (gaps_of_letter lent letter))))
    lent.records
