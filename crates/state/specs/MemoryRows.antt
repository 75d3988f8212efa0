-- The gap rows of lent memory, tested and put back: `state_exact` (StateLaws), `row_put`, `row_kept` (RowsLaws).
use Rattle.std.specs.Prelude.{ℕ, ◌+◌, ◌*◌, Bool, List, ◌++◌, take, drop}
use Rattle.std.proofs.Math.Option.{Option, none, some}
use Rattle.pairs.specs.Lists.{Lists}
use Rattle.files.specs.Below.{all_below}
use Rattle.lookup.specs.Lookup.{segment_of}
use Rattle.sequence.specs.RowLaid.{sound_gap_row}
use Rattle.state.specs.Memory.{gap_row_cells, gap_row_of}

-- lent memory: the gap rows with another row in the place of segment i's
abbrev pub with_gap_row : List ℕ → ℕ → List ℕ → List ℕ
with_gap_row rows i row = take (gap_row_cells * i) rows ++ row ++ drop (gap_row_cells * i + gap_row_cells) rows

-- 01, the table's row 18: every listed segment's gap row is sound
abbrev pub gap_rows_sound : ℕ → List ℕ → Bool
gap_rows_sound n rows = all_below n (λ i. sound_gap_row (gap_row_of rows i))

-- lent memory: the gap rows with another row for a segment, and as they are where there is none
abbrev pub with_gap_row_in : List ℕ → List ℕ → Option ℕ → List ℕ
with_gap_row_in rows row none = rows
with_gap_row_in rows row (some segment) = with_gap_row rows segment row

-- lent memory: the gap rows with another row for the segment that has the letter
abbrev pub with_gap_row_of_letter : Lists → ℕ → List ℕ → List ℕ → List ℕ
with_gap_row_of_letter lists letter rows row = with_gap_row_in rows row (segment_of lists.contracts letter)
