-- Lent memory: the lists, gap rows of 132 numbers a listed segment, and records (`slots` Slots); all in list order.
use Rattle.std.specs.Prelude.{ℕ, ◌*◌, ◌≡◌, List, [], take, drop}
use Rattle.std.proofs.Math.Option.{Option, none, some}
use Rattle.files.specs.File.{segments_of}
use Rattle.lookup.specs.Lookup.{segment_of}
use Rattle.pairs.specs.Lists.{Lists}
use Rattle.sequence.specs.Row.{cells}
use Rattle.slots.specs.Slots.{records_wanted}

-- 01 "What may be asked": what a call is lent: "Calls after start are handed the list, gap rows and records again"
pub record Lent : Type 0 where
  pub lists : Lists
  pub rows : List ℕ
  pub records : List ℕ

-- lent memory: what is lent, as one
abbrev pub lends : Lists → List ℕ → List ℕ → Lent
lends lists rows records = record { lists = lists; rows = rows; records = records }

-- lent memory: the cells of a gap row
abbrev pub gap_row_cells : ℕ
gap_row_cells = cells

-- 01 "What may be asked": the cells wanted for state, "a number that the lists' counts alone fix": of gap rows
abbrev pub gap_rows_wanted : Lists → ℕ
gap_rows_wanted lists = gap_row_cells * segments_of lists.contracts

-- lent memory: the gap row of segment i
abbrev pub gap_row_of : List ℕ → ℕ → List ℕ
gap_row_of rows i = take gap_row_cells (drop (gap_row_cells * i) rows)

-- lent memory: the gap row of a segment, where there is one
abbrev pub gap_row_in : List ℕ → Option ℕ → List ℕ
gap_row_in rows none = []
gap_row_in rows (some segment) = gap_row_of rows segment

-- lent memory: the gap row of the segment that has the letter
abbrev pub gap_row_of_letter : Lists → ℕ → List ℕ → List ℕ
gap_row_of_letter lists letter rows = gap_row_in rows (segment_of lists.contracts letter)

-- 01 "What may be asked": "no call writes past its answer": every cell behind those wanted for state is as it was
pub record SameBehind (lent lent' : Lent) : Type 0 where
  pub rows_behind : drop (gap_rows_wanted lent.lists) lent'.rows ≡ drop (gap_rows_wanted lent.lists) lent.rows
  pub records_behind : drop (records_wanted lent.lists) lent'.records ≡ drop (records_wanted lent.lists) lent.records
