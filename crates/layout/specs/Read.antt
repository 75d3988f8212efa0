-- Reading the data of an update into cells: 01 "The message", and its order of checks: rows in turn, 11 before 12.
use Rattle.std.specs.Prelude.{ℕ, suc, ◌≡◌, Bool, cond, ◌||◌, List, [], ◌∷◌, eqb, take, drop, Ok, Err}
use Rattle.layout.specs.declared.read.BadRow.{BadRow}
use Rattle.layout.specs.declared.read.BadRow.TheVariants.{Field as FieldAt, Range as RangeAt}
use Rattle.std.proofs.lemmas.List.Edits.{sets}
use Rattle.wire.specs.Number.{number_at}
use Rattle.decimal.specs.declared.FieldFault.{FieldFault}
use Rattle.decimal.specs.declared.FieldFault.TheVariants.{Malformed, OutOfRange}
use Rattle.scan.specs.Answers.{Number}
use Rattle.forms.specs.declared.rows.Markets.{Markets}
use Rattle.forms.specs.declared.rows.Markets.TheVariants.{Normal, Any}
use Rattle.forms.specs.declared.rows.Row.{Row}
use Rattle.forms.specs.declared.rows.Row.TheVariants.{Key, MarketType, Status, Price, Quantity, Turnover, Difference}
use Rattle.decimal.specs.declared.Kind.{Kind}
use Rattle.decimal.specs.Kinds.{price, quantity, turnover, difference}
use Rattle.scan.specs.Read.{read_as}
use Rattle.forms.specs.Rows.{width_of}
use Rattle.layout.specs.Answers.{verdict_numbers, RowRead, Verdict}
use Rattle.layout.specs.Cells.{Small, cell_of}

-- 01, the table's rows 11 and 12: a number's cell, where the text is one
abbrev pub of_number : Number → RowRead
of_number (Ok held) = Ok (cell_of held)
of_number (Err fault) = Err fault

-- a word of our own: what was read has a cell
abbrev pub SmallRead : Number → Type 0
SmallRead (Ok held) = Small held
SmallRead (Err fault) = Unit {0}

-- 01 "The message": market type 'N'; M-104: 'N', 'O', 'S' or 'A'
abbrev pub is_market_type : Markets → ℕ → Bool
is_market_type Normal byte = eqb byte 78
is_market_type Any byte = eqb byte 78 || (eqb byte 79 || (eqb byte 83 || eqb byte 65))

-- 01 "The message": status is 'S' or space
abbrev pub is_status : ℕ → Bool
is_status byte = eqb byte 83 || eqb byte 32

-- 01 "The message": a letter's cell is its byte, where it is one that the row takes
abbrev pub letter_cell : (ℕ → Bool) → ℕ → RowRead
letter_cell taken byte = cond (taken byte) (Ok byte) (Err Malformed)

-- 01 "Numbers in text": a field as a number of its kind
abbrev pub number_cell : Kind → List ℕ → RowRead
number_cell kind field = of_number (read_as kind field)

-- 01 "The message": one row's field; a key's text is only looked up, and its cell is 0
unfoldable pub read_row : Row → List ℕ → RowRead
read_row (Key width) field = Ok 0
read_row (MarketType markets) field = letter_cell (is_market_type markets) (number_at 1 field 0)
read_row Status field = letter_cell is_status (number_at 1 field 0)
read_row (Price width) field = number_cell price field
read_row (Quantity width) field = number_cell quantity field
read_row (Turnover width) field = number_cell turnover field
read_row (Difference width) field = number_cell difference field

-- 01, the table's rows 11 and 12: a bad row is named by its place
abbrev pub bad_row : FieldFault → ℕ → BadRow
bad_row Malformed i = FieldAt i
bad_row OutOfRange i = RangeAt i

-- 01, the order of checks: what reading rows gives: the cells of the good rows in front of the first bad one, and the
-- verdict
pub record Outcome : Type 0 where
  pub cells : List ℕ
  pub verdict : Verdict

-- 01, the order of checks: a good row's cell stands in front of those of the rows behind it; a bad row ends the reading at
-- its place
abbrev pub row_then : RowRead → ℕ → Outcome → Outcome
row_then (Ok cell) i rest = record { cells = cell ∷ rest.cells; verdict = rest.verdict }
row_then (Err Malformed) i rest = record { cells = []; verdict = Err (FieldAt i) }
row_then (Err OutOfRange) i rest = record { cells = []; verdict = Err (RangeAt i) }

-- 01, the order of checks: the rows from row i on, in turn, each with the bytes behind those of the row before it
abbrev pub read_rows : ℕ → List Row → List ℕ → Outcome
read_rows i [] bytes = record { cells = []; verdict = Ok tt }
read_rows i (row ∷ rows) bytes =
    row_then (read_row row (take (width_of row) bytes)) i (read_rows (suc i) rows (drop (width_of row) bytes))

-- lent memory: the answer of reading rows, and the lent cells: those of the good rows in front of the first bad one are
-- stored
pub record ReadsRows (rows : List Row) (bytes cells : List ℕ) (answer : Verdict) (cells' : List ℕ) : Type 0 where
  pub answers : verdict_numbers answer ≡ verdict_numbers (read_rows 0 rows bytes).verdict
  pub cells_stored : cells' ≡ sets cells 0 (read_rows 0 rows bytes).cells
