-- The row that a refusal names: the first bad one. 01, the table of refusals and its order: rows in turn, 11 before 12 in a row.
use Rattle.std.specs.Prelude.{ℕ, ◌<◌, ◌≡◌, List, Ok, Err}
use Rattle.layout.specs.declared.read.BadRow.TheVariants.{Field as FieldAt, Range as RangeAt}
use Rattle.decimal.specs.declared.FieldFault.TheVariants.{Malformed, OutOfRange}
use Rattle.layout.specs.Answers.{RowRead, Verdict}
use Rattle.laws.specs.Refused.{field_no, range_no}
use Rattle.forms.specs.declared.rows.Row.{Row}
use Rattle.layout.specs.Read.{read_row}
use Rattle.layout.specs.Says.{field_at, row_at}

-- 01, the table's row 11: FIELD
abbrev pub field : ℕ
field = field_no

-- 01, the table's row 12: RANGE
abbrev pub range : ℕ
range = range_no

-- 01 "The message": what row k reads as
abbrev pub row_read : List Row → List ℕ → ℕ → RowRead
row_read rows bytes k = read_row (row_at rows k) (field_at rows bytes k)

-- 01, the table's rows 11 and 12: a row's refusal by what its field reads as, 0 where there is none
abbrev pub read_refusal : RowRead → ℕ
read_refusal (Ok cell) = 0
read_refusal (Err Malformed) = field
read_refusal (Err OutOfRange) = range

-- 01, the table's rows 11 and 12: row k's refusal in reading
abbrev pub refusal_read : List Row → List ℕ → ℕ → ℕ
refusal_read rows bytes k = read_refusal (row_read rows bytes k)

-- 01, the order of checks: row i of so many is refused with this number, and no row in front of it is refused
pub record FirstAt (refusal : ℕ → ℕ) (count number i : ℕ) : Type 0 where
  pub within : i < count
  pub refused : refusal i ≡ number
  pub none_before : (k : ℕ) → k < i → refusal k ≡ 0

-- 01, the order of checks: a verdict on so many rows, given each row's refusal
abbrev pub FirstBad : (ℕ → ℕ) → ℕ → Verdict → Type 0
FirstBad refusal count (Ok good) = (k : ℕ) → k < count → refusal k ≡ 0
FirstBad refusal count (Err (FieldAt i)) = FirstAt refusal count field i
FirstBad refusal count (Err (RangeAt i)) = FirstAt refusal count range i
