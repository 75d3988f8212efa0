-- The answers of this crate in the paper's numbers: 0 and the values where nothing is refused, or the refusal's number.
use Rattle.std.specs.Prelude.{ℕ, List, [], ◌∷◌, Result, Ok, Err}
use Rattle.layout.specs.declared.read.BadRow.{BadRow}
use Rattle.layout.specs.declared.read.BadRow.TheVariants.{Field as FieldAt, Range as RangeAt}
use Rattle.decimal.specs.declared.FieldFault.{FieldFault}
use Rattle.decimal.specs.declared.FieldFault.TheVariants.{Malformed, OutOfRange}
use Rattle.laws.specs.Refused.{field_no, range_no}

-- 01, the table's rows 11 and 12: a row's field as read: its cell, or what is wrong with it
abbrev pub RowRead : Type 0
RowRead = Result ℕ FieldFault

-- 01, the table's rows 11 and 12: all rows are good, or the first bad one
abbrev pub Verdict : Type 0
Verdict = Result (Unit {0}) BadRow

-- 01, the table's rows 11 and 12: what a row's field reads as: its cell, or the refusal
abbrev pub row_numbers : RowRead → List ℕ
row_numbers (Ok cell) = 0 ∷ cell ∷ []
row_numbers (Err Malformed) = field_no ∷ []
row_numbers (Err OutOfRange) = range_no ∷ []

-- 01, the table's rows 11 and 12: the verdict on rows: a refusal returns the row besides
abbrev pub verdict_numbers : Verdict → List ℕ
verdict_numbers (Ok good) = 0 ∷ []
verdict_numbers (Err (FieldAt row)) = field_no ∷ row ∷ []
verdict_numbers (Err (RangeAt row)) = range_no ∷ row ∷ []
