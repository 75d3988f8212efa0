-- The row that a writer's refusal names: the first bad one. 01, the writer's order of checks: 11 and 12 by row.
use Rattle.std.specs.Prelude.{ℕ, List, get_or, take, drop}
use Rattle.forms.specs.declared.rows.Row.{Row}
use Rattle.forms.specs.Rows.{total}
use Rattle.layout.specs.Cells.{key_used}
use Rattle.layout.specs.Says.{row_at}
use Rattle.compose.specs.Write.{RowText, row_text, write_refusal}

-- 01 "The message": what row k is to hold, from the bytes of the key that the rows in front leave and from its value
abbrev pub row_written : List Row → List ℕ → List ℕ → ℕ → RowText
row_written rows key values k = row_text (row_at rows k) (drop (total key_used (take k rows)) key) (get_or values k 0)

-- 01, the table's rows 11 and 12: row k's refusal in writing
abbrev pub refusal_written : List Row → List ℕ → List ℕ → ℕ → ℕ
refusal_written rows key values k = write_refusal (row_written rows key values k)
