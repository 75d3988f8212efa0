-- What a cell holds: one number for each row of an update; and what a row takes of the key, which has no cell.
use Rattle.std.specs.Prelude.{ℕ, ◌+◌, ◌^◌, ◌-◌, ◌<◌, Bool, true, cond, List, ◌++◌, eqb, leb, ltb, length, replicate}
use Rattle.decimal.specs.Denotes.{below_zero}
use Rattle.forms.specs.Sizes.{most_rows}
use Rattle.decimal.specs.declared.Held.{Held}
use Rattle.decimal.specs.declared.Held.TheVariants.{Nothing, Units, Below}
use Rattle.forms.specs.declared.forms.Session.{Session}
use Rattle.forms.specs.declared.forms.Session.TheVariants.{Normal, PreOpen}
use Rattle.forms.specs.declared.rows.Row.{Row}
use Rattle.forms.specs.declared.rows.Row.TheVariants.{Key, MarketType, Status, Price, Quantity, Turnover, Difference}

-- lent memory: what a cell holds for "none" is all ones
abbrev pub none : ℕ
none = 2 ^ 64 - 1

-- M-100: the minus of a cell is its top bit, where its row has a sign
abbrev pub minus : ℕ
minus = 2 ^ 63

-- M-100: so many units, or so many below zero: minus zero is zero
abbrev pub sided : Bool → ℕ → Held
sided below n = cond (below_zero below n) (Below n) (Units n)

-- M-100: a cell with the minus is so many below zero, any other so many units
abbrev pub side_in : ℕ → Held
side_in cell = cond (ltb cell minus) (Units cell) (sided true (cell - minus))

-- lent memory, 01 "Numbers in text" ("none" differs from zero): the meaning of a cell: all ones is none; every other number is that
-- amount, or where the row has a sign an amount on its side of zero
abbrev pub held_in : Bool → ℕ → Held
held_in signed cell = cond (eqb cell none) Nothing (cond signed (side_in cell) (Units cell))

-- lent memory: what has a cell: every amount that is in its kind's range is among these
abbrev pub Small : Held → Type 0
Small Nothing = Unit {0}
Small (Units n) = n < minus - 2
Small (Below n) = n < minus - 2

-- lent memory: the cell of a number that was read, which is in range: an amount's own, below zero with the minus beside it
abbrev pub cell_of : Held → ℕ
cell_of Nothing = none
cell_of (Units n) = n
cell_of (Below n) = minus + n

-- M-104: a record says which session wrote it: 0 normal, 1 pre-open
abbrev pub session_cell : Session → ℕ
session_cell Normal = 0
session_cell PreOpen = 1

-- M-104: a session's cell of 1 reads as pre-open, any other as normal
abbrev pub session_in : ℕ → Session
session_in cell = cond (eqb cell 1) PreOpen Normal

-- lent memory: a letter's cell holds its byte; any larger number counts as 0
abbrev pub byte_in : ℕ → ℕ
byte_in cell = cond (leb cell 255) cell 0

-- lent memory: cells with zeros behind them, as many as the most rows of a form
abbrev pub zeros_behind : List ℕ → List ℕ
zeros_behind cells = cells ++ replicate (most_rows - length cells) 0

-- 01 "The message": what a row takes of the key
abbrev pub key_used : Row → ℕ
key_used (Key width) = width
key_used (MarketType markets) = 0
key_used Status = 0
key_used (Price width) = 0
key_used (Quantity width) = 0
key_used (Turnover width) = 0
key_used (Difference width) = 0
