-- Rows of data, whatever the form: 01 "The message".
use Rattle.std.specs.Prelude.{ℕ, ◌+◌, ◌-◌, List, [], ◌∷◌, ◌++◌, length, replicate, take}
use Rattle.forms.specs.declared.rows.Row.{Row}
use Rattle.forms.specs.declared.rows.Row.TheVariants.{Key, MarketType, Status, Price, Difference, Quantity, Turnover}
use Rattle.forms.specs.Sizes.{most_rows, bare_length}

-- 01 "The message": the width of a row's field
abbrev pub width_of : Row → ℕ
width_of (Key width) = width
width_of (MarketType markets) = 1
width_of Status = 1
width_of (Price width) = width
width_of (Difference width) = width
width_of (Quantity width) = width
width_of (Turnover width) = width

-- a word of our own: what rows have of something, added up
abbrev pub total : (Row → ℕ) → List Row → ℕ
total each [] = 0
total each (row ∷ rows) = each row + total each rows

-- 01 "The message": the sum of the data widths
abbrev pub data_length : List Row → ℕ
data_length rows = total width_of rows

-- 01 "The message": the sum of the data widths plus 11
abbrev pub message_length : List Row → ℕ
message_length rows = data_length rows + bare_length

-- 01 "The message": where row i begins in the data
abbrev pub offset_of : List Row → ℕ → ℕ
offset_of rows i = data_length (take i rows)

-- 01 "The message": the bytes of the key with which rows begin
abbrev pub key_in_front : List Row → ℕ
key_in_front [] = 0
key_in_front (Key width ∷ rows) = width + key_in_front rows
key_in_front (MarketType markets ∷ rows) = 0
key_in_front (Status ∷ rows) = 0
key_in_front (Price width ∷ rows) = 0
key_in_front (Difference width ∷ rows) = 0
key_in_front (Quantity width ∷ rows) = 0
key_in_front (Turnover width ∷ rows) = 0

-- a word of our own: rows with empty ones behind them, as many as the longest form has
abbrev pub padded : List Row → List Row
padded rows = rows ++ replicate (most_rows - length rows) (Key 0)
