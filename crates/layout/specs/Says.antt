-- The field of a row, and what it says, in the paper's words: 01 "The message", "Numbers in text", and the table's rows 11 and 12.
use Rattle.std.specs.Prelude.{ℕ, ◌≤◌, ◌≡◌, true, false, List, ◌⊎◌, get_or, take, drop, Ok, Err}
use Rattle.decimal.specs.declared.FieldFault.TheVariants.{Malformed, OutOfRange}
use Rattle.layout.specs.Answers.{RowRead}
use Rattle.wire.specs.Number.{number_at}
use Rattle.decimal.specs.declared.Kind.{Kind}
use Rattle.decimal.specs.Denotes.{Shape, Denotes, AllSpaces}
use Rattle.decimal.specs.Kinds.{price, quantity, turnover, difference}
use Rattle.scan.specs.Answers.{Beyond}
use Rattle.forms.specs.declared.rows.Markets.{Markets}
use Rattle.forms.specs.declared.rows.Markets.TheVariants.{Normal, Any}
use Rattle.forms.specs.declared.rows.Row.{Row}
use Rattle.forms.specs.declared.rows.Row.TheVariants.{Key, MarketType, Status, Price, Quantity, Turnover, Difference}
use Rattle.decimal.specs.declared.Held.{Held}
use Rattle.decimal.specs.declared.Held.TheVariants.{Nothing, Units, Below}
use Rattle.layout.specs.Cells.{cell_of}
use Rattle.forms.specs.Rows.{width_of, offset_of}

-- 01 "The message": a letter's field is its one byte
abbrev pub letter_in : List ℕ → ℕ
letter_in field = number_at 1 field 0

-- 01 "The message": a letter that the row takes is its cell; every other is 11, and none is too large or too fine
abbrev pub LetterSays : (ℕ → Type 0) → ℕ → RowRead → Type 0
LetterSays Takes letter (Ok cell) = Takes letter × (cell ≡ letter)
LetterSays Takes letter (Err Malformed) = Takes letter → ⊥
LetterSays Takes letter (Err OutOfRange) = ⊥

-- 01 "The message": market type 'N'; M-104: 'N', 'O', 'S' or 'A'
abbrev pub IsMarketType : Markets → ℕ → Type 0
IsMarketType Normal letter = letter ≡ 78
IsMarketType Any letter = (letter ≡ 78) ⊎ ((letter ≡ 79) ⊎ ((letter ≡ 83) ⊎ (letter ≡ 65)))

-- 01 "The message": status is 'S' or space
abbrev pub IsStatus : ℕ → Type 0
IsStatus letter = (letter ≡ 83) ⊎ (letter ≡ 32)

-- demand 2, and 01 "Numbers in text": what a field says of the number in it: "none" where it is all spaces; so many units, or (M-100)
-- so many below zero, where that is what its text denotes, and they are in range
abbrev pub HeldSays : Kind → List ℕ → Held → Type 0
HeldSays kind field Nothing = AllSpaces field
HeldSays kind field (Units n) = Denotes kind field false n × (n ≤ kind.most)
HeldSays kind field (Below n) = Denotes kind field true n × (n ≤ kind.most)

-- 01 "Numbers in text" and the table's rows 11 and 12: the cell of the number that the field says; 11 where it has not the shape;
-- 12 where it is too fine or too large
abbrev pub NumberSays : Kind → List ℕ → RowRead → Type 0
NumberSays kind field (Ok cell) = (held : Held) × HeldSays kind field held × (cell ≡ cell_of held)
NumberSays kind field (Err Malformed) = (AllSpaces field → ⊥) × (Shape kind field → ⊥)
NumberSays kind field (Err OutOfRange) = (s : Shape kind field) × Beyond kind s

-- 01 "The message": what one row's field says; a key's text is only looked up, and its cell is 0
abbrev pub RowSays : Row → List ℕ → RowRead → Type 0
RowSays (Key width) field (Ok cell) = cell ≡ 0
RowSays (Key width) field (Err Malformed) = ⊥
RowSays (Key width) field (Err OutOfRange) = ⊥
RowSays (MarketType markets) field answer = LetterSays (IsMarketType markets) (letter_in field) answer
RowSays Status field answer = LetterSays IsStatus (letter_in field) answer
RowSays (Price width) field answer = NumberSays price field answer
RowSays (Quantity width) field answer = NumberSays quantity field answer
RowSays (Turnover width) field answer = NumberSays turnover field answer
RowSays (Difference width) field answer = NumberSays difference field answer

-- 01 "What may be asked": rows count from 0 as laid out
abbrev pub row_at : List Row → ℕ → Row
row_at rows k = get_or rows k (Key 0)

-- 01 "What may be asked": every field of the data is one row: the bytes of row k
abbrev pub field_at : List Row → List ℕ → ℕ → List ℕ
field_at rows bytes k = take (width_of (row_at rows k)) (drop (offset_of rows k) bytes)
