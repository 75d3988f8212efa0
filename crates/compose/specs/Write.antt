-- Writing values into the data of an update: 01 "Numbers in text", and the writer's order of checks: 11 and 12 by row.
use Rattle.std.specs.Prelude.{ℕ, suc, ◌≡◌, Bool, true, false, cond, ◌&&◌, List, [], ◌∷◌, ◌++◌, leb, length, get_or, take, drop, Ok, Err}
use Rattle.layout.specs.declared.read.BadRow.TheVariants.{Field as FieldAt, Range as RangeAt}
use Rattle.laws.specs.Refused.{field_no, range_no}
use Rattle.wire.specs.Bytes.{all_printable}
use Rattle.print.specs.Write.{blank_text, Written, filled, refused, written_as, Put, put_number}
use Rattle.decimal.specs.declared.Held.{Held}
use Rattle.decimal.specs.declared.Held.TheVariants.{Nothing, Units, Below}
use Rattle.forms.specs.declared.rows.Row.{Row}
use Rattle.forms.specs.declared.rows.Row.TheVariants.{Key, MarketType, Status, Price, Quantity, Turnover, Difference}
use Rattle.decimal.specs.declared.Kind.{Kind}
use Rattle.decimal.specs.Kinds.{price, quantity, turnover, difference}
use Rattle.layout.specs.Answers.{verdict_numbers, Verdict}
use Rattle.layout.specs.Cells.{key_used}
use Rattle.layout.specs.Plain.{held_of}
use Rattle.layout.specs.Read.{is_market_type, is_status}

-- 01, the table's rows 11 and 12: what one row's field is to hold, or what is wrong with what is to be written
pub data RowText : Type 0 where
  text : List ℕ → RowText
  malformed : RowText
  out_of_range : RowText

-- 01 "The message": a part of the key, as it is
abbrev pub key_text : ℕ → List ℕ → RowText
key_text width key = cond (leb width (length key) && all_printable (take width key)) (text (take width key)) malformed

-- 01 "The message": a market type or a status, where it is one of those that the row takes
abbrev pub letter_text : (ℕ → Bool) → ℕ → RowText
letter_text taken letter = cond (taken letter) (text (letter ∷ [])) malformed

-- 01, the table's row 12: too large, or no text fits
abbrev pub of_written : Written → RowText
of_written (filled characters) = text characters
of_written refused = out_of_range

-- 01 "Numbers in text": a number, as its kind is written: "none" is all spaces
abbrev pub held_text : Kind → ℕ → Held → RowText
held_text kind width Nothing = text (blank_text width)
held_text kind width (Units n) = of_written (written_as kind width false n)
held_text kind width (Below n) = of_written (written_as kind width true n)

-- 01 "The message": the text of one row: from what is left of the key, or from the row's value
unfoldable pub row_text : Row → List ℕ → ℕ → RowText
row_text (Key width) key value = key_text width key
row_text (MarketType markets) key value = letter_text (is_market_type markets) value
row_text Status key value = letter_text is_status value
row_text (Price width) key value = held_text price width (held_of false value)
row_text (Quantity width) key value = held_text quantity width (held_of false value)
row_text (Turnover width) key value = held_text turnover width (held_of false value)
row_text (Difference width) key value = held_text difference width (held_of true value)

-- 01, the order of checks: what writing rows gives: the bytes of the good rows in front of the first bad one, and the
-- verdict
pub record Laid : Type 0 where
  pub bytes : List ℕ
  pub verdict : Verdict

-- 01, the order of checks: a good row's text stands in front of those of the rows behind it; a bad row ends the writing at
-- its place
abbrev pub text_then : RowText → ℕ → Laid → Laid
text_then (text characters) i rest = record { bytes = characters ++ rest.bytes; verdict = rest.verdict }
text_then malformed i rest = record { bytes = []; verdict = Err (FieldAt i) }
text_then out_of_range i rest = record { bytes = []; verdict = Err (RangeAt i) }

-- 01, the order of checks: the rows from row i on, in turn, a value each
abbrev pub write_rows : ℕ → List Row → List ℕ → List ℕ → Laid
write_rows i [] key values = record { bytes = []; verdict = Ok tt }
write_rows i (row ∷ rows) key values =
    text_then (row_text row key (get_or values 0 0)) i (write_rows (suc i) rows (drop (key_used row) key) (drop 1 values))

-- 01, the table's rows 11 and 12: a row's refusal by what it is to hold, 0 where there is none
abbrev pub write_refusal : RowText → ℕ
write_refusal (text characters) = 0
write_refusal malformed = field_no
write_refusal out_of_range = range_no

-- 01 "What may be asked": a refusal leaves the field as it was
abbrev pub field_after : RowText → List ℕ → List ℕ
field_after (text characters) before = characters
field_after malformed before = before
field_after out_of_range before = before

-- 01 "What may be asked": what the writer of one row promises: its answer, and the field afterwards
pub record PutsRow (t : RowText) (before : List ℕ) (answer : Put) (after : List ℕ) : Type 0 where
  pub answers : put_number answer ≡ write_refusal t
  pub leaves : after ≡ field_after t before

-- lent memory: bytes laid over the front of a field, as many as it has room for
abbrev pub over_front : List ℕ → List ℕ → List ℕ
over_front bytes field = take (length field) bytes ++ drop (length bytes) field

-- a word of our own: the answer of writing rows, and the lent bytes: those of the good rows stand in front
pub record WritesRows (rows : Laid) (answer : Verdict) (bytes : List ℕ) : Type 0 where
  pub answers : verdict_numbers answer ≡ verdict_numbers rows.verdict
  pub in_front : take (length rows.bytes) bytes ≡ rows.bytes

-- 01 "What may be asked": what a refusal leaves as it was
abbrev pub where_good : Verdict → List ℕ → List ℕ → List ℕ
where_good (Ok good) written before = written
where_good (Err bad) written before = before

-- 01 "What may be asked": the answer of writing an update, and the lent data: good rows are laid over its front, a refusal
-- changes no byte
pub record WritesUpdate (rows : Laid) (before : List ℕ) (answer : Verdict) (after : List ℕ) : Type 0 where
  pub answers : verdict_numbers answer ≡ verdict_numbers rows.verdict
  pub leaves : after ≡ where_good rows.verdict (over_front rows.bytes before) before
