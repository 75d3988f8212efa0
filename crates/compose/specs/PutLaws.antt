-- Laws of putting one row into its field: what each way of the code answers is what the row's text asks.
use Rattle.std.specs.Prelude.{ℕ, ◌≤◌, ◌<◌, ◌≡◌, refl, Bool, true, false, List, [], ◌∷◌, length, take, set, Ok, Err}
use Rattle.decimal.specs.declared.FieldFault.{FieldFault}
use Rattle.decimal.specs.declared.FieldFault.TheVariants.{Malformed, OutOfRange}
use Rattle.layout.specs.Read.{bad_row}
use Rattle.std.proofs.Common.{ap, sym, ◌∙◌, append-nil, arith, le-leb, drop_of_length-le, take_all}
use Rattle.std.proofs.lemmas.Bool.{lt-leb}
use Rattle.laws.specs.Refused.{field_no, range_no}
use Rattle.print.specs.Write.{Written, filled, refused, Put, Wrote, put_number}
use Rattle.decimal.specs.declared.Held.{Held}
use Rattle.forms.specs.declared.rows.Row.{Row}
use Rattle.decimal.specs.declared.Kind.{Kind}
use Rattle.forms.specs.Rows.{width_of}
use Rattle.compose.specs.Write.{PutsRow, row_text, held_text, of_written, write_refusal, RowText, text, malformed, out_of_range, key_text, letter_text, over_front, Laid, text_then}
use Rattle.wire.specs.Bytes.{all_printable}

-- bytes that fill a field are all that it holds
pub laid_whole : (bytes field : List ℕ) → length bytes ≡ length field → over_front bytes field ≡ bytes
laid_whole bytes field e =
    rw (take_all (length field) bytes (omega arith), drop_of_length-le field {i = length bytes} (omega arith)) (append-nil bytes)

-- what is malformed leaves the field
pub refuses : {t : RowText} (before : List ℕ) → t ≡ malformed → PutsRow t before (Err Malformed) before
refuses before e = rw e (record { answers = refl; leaves = refl })

-- ---- a letter

pub one_byte : (field : List ℕ) (byte : ℕ) → length field ≡ 1 → set field 0 byte ≡ byte ∷ []
one_byte [] byte e = absurd (omega arith)
one_byte (b ∷ []) byte e = refl
one_byte (b ∷ c ∷ field) byte e = absurd (omega arith)

module _ (taken : ℕ → Bool) (value : ℕ) where
  pub letter_good : (letter : ℕ) → value ≡ letter → taken letter ≡ true → letter_text taken value ≡ text (letter ∷ [])
  letter_good letter e t = rw (e, t)

  pub letter_bad : taken value ≡ false → letter_text taken value ≡ malformed
  letter_bad t = rw t

-- ---- a part of the key

pub key_short : (width : ℕ) (key : List ℕ) → length key < width → key_text width key ≡ malformed
key_short width key h = simp (lt-leb width (length key) h)

module _ (width : ℕ) (key : List ℕ) (room : width ≤ length key) where
  pub key_bad : all_printable (take width key) ≡ false → key_text width key ≡ malformed
  key_bad e = simp (le-leb width (length key) room, e)

  pub key_good : all_printable (take width key) ≡ true → key_text width key ≡ text (take width key)
  key_good e = simp (le-leb width (length key) room, e)

-- ---- a number

-- what the number writer does to a field is what the row asks
pub put_number_lem : (w : Written) {before after : List ℕ} {put : Put} {answer : Put} → put_number answer ≡ put_number put
    → Wrote w before put after → PutsRow (of_written w) before answer after
put_number_lem (filled characters) same p = record { answers = same ∙ p.answers; leaves = p.leaves }
put_number_lem refused same p = record { answers = same ∙ p.answers; leaves = p.leaves }

-- a row of numbers, from what its kind's writer does to its field
pub puts_number : (row : Row) (key : List ℕ) (value : ℕ) (held : Held) (kind : Kind) {before after : List ℕ} {answer : Put} → length before ≡ width_of row
    → row_text row key value ≡ held_text kind (width_of row) held → PutsRow (held_text kind (length before) held) before answer after
    → PutsRow (row_text row key value) before answer after
puts_number row key value held kind fits is_number p = rw (is_number, ← fits) p

-- ---- what one row's answer tells of its text

pub fits_text : (t : RowText) {before after : List ℕ} {answer : Put} → PutsRow t before answer after → answer ≡ Ok tt → t ≡ text after
fits_text (text characters) p e = ap text (sym p.leaves)
fits_text malformed p e = absurd (omega (arith, p.answers, ap put_number e))
fits_text out_of_range p e = absurd (omega (arith, p.answers, ap put_number e))

pub field_text : (t : RowText) → write_refusal t ≡ field_no → t ≡ malformed
field_text (text characters) e = absurd (omega arith)
field_text malformed e = refl
field_text out_of_range e = absurd (omega arith)

pub range_text : (t : RowText) → write_refusal t ≡ range_no → t ≡ out_of_range
range_text (text characters) e = absurd (omega arith)
range_text malformed e = absurd (omega arith)
range_text out_of_range e = refl

-- a refused row ends the writing at its place
pub refused_then : (t : RowText) (fault : FieldFault) {before after : List ℕ} {answer : Put} → PutsRow t before answer after → answer ≡ Err fault → (i : ℕ) (rest : Laid)
    → text_then t i rest ≡ record { bytes = []; verdict = Err (bad_row fault i) }
refused_then t Malformed p e i rest = rw (field_text t (sym p.answers ∙ ap put_number e)) refl
refused_then t OutOfRange p e i rest = rw (range_text t (sym p.answers ∙ ap put_number e)) refl
