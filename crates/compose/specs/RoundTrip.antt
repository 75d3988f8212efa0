-- What is written reads back: the cells are the values that were written, and the key stands in front.
use Rattle.std.specs.Prelude.{ℕ, suc, ◌+◌, ◌-◌, ◌≤◌, ◌<◌, ◌≡◌, refl, Bool, true, false, List, [], ◌∷◌, ◌++◌, length, get_or, take, drop, Ok}
use Rattle.std.proofs.Common.{ap, sym, ◌∙◌, arith, ne_eqb, lit<, length-drop, take_at, drop_at, take-add, length-take-le}
use Rattle.std.proofs.Math.Bool.{and-eq-true_iff}
use Rattle.std.proofs.Math.Seq.{take-append-add}
use Rattle.wire.specs.Number.{number_at}
use Rattle.amount.specs.ReadBack.{reads_back, none_reads_back}
use Rattle.print.specs.Write.{blank_text}
use Rattle.print.proofs.WriteTexts.{fills_right}
use Rattle.decimal.specs.declared.Held.{Held}
use Rattle.decimal.specs.declared.Held.TheVariants.{Nothing, Units, Below}
use Rattle.forms.specs.declared.rows.Row.{Row}
use Rattle.forms.specs.declared.rows.Row.TheVariants.{Key, MarketType, Status, Price, Quantity, Turnover, Difference}
use Rattle.decimal.specs.declared.Kind.{Kind}
use Rattle.decimal.specs.Kinds.{price, quantity, turnover, difference}
use Rattle.forms.specs.declared.rows.Level.{Level}
use Rattle.forms.specs.declared.forms.Form.{Form}
use Rattle.forms.specs.declared.forms.Item.{Item}
use Rattle.forms.specs.declared.forms.Subject.TheVariants.{Of}
use Rattle.forms.specs.Rows.{width_of, key_in_front}
use Rattle.forms.specs.Forms.{rows_of, subject_of, key_bytes_of}
use Rattle.forms.specs.FormsLaws.{key_first}
use Rattle.layout.specs.Cells.{minus, key_used}
use Rattle.layout.specs.CellsLaws.{byte_back, MayHold, holds_so}
use Rattle.layout.specs.Plain.{value_of, held_of, letter_of, seen_value, seen_values}
use Rattle.layout.specs.PlainLaws.{value_back_lem, has_value}
use Rattle.layout.specs.Read.{is_market_type, is_status, letter_cell, read_row, number_cell, read_rows}
use Rattle.compose.specs.Write.{text, row_text, held_text, letter_text, Laid, write_rows}
use Rattle.wire.specs.Bytes.{printable, all_printable}
use Rattle.compose.specs.RowTextLaws.{market_small, status_small, key_is, letter_is, filled_is, text_width}
use Rattle.compose.specs.WriteLaws.{GoodRow, good_row}

-- ---- the values

letter_back : (taken : ℕ → Bool) → ((byte : ℕ) → taken byte ≡ true → byte < 256) → (value : ℕ) {t : List ℕ} → letter_text taken value ≡ text t
    → letter_cell taken (number_at 1 t 0) ≡ Ok (letter_of value)
letter_back taken small value {t} e =
    let l = letter_is taken value e in
    let byte : number_at 1 (value ∷ []) 0 ≡ value = omega arith in
    rw (l.1, byte, l.0, byte_back value (small value l.0))

-- ---- the rows

number_back : (kind : Kind) → kind.most < minus - 2 → (width : ℕ) (held : Held) → MayHold kind.signed held → {t : List ℕ} → held_text kind width held ≡ text t
    → number_cell kind t ≡ Ok (value_of kind.signed held)
number_back kind small width Nothing may {t} e =
    let same : t ≡ blank_text width = cc in
    rw (same, none_reads_back kind width)
number_back kind small width (Units n) may {t} e =
    let most : n ≤ kind.most = (fills_right kind width false n t (filled_is _ e)).small in
    rw (reads_back kind width false n t (filled_is _ e), has_value kind.signed (Units n) (omega arith))
number_back kind small width (Below n) may {t} e =
    let most : n ≤ kind.most = (fills_right kind width true n t (filled_is _ e)).small in
    rw (reads_back kind width true n t (filled_is _ e), ne_eqb n 0 (λ z. omega (arith, may.1)), has_value kind.signed (Below n) (omega arith))

row_back : (row : Row) (key : List ℕ) (value : ℕ) {t : List ℕ} → row_text row key value ≡ text t → read_row row t ≡ Ok (seen_value row value)
unfolding row_text read_row
row_back (Key width) key value e = refl
row_back (MarketType markets) key value e = letter_back (is_market_type markets) (market_small markets) value e
row_back Status key value e = letter_back is_status status_small value e
row_back (Price width) key value e = number_back price (lit< tt) width (held_of false value) (holds_so false value) e ∙ ap Ok (value_back_lem value)
row_back (Quantity width) key value e = number_back quantity (lit< tt) width (held_of false value) (holds_so false value) e ∙ ap Ok (value_back_lem value)
row_back (Turnover width) key value e = number_back turnover (lit< tt) width (held_of false value) (holds_so false value) e ∙ ap Ok (value_back_lem value)
row_back (Difference width) key value e = number_back difference (lit< tt) width (held_of true value) (holds_so true value) e

-- whatever the layout
pub rows_back : (i : ℕ) (rows : List Row) (key values : List ℕ) → (write_rows i rows key values).verdict ≡ Ok tt
    → read_rows i rows (write_rows i rows key values).bytes ≡ record { cells = seen_values rows values; verdict = Ok tt }
rows_back i [] key values good = refl
rows_back i (row ∷ rows) key values good =
    let rest : Laid = write_rows (suc i) rows (drop (key_used row) key) (drop 1 values) in
    let g : GoodRow (row_text row key (get_or values 0 0)) i rest = good_row (row_text row key (get_or values 0 0)) i rest good in
    let wide : length g.characters ≡ width_of row = text_width row key (get_or values 0 0) g.is_text in
    rw (g.bytes_are, take_at g.characters rest.bytes (width_of row) wide, drop_at g.characters rest.bytes (width_of row) wide, row_back row key (get_or values 0 0) g.is_text, rows_back (suc i) rows (drop (key_used row) key) (drop 1 values) g.rest_good)

-- ---- the key

printable_append : (s t : List ℕ) → all_printable s ≡ true → all_printable t ≡ true → all_printable (s ++ t) ≡ true
printable_append [] t p q = q
printable_append (b ∷ s) t p q =
    let both = (and-eq-true_iff (printable b) (all_printable s)).0 p in
    (and-eq-true_iff (printable b) (all_printable (s ++ t))).1 (both.0, printable_append s t both.1 q)

-- 01 "The message": the rows of the key stand in front, and its bytes may be written
pub record KeyInFront (size : ℕ) (key bytes : List ℕ) : Type 0 where
  pub has_it : size ≤ length key
  pub may_be_written : all_printable (take size key) ≡ true
  pub stands : take size bytes ≡ take size key

no_key : (key bytes : List ℕ) → KeyInFront 0 key bytes
no_key key bytes = record { has_it = omega arith; may_be_written = refl; stands = refl }

-- whatever the form
pub key_in_front_lem : (i : ℕ) (rows : List Row) (key values : List ℕ) → (write_rows i rows key values).verdict ≡ Ok tt
    → KeyInFront (key_in_front rows) key (write_rows i rows key values).bytes
unfolding row_text
key_in_front_lem i [] key values good = no_key key []
key_in_front_lem i (Key width ∷ rows) key values good =
    let rest : Laid = write_rows (suc i) rows (drop width key) (drop 1 values) in
    let g : GoodRow (row_text (Key width) key (get_or values 0 0)) i rest = good_row (row_text (Key width) key (get_or values 0 0)) i rest good in
    let k = key_is width key g.is_text in
    let n : ℕ = key_in_front rows in
    let later : KeyInFront n (drop width key) rest.bytes = key_in_front_lem (suc i) rows (drop width key) (drop 1 values) g.rest_good in
    let wide : length (take width key) ≡ width = length-take-le width key k.0 in
    let front : take (width + n) (take width key ++ rest.bytes) ≡ take width key ++ take n rest.bytes =
    rw wide at (take-append-add (take width key) rest.bytes n) in
    record {
      has_it = omega (arith, k.0, later.has_it, length-drop width key);
      may_be_written = rw (take-add width n key) (printable_append (take width key) (take n (drop width key)) k.1 later.may_be_written);
      stands = rw (g.bytes_are, k.2, front, later.stands) (sym (take-add width n key));
    }
key_in_front_lem i (MarketType markets ∷ rows) key values good = no_key key _
key_in_front_lem i (Status ∷ rows) key values good = no_key key _
key_in_front_lem i (Price width ∷ rows) key values good = no_key key _
key_in_front_lem i (Quantity width ∷ rows) key values good = no_key key _
key_in_front_lem i (Turnover width ∷ rows) key values good = no_key key _
key_in_front_lem i (Difference width ∷ rows) key values good = no_key key _

-- 01 "The message": the data of an update begins with its key
pub key_of_update : (form : Form) (item : Item) (level : Level) → subject_of form ≡ Of item level → (key values : List ℕ) → (write_rows 0 (rows_of form) key values).verdict ≡ Ok tt
    → KeyInFront (key_bytes_of item) key (write_rows 0 (rows_of form) key values).bytes
key_of_update form item level e key values good = rw (key_first form item level e).bytes_first at (key_in_front_lem 0 (rows_of form) key values good)
