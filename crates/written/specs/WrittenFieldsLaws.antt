-- The fields of a written message are those that it was written from, its rows' too.
use Rattle.std.specs.Prelude.{ℕ, zero, suc, ◌+◌, ◌-◌, ◌^◌, ◌<◌, ◌≡◌, List, [], ◌∷◌, ◌++◌, drop, Ok}
use Rattle.std.proofs.Math.Path.{refl, ap, ◌∙◌}
use Rattle.std.proofs.Common.{ap₂, sym, inr, length-append, drop-drop, get_or-append-add, get_or-drop}
use native.Mathlib.Omega.{arith}
use Rattle.std.proofs.Math.Nat.{mod-eq_of_lt}
use Rattle.std.proofs.Math.ListN.{length, get_or, take}
use Rattle.std.proofs.Math.Seq.{take_at, drop-append-add}
use Rattle.checksum.specs.Checksum.{checksum_of}
use Rattle.wire.specs.Number.{number_at}
use Rattle.wire.specs.NumberLaws.{read_back}
use Rattle.forms.specs.declared.rows.Row.{Row}
use Rattle.forms.specs.declared.forms.Form.{Form}
use Rattle.forms.specs.declared.forms.Named.TheVariants as is
use Rattle.forms.specs.declared.forms.Sum.{Sum}
use Rattle.forms.specs.declared.forms.Sum.TheVariants.{Zero, Right, RightOrZero}
use Rattle.forms.specs.Forms.{form_of, sum_rule}
use Rattle.forms.specs.Rows.{width_of, total, offset_of}
use Rattle.forms.specs.Sizes.{bare_length}
use Rattle.layout.specs.Cells.{key_used}
use Rattle.layout.specs.Says.{row_at, field_at}
use Rattle.compose.specs.FirstBad.{row_written}
use Rattle.compose.specs.RowTextLaws.{text_width}
use Rattle.compose.specs.Write.{Laid, text, row_text, write_rows}
use Rattle.compose.specs.WriteLaws.{GoodRow, good_row}
use Rattle.head.specs.Fields.{letter_of, segment_letter, segment_letter_of, second_of, length_of, number_of, data_of, sum_sent, end_byte, form_in, sum_in, right_sum}
use Rattle.head.specs.GoodHead.{HasSum}
use Rattle.writer.specs.declared.writing.Code.{Code}
use Rattle.writer.specs.Writer.{head_bytes, before_trailer, sum_written, message_bytes}
use Rattle.writer.specs.WriterLaws.{message_long}

byte_behind : (front back : List ℕ) (k : ℕ) → number_at 1 (front ++ back) (length front + k) ≡ get_or back k 0
byte_behind front back k =
    let one : number_at 1 (front ++ back) (length front + k) ≡ get_or (front ++ back) (length front + k) 0 = omega arith in
    one ∙ get_or-append-add front back k 0

-- a trailer is the sum, and behind it the end byte
abbrev trailer : Sum → List ℕ → List ℕ
trailer sum before = sum_written sum before ++ (13 ∷ [])

trails : (sum : Sum) (before : List ℕ)
    → (get_or (trailer sum before) 0 0 ∷ get_or (trailer sum before) 1 0 ∷ [] ≡ sum_written sum before) × (get_or (trailer sum before) 2 0 ≡ 13)
trails Zero before = (refl, refl)
trails Right before = (refl, refl)
trails RightOrZero before = (refl, refl)

-- the sum that is written is one that the table takes
sum_taken : (sum : Sum) (before : List ℕ) → HasSum sum (sum_written sum before) (checksum_of before)
sum_taken Zero before = refl
sum_taken Right before = refl
sum_taken RightOrZero before = inr refl

module _ (code : Code) (number : ℕ) (bytes : List ℕ) where
  abbrev m : List ℕ
  m = message_bytes code number bytes

  abbrev before : List ℕ
  before = before_trailer code number bytes

  abbrev whole : ℕ
  whole = length bytes + bare_length

  pub letter_written : letter_of m ≡ code.0
  unfolding message_bytes letter_of
  letter_written = omega arith

  -- M-104: it belongs to the segment of its letter
  pub segment_written : segment_letter_of m ≡ segment_letter code.0
  unfolding segment_letter_of
  segment_written = ap segment_letter letter_written

  pub second_written : second_of m ≡ code.1
  unfolding message_bytes second_of
  second_written = omega arith

  pub number_written : number < 2 ^ 32 → number_of m ≡ number
  unfolding message_bytes number_of
  number_written small =
      read_back 4 number m 4 (omega (arith, message_long code number bytes)) ∙ mod-eq_of_lt small

  module _ (short : whole < 2 ^ 16) where
    pub length_written_lem : length_of m ≡ whole
    unfolding message_bytes length_of
    length_written_lem = read_back 2 whole m 2 (omega (arith, message_long code number bytes)) ∙ mod-eq_of_lt short

    pub data_written_lem : data_of m ≡ bytes
    unfolding message_bytes data_of
    data_written_lem =
        let n : length_of m - bare_length ≡ length bytes = omega (arith, length_written_lem) in
        ap (λ (k : ℕ). take k (drop 8 m)) n ∙ take_at bytes _ (length bytes) refl

    before_long : length before ≡ whole - 3
    before_long = length-append (head_bytes code whole number) bytes ∙ omega arith

    -- its sum is over all bytes before the trailer
    pub right_written : right_sum m ≡ checksum_of before
    unfolding message_bytes right_sum
    right_written = ap (λ (k : ℕ). checksum_of (take (k - 3) m)) length_written_lem ∙ ap checksum_of (take_at before _ (whole - 3) before_long)

    -- code and length name the form
    pub form_written_lem : (form : Form) → form_of code.0 code.1 whole ≡ is.Form form → form_in m ≡ is.Form form
    unfolding form_in
    form_written_lem form e = rw (letter_written, second_written, length_written_lem) e

    abbrev sum : Sum
    sum = sum_rule code.0 code.1

    -- the trailer, byte by byte
    behind : (at k : ℕ) → at ≡ whole - 3 + k → number_at 1 m at ≡ get_or (trailer sum before) k 0
    unfolding message_bytes
    behind at k e =
        ap (number_at 1 m) (e ∙ ap (λ (n : ℕ). n + k) (sym before_long)) ∙ byte_behind before (trailer sum before) k

    pub end_written : end_byte m ≡ 13
    unfolding end_byte
    end_written = behind (length_of m - 1) 2 (omega (arith, length_written_lem)) ∙ (trails sum before).1

    sent_is : sum_sent m ≡ sum_written sum before
    unfolding sum_sent
    sent_is =
        let first = behind (length_of m - 3) 0 (omega (arith, length_written_lem)) in
        let second = behind (length_of m - 2) 1 (omega (arith, length_written_lem)) in
        ◌∙◌ {b = get_or (trailer sum before) 0 0 ∷ get_or (trailer sum before) 1 0 ∷ []} (λ i. first i ∷ second i ∷ [])
        (trails sum before).0

    rule_is : sum_in m ≡ sum
    unfolding sum_in
    rule_is = rw (letter_written, second_written)

    -- it carries the sum that its code has
    pub sum_written_lem : HasSum (sum_in m) (sum_sent m) (right_sum m)
    sum_written_lem = rw (rule_is, sent_is, right_written) (sum_taken sum before)

-- ---- the field of a row

field_behind : (row : Row) (rows : List Row) (characters rest : List ℕ) (k : ℕ) → length characters ≡ width_of row
    → field_at (row ∷ rows) (characters ++ rest) (suc k) ≡ field_at rows rest k
field_behind row rows characters rest k e =
    ap (take (width_of (row_at rows k)))
    (ap (λ (n : ℕ). drop (n + offset_of rows k) (characters ++ rest)) (sym e) ∙ drop-append-add characters rest (offset_of rows k))

-- in a good writing each row's field holds its text
pub field_written : (i : ℕ) (rows : List Row) (key values : List ℕ) → (write_rows i rows key values).verdict ≡ Ok tt → (k : ℕ) → k < length rows
    → row_written rows key values k ≡ text (field_at rows (write_rows i rows key values).bytes k)
field_written i [] key values good k h = absurd (omega arith)
field_written i (row ∷ rows) key values good zero h =
    let rest : Laid = write_rows (suc i) rows (drop (key_used row) key) (drop 1 values) in
    let g : GoodRow (row_text row key (get_or values 0 0)) i rest = good_row (row_text row key (get_or values 0 0)) i rest good in
    let wide = text_width row key (get_or values 0 0) g.is_text in
    g.is_text ∙ ap text (sym (ap (take (width_of row)) g.bytes_are ∙ take_at g.characters rest.bytes (width_of row) wide))
field_written i (row ∷ rows) key values good (suc k) h =
    let rest : Laid = write_rows (suc i) rows (drop (key_used row) key) (drop 1 values) in
    let g : GoodRow (row_text row key (get_or values 0 0)) i rest = good_row (row_text row key (get_or values 0 0)) i rest good in
    let wide = text_width row key (get_or values 0 0) g.is_text in
    let next : suc k ≡ 1 + k = omega arith in
    ap₂ (row_text (row_at rows k)) (sym (drop-drop (total key_used (take k rows)) (key_used row) key)) (ap (λ (n : ℕ). get_or values n 0) next ∙ sym (get_or-drop 1 values k 0))
    ∙ field_written (suc i) rows (drop (key_used row) key) (drop 1 values) g.rest_good k (omega arith)
    ∙ ap text (sym (ap (λ (b : List ℕ). field_at (row ∷ rows) b (suc k)) g.bytes_are ∙ field_behind row rows g.characters rest.bytes k wide))
