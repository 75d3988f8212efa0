-- Laws of writing rows, over any rows: the writing goes on row by row, and a good one is as long as its rows are wide.
use Rattle.std.specs.Prelude.{ℕ, suc, ◌+◌, ◌-◌, min, ◌≤◌, ◌<◌, ◌≡◌, refl, List, [], ◌∷◌, ◌++◌, length, get_or, take, drop, Ok}
use Rattle.layout.specs.Answers.{Verdict}
use Rattle.std.proofs.Common.{ap, sym, ◌∙◌, append_assoc, append-nil, arith, add-zero, add-one, length-drop, length-append, drop_of_length-le, length-take-le, drop-cons, drop-drop, get_or-drop}
use Rattle.laws.specs.Lists.{drop_min}
use Rattle.forms.specs.declared.rows.Row.{Row}
use Rattle.forms.specs.declared.rows.Row.TheVariants.{Key}
use Rattle.forms.specs.Rows.{width_of, data_length}
use Rattle.forms.specs.Sizes.{most_data}
use Rattle.compose.specs.RowTextLaws.{text_width}
use Rattle.compose.specs.Write.{RowText, text, malformed, out_of_range, row_text, Laid, text_then, write_rows, WritesRows}
use Rattle.layout.specs.Cells.{key_used}

-- bytes written earlier stand in front
abbrev pub ahead : List ℕ → Laid → Laid
ahead front rest = record { bytes = front ++ rest.bytes; verdict = rest.verdict }

-- after i rows, `at` bytes and `used` bytes of the key: the bytes of those rows stand in front, and there is room for the rest
abbrev pub Writing : List Row → List ℕ → List ℕ → List ℕ → ℕ → ℕ → ℕ → Type 0
Writing rows key values bytes at used i =
    (used ≤ length key) × (length bytes ≡ most_data) × (at + data_length (drop i rows) ≤ most_data)
    × (write_rows 0 rows key values ≡ ahead (take at bytes) (write_rows i (drop i rows) (drop used key) (drop i values)))

-- the bytes in front are those of a writing that ends here
stands : (rows : List Row) (key values bytes : List ℕ) (at : ℕ) (bytes' : List ℕ) (verdict : Verdict) → at ≤ length bytes
    → write_rows 0 rows key values ≡ ahead (take at bytes) (record { bytes = []; verdict = verdict }) → take at bytes' ≡ take at bytes
    → WritesRows (write_rows 0 rows key values) verdict bytes'
stands rows key values bytes at bytes' verdict within e same =
    rw e (record { answers = refl; in_front = rw (append-nil (take at bytes), length-take-le at bytes within) same })

-- the next row, as the walk sees it
module _ (rows : List Row) (key values bytes : List ℕ) (at used i : ℕ) (more : i < length rows)
    (writing : Writing rows key values bytes at used i)
  where
    -- its field has room
    pub room : at + width_of (get_or rows i (Key 0)) + data_length (drop (suc i) rows) ≤ most_data
    room = omega (arith, rw (drop-cons rows i (Key 0) more) at writing.2)

    -- what is left to be written begins with this row
    pub this_text : {t : RowText} → row_text (get_or rows i (Key 0)) (drop used key) (get_or values i 0) ≡ t
        → write_rows 0 rows key values
        ≡ ahead (take at bytes) (text_then t i (write_rows (suc i) (drop (suc i) rows) (drop (key_used (get_or rows i (Key 0))) (drop used key)) (drop (suc i) values)))
    this_text {t} e =
        writing.3 ∙ rw (drop-cons rows i (Key 0) more, get_or-drop i values 0 0, drop-drop 1 i values, add-one i, add-zero i, e)

    -- a good row: its text stands behind those before it, and the writing goes on
    pub goes_on : (bytes' : List ℕ) (width taken : ℕ) {characters : List ℕ} → width ≡ width_of (get_or rows i (Key 0))
        → taken ≡ min (key_used (get_or rows i (Key 0))) (length key - used) → row_text (get_or rows i (Key 0)) (drop used key) (get_or values i 0) ≡ text characters
        → length bytes' ≡ most_data → take (at + width) bytes' ≡ take at bytes ++ characters
        → Writing rows key values bytes' (at + width) (used + taken) (i + 1)
    goes_on bytes' width taken is_width is_taken_lem e whole in_front =
        let left : length (drop used key) ≡ length key - used = length-drop used key in
        let key_left : drop (used + taken) key ≡ drop (key_used (get_or rows i (Key 0))) (drop used key) =
        sym (drop-drop taken used key) ∙ rw (is_taken_lem, ← left) (drop_min (key_used (get_or rows i (Key 0))) (drop used key)) in
        rw (add-one i)
        (omega (arith, is_taken_lem), whole, omega (arith, room), this_text e ∙ rw (key_left, in_front, append_assoc (take at bytes)))

    -- a bad row ends the writing
    pub stops : (bytes' : List ℕ) (verdict : Verdict) {t : RowText} → row_text (get_or rows i (Key 0)) (drop used key) (get_or values i 0) ≡ t
        → ((rest : Laid) → text_then t i rest ≡ record { bytes = []; verdict = verdict }) → take at bytes' ≡ take at bytes
        → WritesRows (write_rows 0 rows key values) verdict bytes'
    stops bytes' verdict e none same =
        stands rows key values bytes at bytes' verdict (omega (arith, room)) (this_text e ∙ ap (ahead (take at bytes)) (none _)) same

-- after the last row there is none to be written
pub all_written : (rows : List Row) (key values bytes : List ℕ) (at used i : ℕ) → length rows ≤ i → Writing rows key values bytes at used i
    → WritesRows (write_rows 0 rows key values) (Ok tt) bytes
all_written rows key values bytes at used i done writing =
    stands rows key values bytes at bytes (Ok tt) (omega arith) (writing.3 ∙ rw (drop_of_length-le rows {i = i} done)) refl

-- ---- a good writing

-- its first row has a text, and its other rows are good
pub record GoodRow (t : RowText) (i : ℕ) (rest : Laid) : Type 0 where
  pub characters : List ℕ
  pub is_text : t ≡ text characters
  pub rest_good : rest.verdict ≡ Ok tt
  pub bytes_are : (text_then t i rest).bytes ≡ characters ++ rest.bytes

pub good_row : (t : RowText) (i : ℕ) (rest : Laid) → (text_then t i rest).verdict ≡ Ok tt → GoodRow t i rest
good_row (text characters) i rest good =
    record { characters = characters; is_text = refl; rest_good = good; bytes_are = refl }
good_row malformed i rest good = absurd (let z : ◌≡◌ {A = ℕ} 0 1 = cc in omega arith)
good_row out_of_range i rest good = absurd (let z : ◌≡◌ {A = ℕ} 0 1 = cc in omega arith)

-- its bytes are as many as the rows are wide
pub good_length : (i : ℕ) (rows : List Row) (key values : List ℕ) → (write_rows i rows key values).verdict ≡ Ok tt
    → length (write_rows i rows key values).bytes ≡ data_length rows
good_length i [] key values good = refl
good_length i (row ∷ rows) key values good =
    let g = good_row (row_text row key (get_or values 0 0)) i (write_rows (suc i) rows (drop (key_used row) key) (drop 1 values)) good in
    rw (g.bytes_are, length-append g.characters, text_width row key (get_or values 0 0) g.is_text, good_length (suc i) rows (drop (key_used row) key) (drop 1 values) g.rest_good)
