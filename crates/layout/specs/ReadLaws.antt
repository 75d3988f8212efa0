-- Laws of reading rows, over any rows: the reading goes on row by row.
use Rattle.std.specs.Prelude.{ℕ, suc, ◌+◌, ◌-◌, min, ◌≤◌, ◌<◌, ◌≡◌, refl, List, [], ◌∷◌, ◌++◌, length, get_or, take, drop, set, Ok, Err}
use Rattle.decimal.specs.declared.FieldFault.TheVariants.{Malformed, OutOfRange}
use Rattle.std.proofs.Common.{ap, sym, ◌∙◌, append_assoc, append-nil, arith, add-one, length-append, length-drop, drop_of_length-le, drop-cons, drop-drop, take_at}
use Rattle.laws.specs.Lists.{take_min, drop_min, sets_append}
use Rattle.std.proofs.lemmas.List.Edits.{sets, sets-eq}
use Rattle.decimal.specs.declared.Kind.{Kind}
use Rattle.decimal.specs.declared.Held.TheVariants.{Nothing, Units, Below}
use Rattle.scan.specs.Answers.{Number, Says, number_numbers}
use Rattle.scan.specs.AnswersLaws.{number_told}
use Rattle.scan.specs.Read.{read_as}
use Rattle.scan.specs.ReadLaws.{reads_exactly}
use Rattle.forms.specs.declared.rows.Row.{Row}
use Rattle.forms.specs.declared.rows.Row.TheVariants.{Key}
use Rattle.forms.specs.Rows.{width_of}
use Rattle.layout.specs.Answers.{row_numbers, verdict_numbers, RowRead, Verdict}
use Rattle.layout.specs.Cells.{minus, zeros_behind}
use Rattle.layout.specs.Read.{SmallRead, of_number, number_cell, Outcome, read_rows, row_then, read_row, ReadsRows}

-- what the number reader answers of a field, as its row's
pub of_numbers : (kind : Kind) (field : List ℕ) (number : Number) {row : List ℕ} → number_numbers number ≡ number_numbers (read_as kind field)
    → row ≡ row_numbers (of_number number) → row ≡ row_numbers (number_cell kind field)
of_numbers kind field number same e =
    e ∙ ap (λ (n : Number). row_numbers (of_number n)) (number_told number (read_as kind field) same)

-- an amount that was read is in range, and every kind's range has cells
read_said : (kind : Kind) → kind.most < minus - 2 → (field : List ℕ) (number : Number) → Says kind field number → SmallRead number
read_said kind small field (Ok Nothing) says = tt
read_said kind small field (Ok (Units n)) says = omega (arith, says.1)
read_said kind small field (Ok (Below n)) says = omega (arith, says.1)
read_said kind small field (Err fault) says = tt

pub read_small : (kind : Kind) → kind.most < minus - 2 → (field : List ℕ) (number : Number) → number_numbers number ≡ number_numbers (read_as kind field) → SmallRead number
read_small kind small field number same = read_said kind small field number ((reads_exactly kind field number).0 (sym (number_told number (read_as kind field) same)))

-- cells read earlier stand in front
abbrev pub behind : List ℕ → Outcome → Outcome
behind front rest = record { cells = front ++ rest.cells; verdict = rest.verdict }

-- after i rows and `at` bytes: the cells of those rows are stored, and the rest is to be read
pub record Going (rows : List Row) (bytes lent cells : List ℕ) (at i : ℕ) : Type 0 where
  pub within : at ≤ length bytes
  pub front : List ℕ
  pub many : length front ≡ i
  pub stored : cells ≡ sets lent 0 front
  pub rest : read_rows 0 rows bytes ≡ behind front (read_rows i (drop i rows) (drop at bytes))

pub begins : (rows : List Row) (bytes lent : List ℕ) → Going rows bytes lent lent 0 0
begins rows bytes lent = record { within = omega arith; front = []; many = refl; stored = refl; rest = refl }

-- the next row of the data, as the walk sees it: as many bytes as its width, or as are left
module _ (rows : List Row) (bytes lent cells : List ℕ) (at i width : ℕ) (more : i < length rows)
    (is_width : width ≡ min (width_of (get_or rows i (Key 0))) (length bytes - at)) (going : Going rows bytes lent cells at i)
  where
    left : length (drop at bytes) ≡ length bytes - at
    left = length-drop at bytes

    -- the field that the walk hands on is the row's
    pub field_is : take width (drop at bytes) ≡ take (width_of (get_or rows i (Key 0))) (drop at bytes)
    field_is = rw (is_width, ← left) (take_min (width_of (get_or rows i (Key 0))) (drop at bytes))

    next_is : drop (at + width) bytes ≡ drop (width_of (get_or rows i (Key 0))) (drop at bytes)
    next_is = sym (drop-drop width at bytes) ∙ rw (is_width, ← left) (drop_min (width_of (get_or rows i (Key 0))) (drop at bytes))

    -- what is left to be read begins with this row
    pub this_row : {answer : RowRead} → read_row (get_or rows i (Key 0)) (take width (drop at bytes)) ≡ answer
        → read_rows 0 rows bytes ≡ behind going.front (row_then answer i (read_rows (suc i) (drop (suc i) rows) (drop (at + width) bytes)))
    this_row {answer} e =
        going.rest ∙ rw (drop-cons rows i (Key 0) more, ← field_is, e, next_is)

    -- a good row: its cell is stored, and the reading goes on
    pub goes_on : {cell : ℕ} → read_row (get_or rows i (Key 0)) (take width (drop at bytes)) ≡ Ok cell
        → Going rows bytes lent (set cells i cell) (at + width) (i + 1)
    goes_on {cell} e =
        let place : 0 + length going.front ≡ i = omega (arith, going.many) in
        record {
          within = omega (arith, is_width, going.within);
          front = going.front ++ (cell ∷ []);
          many = simp length-append (omega (arith, going.many));
          stored = ap (λ (l : List ℕ). set l i cell) going.stored ∙ sym (rw place at (sets_append going.front (cell ∷ []) lent 0));
          rest = rw add-one (this_row e ∙ rw (append_assoc going.front));
        }

-- a reading that ends leaves the cells that it has stored
pub stands : (rows : List Row) (bytes lent cells : List ℕ) (at i : ℕ) (verdict : Verdict) (going : Going rows bytes lent cells at i)
    → read_rows 0 rows bytes ≡ behind going.front (record { cells = []; verdict = verdict }) → ReadsRows rows bytes lent verdict cells
stands rows bytes lent cells at i verdict going e =
    record {
      answers = ap (λ (o : Outcome). verdict_numbers o.verdict) (sym e);
      cells_stored = going.stored ∙ ap (sets lent 0) (sym (ap (λ (o : Outcome). o.cells) e ∙ append-nil going.front));
    }

-- after the last row there is none to be read
pub all_read : (rows : List Row) (bytes lent cells : List ℕ) (at i : ℕ) → length rows ≤ i → Going rows bytes lent cells at i → ReadsRows rows bytes lent (Ok tt) cells
all_read rows bytes lent cells at i done going =
    stands rows bytes lent cells at i (Ok tt) going (going.rest ∙ rw (drop_of_length-le rows {i = i} done))

-- ---- where every row is good

-- there is a cell for each
cell_each : (i : ℕ) (rows : List Row) (bytes : List ℕ) → (read_rows i rows bytes).verdict ≡ Ok tt → length (read_rows i rows bytes).cells ≡ length rows
cell_each i [] bytes good = refl
cell_each i (row ∷ rows) bytes good = go (read_row row (take (width_of row) bytes)) good (cell_each (suc i) rows (drop (width_of row) bytes))
  where
    rest : Outcome
    rest = read_rows (suc i) rows (drop (width_of row) bytes)

    go : (answer : RowRead) → (row_then answer i rest).verdict ≡ Ok tt → (rest.verdict ≡ Ok tt → length rest.cells ≡ length rows)
        → length (row_then answer i rest).cells ≡ suc (length rows)
    go (Ok cell) good later = ap suc (later good)
    go (Err Malformed) good later = cc
    go (Err OutOfRange) good later = cc

-- the lent cells of the rows are those read, whatever stood there
pub front_stored : (rows : List Row) (bytes lent : List ℕ) → length rows ≤ length lent → (read_rows 0 rows bytes).verdict ≡ Ok tt
    → take (length rows) (sets lent 0 (read_rows 0 rows bytes).cells) ≡ take (length rows) (zeros_behind (read_rows 0 rows bytes).cells)
front_stored rows bytes lent room good =
    let read : List ℕ = (read_rows 0 rows bytes).cells in
    let long : length read ≡ length rows = cell_each 0 rows bytes good in
    ap (take (length rows)) (sets-eq read lent 0 (omega (arith, long))) ∙ take_at read _ (length rows) long ∙ sym (take_at read _ (length rows) long)
