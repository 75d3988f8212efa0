-- The quote through the data of an update: what was read can be written again, and what is written reads back as the form sees it.
use Rattle.std.specs.Prelude.{ℕ, zero, suc, ◌-◌, ◌<◌, ◌≡◌, refl, Bool, true, false, List, [], ◌∷◌, ◌++◌, get_or, take, drop, replicate, Ok, Err}
use Rattle.decimal.specs.declared.FieldFault.TheVariants.{Malformed, OutOfRange}
use Rattle.layout.specs.Answers.{RowRead}
use Rattle.std.proofs.Common.{ap, sym, ◌∙◌, arith, lit<}
use Rattle.std.proofs.lemmas.Bool.{false≢true}
use Rattle.std.proofs.Math.Option.{some}
use Rattle.laws.specs.Choice.{never}
use Rattle.std.proofs.Math.ListN.{length}
use Rattle.wire.specs.Number.{number_at}
use Rattle.decimal.specs.Kinds.{difference}
use Rattle.forms.specs.declared.rows.Markets.TheVariants.{Normal, Any}
use Rattle.forms.specs.declared.rows.Row.{Row}
use Rattle.forms.specs.declared.rows.Row.TheVariants.{Key, MarketType, Status, Price, Difference, Quantity, Turnover}
use Rattle.forms.specs.declared.forms.Form.{Form}
use Rattle.forms.specs.declared.forms.Form.TheVariants.{Heartbeat, LevelOne, LevelTwo, PairOne, PairTwo, FutureOne, FutureTwo, PreOpenOne, PreOpenTwo}
use Rattle.quote.specs.declared.quote.Quote.{Quote}
use Rattle.forms.specs.Rows.{width_of}
use Rattle.forms.specs.Sizes.{most_rows, key_row_count}
use Rattle.forms.specs.Names.{Name, market_type, status}
use Rattle.forms.specs.Forms.{named_rows, rows_of, subject_of}
use Rattle.layout.specs.Cells.{held_in, byte_in, zeros_behind, key_used}
use Rattle.layout.specs.Plain.{no_room, value_of, seen_value, seen_values}
use Rattle.layout.specs.PlainLaws.{has_value}
use Rattle.layout.specs.CellsLaws.{byte_back}
use Rattle.layout.specs.Read.{is_market_type, is_status, letter_cell, read_row, Outcome, row_then, read_rows}
use Rattle.layout.specs.Says.{NumberSays}
use Rattle.layout.proofs.SaysLaws.{row_exactly}
use Rattle.compose.specs.Write.{row_text, letter_text, Laid, write_refusal, write_rows}
use Rattle.compose.specs.RowTextLaws.{market_small, status_small, text_held}
use Rattle.compose.specs.WriteLaws.{GoodRow, good_row}
use Rattle.compose.specs.RoundTrip.{rows_back}
use Rattle.compose.specs.FirstBad.{refusal_written}
use Rattle.compose.specs.FirstBadLaws.{write_first}
use Rattle.quote.specs.Quote.{row_named, of_pair, quote_of, field_value, values_by, values_of, seen_quote}
use Rattle.quote.specs.NumberLaws.{says_held, says_small}
use Rattle.quote.proofs.RowsLaws.{AllHeld}
use Rattle.quote.proofs.QuoteLaws.{cells_back, quote_back}

-- ---- what was read

letter_seen : (taken : ℕ → Bool) → ((byte : ℕ) → taken byte ≡ true → byte < 256) → (byte cell : ℕ) → letter_cell taken byte ≡ Ok cell
    → byte_in cell ≡ cell
letter_seen taken small byte cell e = go (taken byte) refl
  where
    go : (is : Bool) → taken byte ≡ is → byte_in cell ≡ cell
    go true t =
        let same : Ok byte ≡ Ok cell = rw t at e in
        let b : byte ≡ cell = cc in
        byte_back cell (rw b at (small byte t))
    go false t = let other : (Err Malformed) ≡ Ok cell = rw t at e in cc

cell_seen : (row : Row) (field : List ℕ) (cell : ℕ) → read_row row field ≡ Ok cell → seen_value row cell ≡ cell
unfolding read_row
cell_seen (Key width) field cell e = cc
cell_seen (MarketType markets) field cell e = letter_seen (is_market_type markets) (market_small markets) (number_at 1 field 0) cell e
cell_seen Status field cell e = letter_seen is_status status_small (number_at 1 field 0) cell e
cell_seen (Price width) field cell e = refl
cell_seen (Difference width) field cell e =
    let says : NumberSays difference field (Ok cell) = (row_exactly (Difference width) field (Ok cell)).0 e in
    ap (λ (c : ℕ). value_of true (held_in true c)) says.2 ∙ ap (value_of true) (says_held difference (lit< tt) field says.0 says.1)
    ∙ has_value true says.0 (says_small difference (lit< tt) field says.0 says.1) ∙ sym says.2
cell_seen (Quantity width) field cell e = refl
cell_seen (Turnover width) field cell e = refl

-- the rows see the cells that were read as they are
cells_seen : (i : ℕ) (rows : List Row) (bytes behind : List ℕ) → (read_rows i rows bytes).verdict ≡ Ok tt
    → seen_values rows ((read_rows i rows bytes).cells ++ behind) ≡ (read_rows i rows bytes).cells
cells_seen i [] bytes behind good = refl
cells_seen i (row ∷ rows) bytes behind good =
    go (read_row row (take (width_of row) bytes)) refl good (cells_seen (suc i) rows (drop (width_of row) bytes) behind)
  where
    rest : Outcome
    rest = read_rows (suc i) rows (drop (width_of row) bytes)

    go : (answer : RowRead) → read_row row (take (width_of row) bytes) ≡ answer → (row_then answer i rest).verdict ≡ Ok tt
        → (rest.verdict ≡ Ok tt → seen_values rows (rest.cells ++ behind) ≡ rest.cells)
        → seen_values (row ∷ rows) ((row_then answer i rest).cells ++ behind) ≡ (row_then answer i rest).cells
    go (Ok cell) e good later = rw (cell_seen row (take (width_of row) bytes) cell e, later good)
    go (Err Malformed) e good later = cc
    go (Err OutOfRange) e good later = cc

module _ (form : Form) (bytes : List ℕ) (good : (read_rows 0 (rows_of form) bytes).verdict ≡ Ok tt) where
  abbrev pub read : List ℕ
  read = zeros_behind (read_rows 0 (rows_of form) bytes).cells

  -- the cells that were read, as the rows see them
  pub as_read : zeros_behind (seen_values (rows_of form) read) ≡ read
  as_read = ap zeros_behind (cells_seen 0 (rows_of form) bytes (replicate (most_rows - length (read_rows 0 (rows_of form) bytes).cells) 0) good)

  -- a quote that was read has the cells that were read
  pub read_kept : of_pair (subject_of form) ≡ false → values_of form (quote_of form read) ≡ read
  read_kept is = cells_back form is read ∙ as_read

-- ---- what is written

rows_held : (i : ℕ) (rows : List Row) (key values : List ℕ) → (write_rows i rows key values).verdict ≡ Ok tt → AllHeld (seen_values rows values)
rows_held i [] key values good k e = omega arith
rows_held i (row ∷ rows) key values good k e =
    let rest : Laid = write_rows (suc i) rows (drop (key_used row) key) (drop 1 values) in
    let g : GoodRow (row_text row key (get_or values 0 0)) i rest = good_row (row_text row key (get_or values 0 0)) i rest good in
    go k (rows_held (suc i) rows (drop (key_used row) key) (drop 1 values) g.rest_good) (text_held row key (get_or values 0 0) g.is_text) e
  where
    go : (k : ℕ) → AllHeld (seen_values rows (drop 1 values)) → (seen_value row (get_or values 0 0) ≡ no_room → ⊥)
        → get_or (seen_values (row ∷ rows) values) k 0 ≡ no_room → ⊥
    go zero later here e = here e
    go (suc k) later here e = later k e

zeros_held : (values : List ℕ) (n : ℕ) → AllHeld values → AllHeld (values ++ replicate n 0)
zeros_held [] zero held k e = held k e
zeros_held [] (suc n) held zero e = omega arith
zeros_held [] (suc n) held (suc k) e = zeros_held [] n held k e
zeros_held (c ∷ values) n held zero e = held 0 e
zeros_held (c ∷ values) n held (suc k) e = zeros_held values n (λ j. held (suc j)) k e

-- a word of our own: what is written from values, read again
abbrev pub read_again : Form → List ℕ → List ℕ → Outcome
read_again form key values = read_rows 0 (rows_of form) (write_rows 0 (rows_of form) key values).bytes

-- values that the rows see as they are, and that can be written
module _ (form : Form) (key values : List ℕ) (good : (write_rows 0 (rows_of form) key values).verdict ≡ Ok tt) (own : zeros_behind (seen_values (rows_of form) values) ≡ values) where
  pub all_held : AllHeld values
  all_held =
      let rows : List ℕ = seen_values (rows_of form) values in
      let held : AllHeld (zeros_behind rows) = zeros_held rows (most_rows - length rows) (rows_held 0 (rows_of form) key values good) in
      rw own at held

  -- are read again as they were written
  pub cells_again : ((read_again form key values).verdict ≡ Ok tt) × (zeros_behind (read_again form key values).cells ≡ values)
  cells_again =
      let back : read_again form key values ≡ record { cells = seen_values (rows_of form) values; verdict = Ok tt } = rows_back 0 (rows_of form) key values good in
      (rw back, rw back own)

-- ---- the quote

-- a quote's letters, where it can be written
letter_taken : (taken : ℕ → Bool) (cell : ℕ) → write_refusal (letter_text taken cell) ≡ 0 → taken cell ≡ true
letter_taken taken cell e = go (taken cell) refl
  where
    go : (is : Bool) → taken cell ≡ is → taken cell ≡ true
    go true t = t
    go false t = absurd (let bad : 11 ≡ 0 = rw t at e in omega arith)

-- a form has no row for the field, or the field is a byte
abbrev Byte : Form → Name → ℕ → Type 0
Byte form name byte = (k : ℕ) → row_named (named_rows form) name ≡ some k → byte < 256

letters : (form : Form) → of_pair (subject_of form) ≡ false → (quote : Quote) (key : List ℕ)
    → ((k : ℕ) → k < length (rows_of form) → refusal_written (rows_of form) key (values_of form quote) k ≡ 0)
    → Byte form market_type quote.market_type × Byte form status quote.status
unfolding rows_of named_rows values_of row_text
letters Heartbeat is quote key good = ((λ k e. absurd (never e)), (λ k e. absurd (never e)))
letters LevelOne is quote key good = (
  (λ k e. market_small Normal quote.market_type (letter_taken (is_market_type Normal) quote.market_type (good key_row_count (omega arith)))),
  (λ k e. status_small quote.status (letter_taken is_status quote.status (good 12 (omega arith)))),
)
letters LevelTwo is quote key good = (
  (λ k e. market_small Normal quote.market_type (letter_taken (is_market_type Normal) quote.market_type (good key_row_count (omega arith)))),
  (λ k e. status_small quote.status (letter_taken is_status quote.status (good 28 (omega arith)))),
)
letters PairOne is quote key good = absurd (false≢true (sym is))
letters PairTwo is quote key good = absurd (false≢true (sym is))
letters FutureOne is quote key good = (
  (λ k e. market_small Any quote.market_type (letter_taken (is_market_type Any) quote.market_type (good key_row_count (omega arith)))),
  (λ k e. status_small quote.status (letter_taken is_status quote.status (good 13 (omega arith)))),
)
letters FutureTwo is quote key good = (
  (λ k e. market_small Any quote.market_type (letter_taken (is_market_type Any) quote.market_type (good key_row_count (omega arith)))),
  (λ k e. status_small quote.status (letter_taken is_status quote.status (good 29 (omega arith)))),
)
letters PreOpenOne is quote key good = (
  (λ k e. market_small Any quote.market_type (letter_taken (is_market_type Any) quote.market_type (good key_row_count (omega arith)))),
  (λ k e. status_small quote.status (letter_taken is_status quote.status (good 13 (omega arith)))),
)
letters PreOpenTwo is quote key good = (
  (λ k e. market_small Any quote.market_type (letter_taken (is_market_type Any) quote.market_type (good key_row_count (omega arith)))),
  (λ k e. status_small quote.status (letter_taken is_status quote.status (good 29 (omega arith)))),
)

own_values : (form : Form) → of_pair (subject_of form) ≡ false → (quote : Quote) → Byte form market_type quote.market_type × Byte form status quote.status
    → zeros_behind (seen_values (rows_of form) (values_of form quote)) ≡ values_of form quote
unfolding rows_of named_rows values_of
own_values Heartbeat is quote small = refl
own_values LevelOne is quote small = rw (byte_back quote.market_type (small.0 key_row_count refl), byte_back quote.status (small.1 12 refl))
own_values LevelTwo is quote small = rw (byte_back quote.market_type (small.0 key_row_count refl), byte_back quote.status (small.1 28 refl))
own_values PairOne is quote small = absurd (false≢true (sym is))
own_values PairTwo is quote small = absurd (false≢true (sym is))
own_values FutureOne is quote small = rw (byte_back quote.market_type (small.0 key_row_count refl), byte_back quote.status (small.1 13 refl))
own_values FutureTwo is quote small = rw (byte_back quote.market_type (small.0 key_row_count refl), byte_back quote.status (small.1 29 refl))
own_values PreOpenOne is quote small = rw (byte_back quote.market_type (small.0 key_row_count refl), byte_back quote.status (small.1 13 refl))
own_values PreOpenTwo is quote small = rw (byte_back quote.market_type (small.0 key_row_count refl), byte_back quote.status (small.1 29 refl))

module _ (form : Form) (is : of_pair (subject_of form) ≡ false) (quote : Quote) (key : List ℕ) (good : (write_rows 0 (rows_of form) key (values_of form quote)).verdict ≡ Ok tt) where
  small : Byte form market_type quote.market_type × Byte form status quote.status
  small = letters form is quote key (rw good at (write_first (rows_of form) key (values_of form quote)))

  same_values : zeros_behind (seen_values (rows_of form) (values_of form quote)) ≡ values_of form quote
  same_values = own_values form is quote small

  -- a quote that can be written is the one that its values hold, as the form sees it
  pub written_kept : quote_of form (values_of form quote) ≡ seen_quote form quote
  unfolding quote_of values_of seen_quote
  written_kept =
      quote_back (field_value quote) (named_rows form) (replicate (most_rows - length (values_by (named_rows form) (field_value quote))) 0)
      (all_held form key (values_of form quote) good same_values) quote (λ name. refl) small.0 small.1

  -- what is written from a quote reads back as that quote
  pub written_back : ((read_again form key (values_of form quote)).verdict ≡ Ok tt) × (quote_of form (zeros_behind (read_again form key (values_of form quote)).cells) ≡ seen_quote form quote)
  written_back = let again = cells_again form key (values_of form quote) good same_values in (again.0, ap (quote_of form) again.1 ∙ written_kept)
