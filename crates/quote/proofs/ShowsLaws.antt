-- Demand 2, "Each number is the exact decimal in its field": the quote of good rows shows each field from the field of its name.
use Rattle.std.specs.Prelude.{ℕ, suc, ◌-◌, ◌<◌, ◌≡◌, refl, Bool, true, false, cond, List, [], ◌∷◌, map, length, get_or, take, drop, replicate, Ok, Err}
use Rattle.decimal.specs.declared.FieldFault.TheVariants.{Malformed, OutOfRange}
use Rattle.layout.specs.Answers.{RowRead}
use Rattle.std.proofs.Common.{ap, subst, ◌∙◌, ⊎_elim, arith, lit<}
use Rattle.std.proofs.Math.Option.{Option, none, some}
use Rattle.std.proofs.Math.ListN.{get_or-append}
use Rattle.laws.specs.Choice.{clash}
use Rattle.decimal.specs.declared.Kind.{Kind}
use Rattle.decimal.specs.Kinds.{price, quantity, turnover, difference}
use Rattle.forms.specs.declared.rows.Markets.TheVariants.{Normal, Any}
use Rattle.forms.specs.declared.rows.Row.{Row}
use Rattle.forms.specs.declared.rows.Row.TheVariants.{Key, MarketType, Status, Price, Difference, Quantity, Turnover}
use Rattle.forms.specs.declared.forms.Form.{Form}
use Rattle.forms.specs.declared.forms.Form.TheVariants.{Heartbeat, LevelOne, LevelTwo, PairOne, PairTwo, FutureOne, FutureTwo, PreOpenOne, PreOpenTwo}
use Rattle.forms.specs.Names.{Name, NamedRow, market_type, time_stamp, buy_price, buy_quantity, sell_price, sell_quantity, last_price, traded_quantity, status, opening_price, high_price, low_price, close_price, average_price, all_buyers, all_sellers, turnover as turnover_name}
use Rattle.forms.specs.SameName.{name_number, same_name}
use Rattle.forms.specs.Sizes.{most_rows}
use Rattle.forms.specs.NamesLaws.{same_name_lem}
use Rattle.forms.specs.Forms.{named_rows, rows_of, subject_of}
use Rattle.forms.specs.Rows.{width_of}
use Rattle.wire.specs.Number.{number_at}
use Rattle.decimal.specs.declared.Held.{Held}
use Rattle.layout.specs.Cells.{minus, held_in, byte_in, zeros_behind}
use Rattle.layout.specs.Read.{read_row, read_rows}
use Rattle.layout.specs.Says.{HeldSays, NumberSays, RowSays}
use Rattle.layout.proofs.SaysLaws.{row_exactly}
use Rattle.quote.specs.Quote.{price_in, quantity_in, turnover_in, next, row_named, cell_at, cell_named, order_in, of_pair, quote_by, quote_of}
use Rattle.quote.specs.Shows.{held_price, held_quantity, held_turnover, no_order, field_named, Shows, ShowsLetter, ShowsFields}
use Rattle.quote.specs.NumberLaws.{IsNumber, cell_held, price_number, quantity_number, turnover_number, says_held}
use Rattle.quote.proofs.RowsLaws.{at_level_lem}

-- ---- one field

shows_number : (kind : Kind) → kind.most < minus - 2 → (field : List ℕ) (cell : ℕ) → NumberSays kind field (Ok cell) → HeldSays kind field (held_in kind.signed cell)
shows_number kind small field cell h = rw (h.2, says_held kind small field h.0 h.1) h.1

-- what a row's field is shown as, whatever its width
abbrev pub ShownAs : Row → List ℕ → ℕ → Type 0
ShownAs (Key width) field cell = Unit {0}
ShownAs (MarketType markets) field cell = byte_in cell ≡ number_at 1 field 0
ShownAs Status field cell = byte_in cell ≡ number_at 1 field 0
ShownAs (Price width) field cell = HeldSays price field (held_in false cell)
ShownAs (Difference width) field cell = HeldSays difference field (held_in true cell)
ShownAs (Quantity width) field cell = HeldSays quantity field (held_in false cell)
ShownAs (Turnover width) field cell = HeldSays turnover field (held_in false cell)

-- a row by its kind alone
abbrev pub kind_of : Row → Row
kind_of (Key width) = Key 0
kind_of (MarketType markets) = MarketType Normal
kind_of Status = Status
kind_of (Price width) = Price 0
kind_of (Difference width) = Difference 0
kind_of (Quantity width) = Quantity 0
kind_of (Turnover width) = Turnover 0

row_shows : (row : Row) (field : List ℕ) (cell : ℕ) → RowSays row field (Ok cell) → ShownAs (kind_of row) field cell
row_shows (Key width) field cell h = tt
row_shows (MarketType Normal) field cell h = rw (h.1, h.0) refl
row_shows (MarketType Any) field cell h =
    rw h.1 (⊎_elim (λ e. rw e refl) (⊎_elim (λ e. rw e refl) (⊎_elim (λ e. rw e refl) (λ e. rw e refl))) h.0)
row_shows Status field cell h = rw h.1 (⊎_elim (λ e. rw e refl) (λ e. rw e refl) h.0)
row_shows (Price width) field cell h = shows_number price (lit< tt) field cell h
row_shows (Difference width) field cell h = shows_number difference (lit< tt) field cell h
row_shows (Quantity width) field cell h = shows_number quantity (lit< tt) field cell h
row_shows (Turnover width) field cell h = shows_number turnover (lit< tt) field cell h

-- ---- a field by its name

-- the kind of each name's row, by the name's number; a pair's prices have a sign
abbrev pub kinds : Row → List Row
kinds price =
    Key 0 ∷ Key 0 ∷ Key 0 ∷ Key 0 ∷ Key 0 ∷ Key 0 ∷ Key 0 ∷ Key 0 ∷ Key 0 ∷ Key 0 ∷ MarketType Normal ∷ price ∷ Quantity 0 ∷ price ∷ Quantity 0
    ∷ price ∷ Quantity 0 ∷ Status ∷ price ∷ price ∷ price ∷ price ∷ price ∷ Quantity 0 ∷ Quantity 0 ∷ Turnover 0 ∷ Quantity 0 ∷ []

abbrev pub kind_named : Row → Name → Row
kind_named price name = get_or (kinds price) (name_number name) (Key 0)

-- each row is of its name's kind
abbrev pub Kinded : Row → List NamedRow → Type 0
Kinded price rows = map (λ r. kind_of r.row) rows ≡ map (λ r. kind_named price r.name) rows

-- a name has a field exactly where it has a row, and the row's cell is what the field is shown as
abbrev Found : Row → Option (List ℕ) → Option ℕ → List ℕ → Type 0
Found kind none none cells = Unit {0}
Found kind none (some k) cells = ⊥
Found kind (some field) none cells = ⊥
Found kind (some field) (some k) cells = (k < length cells) × ShownAs kind field (get_or cells k 0)

behind : (kind : Row) (field : Option (List ℕ)) (at : Option ℕ) (cell : ℕ) (cells : List ℕ) → Found kind field at cells → Found kind field (next at) (cell ∷ cells)
behind kind none none cell cells h = tt
behind kind none (some k) cell cells h = absurd h
behind kind (some field) none cell cells h = absurd h
behind kind (some field) (some k) cell cells h = (omega (arith, h.0), h.1)

abbrev pub plain : List NamedRow → List Row
plain rows = map (λ r. r.row) rows

-- the field of the first row, where it is read as a cell, or a field behind it
module _ (prices : Row) (row : NamedRow) (rows : List NamedRow) (kinded : Kinded prices (row ∷ rows)) (field : List ℕ) (cell : ℕ) (reads : read_row row.row field ≡ Ok cell) (name : Name) where
  here : kind_of row.row ≡ kind_named prices row.name
  here = cc

  by_name : (rest : Option (List ℕ)) (cells : List ℕ) → Found (kind_named prices name) rest (row_named rows name) cells → (b : Bool) → same_name row.name name ≡ b
      → Found (kind_named prices name) (cond b (some field) rest) (cond b (some 0) (next (row_named rows name))) (cell ∷ cells)
  by_name rest cells h true is =
      (omega arith, subst (λ (kind : Row). ShownAs kind field cell) (here ∙ ap (kind_named prices) ((same_name_lem row.name name).0 is)) (row_shows row.row field cell ((row_exactly row.row field (Ok cell)).0 reads)))
  by_name rest cells h false is = behind (kind_named prices name) rest (row_named rows name) cell cells h

found : (prices : Row) (rows : List NamedRow) → Kinded prices rows → (i : ℕ) (bytes : List ℕ) → (read_rows i (plain rows) bytes).verdict ≡ Ok tt → (name : Name)
    → Found (kind_named prices name) (field_named rows bytes name) (row_named rows name) (read_rows i (plain rows) bytes).cells
found prices [] kinded i bytes good name = tt
found prices (row ∷ rows) kinded i bytes good name =
    go (read_row row.row (take (width_of row.row) bytes)) refl (λ rest_kinded rest_good. found prices rows rest_kinded (suc i) (drop (width_of row.row) bytes) rest_good name)
  where
    go : (a : RowRead) → read_row row.row (take (width_of row.row) bytes) ≡ a
        → (Kinded prices rows → (read_rows (suc i) (plain rows) (drop (width_of row.row) bytes)).verdict ≡ Ok tt
        → Found (kind_named prices name) (field_named rows (drop (width_of row.row) bytes) name) (row_named rows name) (read_rows (suc i) (plain rows) (drop (width_of row.row) bytes)).cells)
        → Found (kind_named prices name) (field_named (row ∷ rows) bytes name) (row_named (row ∷ rows) name) (read_rows i (plain (row ∷ rows)) bytes).cells
    go (Ok cell) e rest =
        let left : List ℕ = drop (width_of row.row) bytes in
        let rest_kinded : Kinded prices rows = cc in
        rw e
        (by_name prices row rows kinded (take (width_of row.row) bytes) cell e name (field_named rows left name) (read_rows (suc i) (plain rows) left).cells
        (rest rest_kinded (rw e at good)) (same_name row.name name) refl)
    go (Err Malformed) e rest = let bad = rw e at good in absurd (clash (cc))
    go (Err OutOfRange) e rest = let bad = rw e at good in absurd (clash (cc))

-- ---- the quote

module _ (prices : Row) (rows : List NamedRow) (kinded : Kinded prices rows) (bytes : List ℕ) (good : (read_rows 0 (plain rows) bytes).verdict ≡ Ok tt) where
  abbrev pub read : List ℕ
  read = (read_rows 0 (plain rows) bytes).cells

  abbrev pub cell : Name → ℕ
  cell name = cell_named rows name (zeros_behind read)

  abbrev pub text : Name → Option (List ℕ)
  text name = field_named rows bytes name

  -- the zeros behind the cells that were read are no row's
  module _ (row : Row) where
    front : (field : List ℕ) (k : ℕ) → (k < length read) × ShownAs row field (get_or read k 0) → ShownAs row field (get_or (zeros_behind read) k 0)
    front field k h = rw (get_or-append read (replicate (most_rows - length read) 0) 0 k h.0) h.1

    number : (kind : Kind) → ((field : List ℕ) (c : ℕ) → ShownAs row field c → HeldSays kind field (held_in kind.signed c))
        → (t : Option (List ℕ)) (at : Option ℕ) → Found row t at read → Shows kind t (held_in kind.signed (cell_at at (zeros_behind read)))
    number kind show none none h = refl
    number kind show none (some k) h = absurd h
    number kind show (some field) none h = absurd h
    number kind show (some field) (some k) h = show field (get_or (zeros_behind read) k 0) (front field k h)

    letter : ((field : List ℕ) (c : ℕ) → ShownAs row field c → byte_in c ≡ number_at 1 field 0)
        → (t : Option (List ℕ)) (at : Option ℕ) → Found row t at read → ShowsLetter t (byte_in (cell_at at (zeros_behind read)))
    letter show none none h = refl
    letter show none (some k) h = absurd h
    letter show (some field) none h = absurd h
    letter show (some field) (some k) h = show field (get_or (zeros_behind read) k 0) (front field k h)

  -- a number of any kind is shown from the field of its name
  pub shown : {A : Type 0} {of : Held → A} {held : A → Held} {plain : A → A} (kind : Kind) (row : Row)
      → ((field : List ℕ) (c : ℕ) → ShownAs row field c → HeldSays kind field (held_in kind.signed c))
      → IsNumber kind.signed of held plain → (name : Name) → kind_named prices name ≡ row → Shows kind (text name) (held (of (held_in kind.signed (cell name))))
  shown kind row show is_number name is =
      rw (cell_held is_number (cell name)) (number row kind show (text name) (row_named rows name) (rw is at (found prices rows kinded 0 bytes good name)))

  price_shown : (name : Name) → kind_named prices name ≡ Price 0 → Shows price (text name) (held_price (price_in (cell name)))
  price_shown = shown price (Price 0) (λ f c h. h) price_number

  pub quantity_shown : (name : Name) → kind_named prices name ≡ Quantity 0 → Shows quantity (text name) (held_quantity (quantity_in (cell name)))
  quantity_shown = shown quantity (Quantity 0) (λ f c h. h) quantity_number

  turnover_shown : (name : Name) → kind_named prices name ≡ Turnover 0 → Shows turnover (text name) (held_turnover (turnover_in (cell name)))
  turnover_shown = shown turnover (Turnover 0) (λ f c h. h) turnover_number

  -- an order of a side, by its names
  abbrev pub order_by : {A : Type 0} → (ℕ → ℕ → A) → (ℕ → Name) → (ℕ → Name) → ℕ → A
  order_by order p q k = order (cell (p k)) (cell (q k))

  shows_rows : prices ≡ Price 0 → ShowsFields text (quote_by rows (zeros_behind read))
  shows_rows is =
      record {
        market_type_shown = letter (MarketType Normal) (λ f c h. h) (text market_type) (row_named rows market_type) (found prices rows kinded 0 bytes good market_type);
        time_stamp_shown = quantity_shown time_stamp refl;
        buy_price_shown = λ k h. rw (at_level_lem no_order (order_by order_in buy_price buy_quantity) k h) (price_shown (buy_price k) is);
        buy_quantity_shown = λ k h. rw (at_level_lem no_order (order_by order_in buy_price buy_quantity) k h) (quantity_shown (buy_quantity k) refl);
        sell_price_shown = λ k h. rw (at_level_lem no_order (order_by order_in sell_price sell_quantity) k h) (price_shown (sell_price k) is);
        sell_quantity_shown = λ k h. rw (at_level_lem no_order (order_by order_in sell_price sell_quantity) k h) (quantity_shown (sell_quantity k) refl);
        last_price_shown = price_shown last_price is;
        traded_quantity_shown = quantity_shown traded_quantity refl;
        status_letter = letter Status (λ f c h. h) (text status) (row_named rows status) (found prices rows kinded 0 bytes good status);
        opening_price_shown = price_shown opening_price is;
        high_price_shown = price_shown high_price is;
        low_price_shown = price_shown low_price is;
        close_price_shown = price_shown close_price is;
        average_price_shown = price_shown average_price is;
        all_buyers_shown = quantity_shown all_buyers refl;
        all_sellers_shown = quantity_shown all_sellers refl;
        turnover_shown = turnover_shown turnover_name refl;
      }

-- a pair's prices have a sign, and no other form's
pub form_kinded : (form : Form) → Kinded (cond (of_pair (subject_of form)) (Difference 0) (Price 0)) (named_rows form)
unfolding named_rows
form_kinded Heartbeat = refl
form_kinded LevelOne = refl
form_kinded LevelTwo = refl
form_kinded PairOne = refl
form_kinded PairTwo = refl
form_kinded FutureOne = refl
form_kinded FutureTwo = refl
form_kinded PreOpenOne = refl
form_kinded PreOpenTwo = refl

-- of each form whose rows are good
pub shows_fields : (form : Form) → of_pair (subject_of form) ≡ false → (bytes : List ℕ) → (read_rows 0 (rows_of form) bytes).verdict ≡ Ok tt
    → ShowsFields (field_named (named_rows form) bytes) (quote_of form (zeros_behind (read_rows 0 (rows_of form) bytes).cells))
unfolding rows_of quote_of
shows_fields form is bytes good = shows_rows (Price 0) (named_rows form) (rw is at (form_kinded form)) bytes good refl
