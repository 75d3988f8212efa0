-- Laws of an update's values.
use Rattle.std.specs.Prelude.{ℕ, zero, suc, ◌+◌, ◌-◌, ◌≤◌, ◌≡◌, refl, Bool, true, false, List, [], ◌∷◌, ◌++◌, map, length, take, drop, replicate}
use Rattle.std.proofs.Common.{ap, sym, ◌∙◌, append_assoc, arith, length-drop, length-take-le, take_all}
use Rattle.std.proofs.lemmas.Slice.{put_mid-paste}
use borrow.Rule.Slice.PartMut.{put_mid}
use Rattle.std.proofs.Math.Option.{Option, none, some}
use Rattle.std.proofs.lemmas.List.Edits.{sets, sets-eq}
use Rattle.forms.specs.declared.forms.Item.{Item}
use Rattle.forms.specs.declared.forms.Item.TheVariants.{Contract, Pair}
use Rattle.forms.specs.declared.rows.Level.{Level}
use Rattle.forms.specs.declared.rows.Level.TheVariants.{One, Two}
use Rattle.forms.specs.Names.{Name, NamedRow, market_type, time_stamp, buy_price, buy_quantity, sell_price, sell_quantity, last_price, traded_quantity, status, opening_price, high_price, low_price, close_price, average_price, all_buyers, all_sellers, turnover as turnover_name}
use Rattle.forms.specs.SameName.{same_name}
use Rattle.forms.specs.Forms.{key_rows, pair_key_rows, named_rows, rows_of, key_rows_of, record_form}
use Rattle.forms.specs.FormsLaws.{fits}
use Rattle.forms.specs.Sizes.{most_rows}
use Rattle.layout.specs.Plain.{held_of, letter_of}
use Rattle.quote.specs.declared.quote.Quote.{Quote}
use Rattle.spread.specs.declared.spread.SpreadQuote.{SpreadQuote}
use Rattle.quote.specs.Quote.{price_of, quantity_of, turnover_of, next, row_named, cell_at, cell_named, order_levels, order_in, side_in, quote_by, quote_of, values_of}
use Rattle.spread.specs.Spread.{difference_of, spread_order_in, spread_quote_by, spread_quote_of, spread_values_of}
use Rattle.slots.specs.Places.{record_rows}
use Rattle.slots.specs.SlotsLaws.{rows_few, rows_kept}
use Rattle.values.specs.Values.{first, most, value_rows, row_values, spread_values, value_at, quote_from, spread_from, quote_in, spread_in}

-- cells copied to a place, as they are cut out
pub copied_in : (cells from : List ℕ) (at first count : ℕ) → at + count ≤ length cells → first + count ≤ length from
    → put_mid at (at + count - at) cells (take (first + count - first) (drop first from)) ≡ sets cells at (take count (drop first from))
copied_in cells from at first count room there =
    let part : List ℕ = take count (drop first from) in
    let long : length part ≡ count = length-take-le count (drop first from) (simp length-drop (omega arith)) in
    put_mid-paste at _ cells _ part (length part) (ap (λ (n : ℕ). take n (drop first from)) (omega arith)) (omega (arith, long)) refl
    ∙ rw (take_all (length part) part (omega arith)) (sym (sets-eq part cells at (omega (arith, long))))

-- ---- the values of rows

-- the values of the rows stand behind the key
pub values_behind : (level : Level) (quote : Quote) → take (record_rows Contract level) (drop (key_rows_of Contract) (values_of (record_form Contract level) quote)) ≡ row_values level quote
unfolding row_values value_rows record_rows rows_of named_rows values_of
values_behind One quote = refl
values_behind Two quote = refl

pub spread_values_behind : (level : Level) (quote : SpreadQuote) → take (record_rows Pair level) (drop (key_rows_of Pair) (spread_values_of (record_form Pair level) quote)) ≡ spread_values level quote
unfolding spread_values value_rows record_rows rows_of named_rows spread_values_of
spread_values_behind One quote = refl
spread_values_behind Two quote = refl

-- ---- the quote that values hold

-- as many cells as there are rows, and anything behind them, hold at a name's row what the values do
next_both : (place : Option ℕ) (cell value : ℕ) (cells values : List ℕ) → cell_at place cells ≡ value_at place values
    → cell_at (next place) (cell ∷ cells) ≡ value_at (next place) (value ∷ values)
next_both none cell value cells values e = refl
next_both (some k) cell value cells values e = e

named_both : (rows : List NamedRow) (name : Name) (values rest : List ℕ) → length rows ≤ length values
    → cell_at (row_named rows name) (take (length rows) values ++ rest) ≡ value_at (row_named rows name) values
named_both [] name values rest h = refl
named_both (row ∷ rows) name [] rest h = absurd (omega arith)
named_both (row ∷ rows) name (value ∷ values) rest h = go (same_name row.name name) refl (named_both rows name values rest (omega arith))
  where
    cells : List ℕ
    cells = take (length rows) values ++ rest

    go : (same : Bool) → same_name row.name name ≡ same → cell_at (row_named rows name) cells ≡ value_at (row_named rows name) values
        → cell_at (row_named (row ∷ rows) name) (value ∷ cells) ≡ value_at (row_named (row ∷ rows) name) (value ∷ values)
    go true t later = rw t
    go false t later = rw t (next_both (row_named rows name) value value cells values later)

-- a row's place behind so many rows
abbrev behind_key : ℕ → Option ℕ → Option ℕ
behind_key zero place = place
behind_key (suc n) place = next (behind_key n place)

next_apart : (place : Option ℕ) (cell : ℕ) (cells : List ℕ) → cell_at (next place) (cell ∷ cells) ≡ cell_at place cells
next_apart none cell cells = refl
next_apart (some k) cell cells = refl

key_apart : (n : ℕ) (place : Option ℕ) (cells : List ℕ) → cell_at (behind_key n place) (replicate n 0 ++ cells) ≡ cell_at place cells
key_apart zero place cells = refl
key_apart (suc n) place cells = next_apart (behind_key n place) 0 (replicate n 0 ++ cells) ∙ key_apart n place cells

-- a word of our own: the values of rows, behind as many zeros as the key has rows
abbrev held_cells : List NamedRow → List NamedRow → List ℕ → List ℕ → List ℕ
held_cells keys rows values rest = replicate (length keys) 0 ++ (take (length rows) values ++ rest)

-- a word of our own: the value of the row with a name
abbrev value_in : List NamedRow → List ℕ → Name → ℕ
value_in rows values name = value_at (row_named rows name) values

module _ (keys rows : List NamedRow) (values rest : List ℕ) (long : length rows ≤ length values) where
  -- no key row has the name
  abbrev Apart : Name → Type 0
  Apart name = row_named (keys ++ rows) name ≡ behind_key (length keys) (row_named rows name)

  same : (name : Name) → Apart name → cell_named (keys ++ rows) name (held_cells keys rows values rest) ≡ value_in rows values name
  same name e =
      ap (λ (place : Option ℕ). cell_at place (held_cells keys rows values rest)) e ∙ key_apart (length keys) (row_named rows name) (take (length rows) values ++ rest)
      ∙ named_both rows name values rest long

  side : {A : Type 0} (order : ℕ → ℕ → A) (price quantity : ℕ → Name) → ((k : ℕ) → Apart (price k)) → ((k : ℕ) → Apart (quantity k))
      → side_in order price quantity (keys ++ rows) (held_cells keys rows values rest) ≡ map (λ k. order (value_in rows values (price k)) (value_in rows values (quantity k))) order_levels
  side order price quantity p q = λ i. at 0 i ∷ at 1 i ∷ at 2 i ∷ at 3 i ∷ at 4 i ∷ []
    where
      at : (k : ℕ) → order (cell_named (keys ++ rows) (price k) (held_cells keys rows values rest)) (cell_named (keys ++ rows) (quantity k) (held_cells keys rows values rest))
          ≡ order (value_in rows values (price k)) (value_in rows values (quantity k))
      at k = λ i. order (same (price k) (p k) i) (same (quantity k) (q k) i)

module _ (rows : List NamedRow) (values rest : List ℕ) (long : length rows ≤ length values) where
  -- a contract's field, whose name no key row has
  contract : (name : Name) → Apart key_rows rows values rest long name → cell_named (key_rows ++ rows) name (held_cells key_rows rows values rest) ≡ value_in rows values name
  contract = same key_rows rows values rest long

  quote_named : quote_by (key_rows ++ rows) (held_cells key_rows rows values rest) ≡ quote_from (value_in rows values)
  quote_named =
      λ i.
      record {
        market_type = letter_of (contract market_type refl i);
        time_stamp = quantity_of (held_of false (contract time_stamp refl i));
        buy = side key_rows rows values rest long order_in buy_price buy_quantity (λ k. refl) (λ k. refl) i;
        sell = side key_rows rows values rest long order_in sell_price sell_quantity (λ k. refl) (λ k. refl) i;
        last = price_of (held_of false (contract last_price refl i));
        traded = quantity_of (held_of false (contract traded_quantity refl i));
        status = letter_of (contract status refl i);
        opening = price_of (held_of false (contract opening_price refl i));
        high = price_of (held_of false (contract high_price refl i));
        low = price_of (held_of false (contract low_price refl i));
        close = price_of (held_of false (contract close_price refl i));
        average = price_of (held_of false (contract average_price refl i));
        buyers = quantity_of (held_of false (contract all_buyers refl i));
        sellers = quantity_of (held_of false (contract all_sellers refl i));
        turnover = turnover_of (held_of false (contract turnover_name refl i));
      }

  -- a pair's field, whose name no key row has
  pair : (name : Name) → Apart pair_key_rows rows values rest long name → cell_named (pair_key_rows ++ rows) name (held_cells pair_key_rows rows values rest) ≡ value_in rows values name
  pair = same pair_key_rows rows values rest long

  spread_named : spread_quote_by (pair_key_rows ++ rows) (held_cells pair_key_rows rows values rest) ≡ spread_from (value_in rows values)
  spread_named =
      λ i.
      record {
        buy = side pair_key_rows rows values rest long spread_order_in buy_price buy_quantity (λ k. refl) (λ k. refl) i;
        sell = side pair_key_rows rows values rest long spread_order_in sell_price sell_quantity (λ k. refl) (λ k. refl) i;
        last = difference_of (held_of true (pair last_price refl i));
        traded = quantity_of (held_of false (pair traded_quantity refl i));
        opening = difference_of (held_of true (pair opening_price refl i));
        high = difference_of (held_of true (pair high_price refl i));
        low = difference_of (held_of true (pair low_price refl i));
        buyers = quantity_of (held_of false (pair all_buyers refl i));
        sellers = quantity_of (held_of false (pair all_sellers refl i));
      }

-- ---- the rows behind a key

abbrev keys_of : Item → List NamedRow
keys_of Contract = key_rows
keys_of Pair = pair_key_rows

rows_behind : (item : Item) (level : Level) → named_rows (record_form item level) ≡ keys_of item ++ value_rows item level
unfolding named_rows value_rows
rows_behind Contract One = refl
rows_behind Contract Two = refl
rows_behind Pair One = refl
rows_behind Pair Two = refl

rows_counted : (item : Item) (level : Level) → record_rows item level ≡ length (value_rows item level)
unfolding named_rows value_rows record_rows rows_of
rows_counted Contract One = refl
rows_counted Contract Two = refl
rows_counted Pair One = refl
rows_counted Pair Two = refl

abbrev zeros : List ℕ
zeros = replicate most_rows 0

key_front : (item : Item) → take (key_rows_of item) zeros ≡ replicate (length (keys_of item)) 0
key_front Contract = refl
key_front Pair = refl

-- the rows of a record have room behind the key
pub rows_room : (item : Item) (level : Level) → key_rows_of item + record_rows item level ≤ most_rows
rows_room item level = omega (arith, rows_kept item level, (fits (record_form item level)).rows_fit)

-- and so have their values behind what stands before them
pub values_room : (item : Item) (level : Level) → first item + record_rows item level ≤ most
values_room Contract level = omega (arith, rows_few Contract level)
values_room Pair level = omega (arith, rows_few Pair level)

module _ (item : Item) (level : Level) (values : List ℕ) (long : length values ≡ most) where
  abbrev behind : List ℕ
  behind = drop (first item) values

  abbrev rest : List ℕ
  rest = drop (key_rows_of item + length (take (record_rows item level) behind)) zeros

  enough : length (value_rows item level) ≤ length behind
  enough = rw (← rows_counted item level) (simp length-drop (omega (arith, values_room item level)))

  -- the values of the rows, put behind the key's cells
  cells_held : sets zeros (key_rows_of item) (take (record_rows item level) behind) ≡ held_cells (keys_of item) (value_rows item level) behind rest
  cells_held =
      let put : List ℕ = take (record_rows item level) behind in
      let long_put : length put ≡ record_rows item level = length-take-le (record_rows item level) behind (simp length-drop (omega (arith, values_room item level))) in
      sets-eq put zeros (key_rows_of item) (omega (arith, rows_room item level))
      ∙ append_assoc (take (key_rows_of item) zeros) put rest
      ∙ ap (λ (front : List ℕ). front ++ (put ++ rest)) (key_front item)
      ∙ ap (λ (n : ℕ). replicate (length (keys_of item)) 0 ++ (take n behind ++ rest)) (rows_counted item level)

-- hold the quote that the values do
pub quote_held_lem : (level : Level) (values : List ℕ) → length values ≡ most
    → quote_of (record_form Contract level) (sets (replicate most_rows 0) (key_rows_of Contract) (take (record_rows Contract level) (drop (first Contract) values))) ≡ quote_in level values
unfolding quote_in quote_of
quote_held_lem level values long =
    ap (quote_of (record_form Contract level)) (cells_held Contract level values long)
    ∙ ap (λ (rows : List NamedRow). quote_by rows (held_cells key_rows (value_rows Contract level) (drop (first Contract) values) (rest Contract level values long))) (rows_behind Contract level)
    ∙ quote_named (value_rows Contract level) (drop (first Contract) values) (rest Contract level values long) (enough Contract level values long)

pub spread_held : (level : Level) (values : List ℕ) → length values ≡ most
    → spread_quote_of (record_form Pair level) (sets (replicate most_rows 0) (key_rows_of Pair) (take (record_rows Pair level) (drop (first Pair) values))) ≡ spread_in level values
unfolding spread_in spread_quote_of
spread_held level values long =
    ap (spread_quote_of (record_form Pair level)) (cells_held Pair level values long)
    ∙ ap (λ (rows : List NamedRow). spread_quote_by rows (held_cells pair_key_rows (value_rows Pair level) (drop (first Pair) values) (rest Pair level values long))) (rows_behind Pair level)
    ∙ spread_named (value_rows Pair level) (drop (first Pair) values) (rest Pair level values long) (enough Pair level values long)

-- the values that were read are those to write: they hold the quote that its own values hold
pub values_back_lem : (number session : ℕ) (level : Level) (quote : Quote) (behind : List ℕ)
    → quote_in level (number ∷ session ∷ row_values level quote ++ behind) ≡ quote_of (record_form Contract level) (values_of (record_form Contract level) quote)
unfolding quote_in row_values value_rows named_rows quote_of values_of
values_back_lem number session One quote _ = refl
values_back_lem number session Two quote _ = refl

pub spread_values_back : (number : ℕ) (level : Level) (quote : SpreadQuote) (behind : List ℕ)
    → spread_in level (number ∷ spread_values level quote ++ behind) ≡ spread_quote_of (record_form Pair level) (spread_values_of (record_form Pair level) quote)
unfolding spread_in spread_values value_rows named_rows spread_quote_of spread_values_of
spread_values_back number One quote _ = refl
spread_values_back number Two quote _ = refl
