-- The values of an update, as hosts and the test bench are told them: its number, a contract's session, then one value a row behind
-- the key. What a value is follows from the quote's fields (`quote` Quote: `field_value`, `spread` Spread: `spread_field_value`, by `layout` Plain), and
-- not from how a cell of lent memory holds them.
use Rattle.std.specs.Prelude.{ℕ, ◌+◌, ◌-◌, true, false, List, map, get_or, drop}
use Rattle.std.proofs.Math.Option.{Option, none, some}
use Rattle.forms.specs.declared.forms.Item.{Item}
use Rattle.forms.specs.declared.forms.Item.TheVariants.{Contract, Pair}
use Rattle.forms.specs.declared.rows.Level.{Level}
use Rattle.forms.specs.Names.{Name, NamedRow, market_type, time_stamp, buy_price, buy_quantity, sell_price, sell_quantity, last_price, traded_quantity, status, opening_price, high_price, low_price, close_price, average_price, all_buyers, all_sellers, turnover as turnover_name}
use Rattle.forms.specs.Forms.{named_rows, key_rows_of, record_form}
use Rattle.forms.specs.Sizes.{most_rows, key_row_count}
use Rattle.layout.specs.Plain.{no_value, held_of, letter_of}
use Rattle.slots.specs.Slots.{cells_in_front}
use Rattle.quote.specs.declared.quote.Order.{Order}
use Rattle.quote.specs.declared.quote.Quote.{Quote}
use Rattle.quote.specs.Quote.{price_of, quantity_of, turnover_of, order_levels, row_named, field_value}
use Rattle.spread.specs.declared.spread.SpreadOrder.{SpreadOrder}
use Rattle.spread.specs.declared.spread.SpreadQuote.{SpreadQuote}
use Rattle.spread.specs.Spread.{difference_of, spread_field_value}

-- ---- the values of a quote

-- the host's header: the values of the rows stand behind the number; M-104: of a contract behind number and session, as in its record
abbrev pub first : Item → ℕ
first item = cells_in_front item

-- the host's header: number, session, and the values of the level that has the most
abbrev pub most : ℕ
most = first Contract + most_rows - key_row_count

-- the host's header: the rows behind the key, in the order in which they are laid out
unfoldable pub value_rows : Item → Level → List NamedRow
value_rows item level = drop (key_rows_of item) (named_rows (record_form item level))

-- the host's header: one value a row, by the row's name
unfoldable pub row_values : Level → Quote → List ℕ
row_values level quote = map (λ row. field_value quote row.name) (value_rows Contract level)

-- the host's header: the same of a pair
unfoldable pub spread_values : Level → SpreadQuote → List ℕ
spread_values level quote = map (λ row. spread_field_value quote row.name) (value_rows Pair level)

-- ---- the quote that values hold

-- the host's header: the value of a row; what a level has no row for is "none"
abbrev pub value_at : Option ℕ → List ℕ → ℕ
value_at none values = no_value
value_at (some k) values = get_or values k 0

-- the host's header: an order is a price and a quantity, a value each
abbrev pub order_from : ℕ → ℕ → Order
order_from p q = record { price = price_of (held_of false p); quantity = quantity_of (held_of false q) }

-- the host's header: the quote whose fields have these values
abbrev pub quote_from : (Name → ℕ) → Quote
quote_from value =
    record {
      market_type = letter_of (value market_type);
      time_stamp = quantity_of (held_of false (value time_stamp));
      buy = map (λ k. order_from (value (buy_price k)) (value (buy_quantity k))) order_levels;
      sell = map (λ k. order_from (value (sell_price k)) (value (sell_quantity k))) order_levels;
      last = price_of (held_of false (value last_price));
      traded = quantity_of (held_of false (value traded_quantity));
      status = letter_of (value status);
      opening = price_of (held_of false (value opening_price));
      high = price_of (held_of false (value high_price));
      low = price_of (held_of false (value low_price));
      close = price_of (held_of false (value close_price));
      average = price_of (held_of false (value average_price));
      buyers = quantity_of (held_of false (value all_buyers));
      sellers = quantity_of (held_of false (value all_sellers));
      turnover = turnover_of (held_of false (value turnover_name));
    }

-- the host's header: a pair's order is a price difference and a quantity, a value each
abbrev pub spread_order_from : ℕ → ℕ → SpreadOrder
spread_order_from p q = record { price = difference_of (held_of true p); quantity = quantity_of (held_of false q) }

-- the host's header: a pair's quote whose fields have these values
abbrev pub spread_from : (Name → ℕ) → SpreadQuote
spread_from value =
    record {
      buy = map (λ k. spread_order_from (value (buy_price k)) (value (buy_quantity k))) order_levels;
      sell = map (λ k. spread_order_from (value (sell_price k)) (value (sell_quantity k))) order_levels;
      last = difference_of (held_of true (value last_price));
      traded = quantity_of (held_of false (value traded_quantity));
      opening = difference_of (held_of true (value opening_price));
      high = difference_of (held_of true (value high_price));
      low = difference_of (held_of true (value low_price));
      buyers = quantity_of (held_of false (value all_buyers));
      sellers = quantity_of (held_of false (value all_sellers));
    }

-- the host's header: the value of the row with a name, behind number and session, which the writer doesn't look at
abbrev pub value_named : Item → Level → List ℕ → Name → ℕ
value_named item level values name = value_at (row_named (value_rows item level) name) (drop (first item) values)

-- the host's header: the quote that values hold, each by its row's name
unfoldable pub quote_in : Level → List ℕ → Quote
quote_in level values = quote_from (value_named Contract level values)

-- the host's header: the same of a pair
unfoldable pub spread_in : Level → List ℕ → SpreadQuote
spread_in level values = spread_from (value_named Pair level values)
