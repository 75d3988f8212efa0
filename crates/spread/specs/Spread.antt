-- M-100: the quote that a pair's cells hold, and its values, each row by its name.
use Rattle.std.specs.Prelude.{ℕ, true, false, List, get_or, Option, Some, None}
use Rattle.decimal.specs.Denotes.{below_zero}
use Rattle.amount.specs.declared.difference.Difference.{Difference}
use Rattle.spread.specs.declared.spread.SpreadOrder.{SpreadOrder}
use Rattle.spread.specs.declared.spread.SpreadQuote.{SpreadQuote}
use Rattle.decimal.specs.declared.Held.{Held}
use Rattle.decimal.specs.declared.Held.TheVariants.{Nothing, Units, Below}
use Rattle.forms.specs.declared.forms.Form.{Form}
use Rattle.forms.specs.Names.{Name, NamedRow, instrument, symbol, expiry, strike, option_type, second_instrument, second_symbol, second_expiry, second_strike, second_option_type, market_type, time_stamp, buy_price, buy_quantity, sell_price, sell_quantity, last_price, traded_quantity, status, opening_price, high_price, low_price, close_price, average_price, all_buyers, all_sellers, turnover as turnover_name}
use Rattle.forms.specs.Forms.{named_rows}
use Rattle.layout.specs.Cells.{held_in, zeros_behind}
use Rattle.layout.specs.Plain.{value_of}
use Rattle.quote.specs.Quote.{quantity_in, value_of_quantity, cell_named, side_in, values_by, where_named, seen_side}
use Rattle.spread.specs.Shows.{held_difference, no_spread_order}

-- ---- a price difference

-- M-100: a price difference, above or below zero, or "none"
abbrev pub difference_of : Held → Option Difference
difference_of Nothing = None
difference_of (Units n) = Some (record { 0 = false; 1 = n })
difference_of (Below n) = Some (record { 0 = true; 1 = n })

-- lent memory: the price difference that a cell holds
abbrev pub difference_in : ℕ → Option Difference
difference_in cell = difference_of (held_in true cell)

-- the host's header: the value of a price difference
abbrev pub value_of_difference : Option Difference → ℕ
value_of_difference d = value_of true (held_difference d)

-- M-100: minus zero is zero
abbrev pub plain_zero : Option Difference → Option Difference
plain_zero None = None
plain_zero (Some amount) = Some (record { 0 = below_zero amount.0 amount.1; 1 = amount.1 })

-- ---- the quote

-- M-100: an order is a price difference and a quantity, a cell each
abbrev pub spread_order_in : ℕ → ℕ → SpreadOrder
spread_order_in p q = record { price = difference_in p; quantity = quantity_in q }

-- 000 sections 4.6 and 4.7, 003 sections 4.3 and 4.4: the fields of an update of a pair, each picked by its name
abbrev pub spread_quote_by : List NamedRow → List ℕ → SpreadQuote
spread_quote_by rows cells =
    record {
      buy = side_in spread_order_in buy_price buy_quantity rows cells;
      sell = side_in spread_order_in sell_price sell_quantity rows cells;
      last = difference_in (cell_named rows last_price cells);
      traded = quantity_in (cell_named rows traded_quantity cells);
      opening = difference_in (cell_named rows opening_price cells);
      high = difference_in (cell_named rows high_price cells);
      low = difference_in (cell_named rows low_price cells);
      buyers = quantity_in (cell_named rows all_buyers cells);
      sellers = quantity_in (cell_named rows all_sellers cells);
    }

-- M-100: the quote that a form's cells hold
unfoldable pub spread_quote_of : Form → List ℕ → SpreadQuote
spread_quote_of form cells = spread_quote_by (named_rows form) cells

-- M-100, the host's header: the value of each field of a pair's quote; the key is none of it, and a pair has no market type, status,
-- close, average or turnover
abbrev pub spread_field_value : SpreadQuote → Name → ℕ
spread_field_value quote instrument = 0
spread_field_value quote symbol = 0
spread_field_value quote expiry = 0
spread_field_value quote strike = 0
spread_field_value quote option_type = 0
spread_field_value quote second_instrument = 0
spread_field_value quote second_symbol = 0
spread_field_value quote second_expiry = 0
spread_field_value quote second_strike = 0
spread_field_value quote second_option_type = 0
spread_field_value quote market_type = 0
spread_field_value quote time_stamp = 0
spread_field_value quote (buy_price k) = value_of_difference (get_or quote.buy k no_spread_order).price
spread_field_value quote (buy_quantity k) = value_of_quantity (get_or quote.buy k no_spread_order).quantity
spread_field_value quote (sell_price k) = value_of_difference (get_or quote.sell k no_spread_order).price
spread_field_value quote (sell_quantity k) = value_of_quantity (get_or quote.sell k no_spread_order).quantity
spread_field_value quote last_price = value_of_difference quote.last
spread_field_value quote traded_quantity = value_of_quantity quote.traded
spread_field_value quote status = 0
spread_field_value quote opening_price = value_of_difference quote.opening
spread_field_value quote high_price = value_of_difference quote.high
spread_field_value quote low_price = value_of_difference quote.low
spread_field_value quote close_price = 0
spread_field_value quote average_price = 0
spread_field_value quote all_buyers = value_of_quantity quote.buyers
spread_field_value quote all_sellers = value_of_quantity quote.sellers
spread_field_value quote turnover_name = 0

-- M-100: the values that a pair's quote's message of that form is written from, with zeros behind them
unfoldable pub spread_values_of : Form → SpreadQuote → List ℕ
spread_values_of form quote = zeros_behind (values_by (named_rows form) (spread_field_value quote))

-- ---- the quote as a form sees it: what it has no row for is none, and minus zero is zero

-- M-100: an order, where the form has its rows
abbrev pub seen_spread_order : List NamedRow → Name → Name → SpreadOrder → SpreadOrder
seen_spread_order rows price_name quantity_name order =
    record { price = where_named rows price_name (plain_zero order.price) None; quantity = where_named rows quantity_name order.quantity None }

-- M-100: what rows hold of a pair's quote
abbrev pub seen_spread_by : List NamedRow → SpreadQuote → SpreadQuote
seen_spread_by rows quote =
    record {
      buy = seen_side (seen_spread_order rows) no_spread_order buy_price buy_quantity quote.buy;
      sell = seen_side (seen_spread_order rows) no_spread_order sell_price sell_quantity quote.sell;
      last = where_named rows last_price (plain_zero quote.last) None;
      traded = where_named rows traded_quantity quote.traded None;
      opening = where_named rows opening_price (plain_zero quote.opening) None;
      high = where_named rows high_price (plain_zero quote.high) None;
      low = where_named rows low_price (plain_zero quote.low) None;
      buyers = where_named rows all_buyers quote.buyers None;
      sellers = where_named rows all_sellers quote.sellers None;
    }

-- M-100: what a pair's quote's message of that form holds of it
unfoldable pub seen_spread : Form → SpreadQuote → SpreadQuote
seen_spread form quote = seen_spread_by (named_rows form) quote
