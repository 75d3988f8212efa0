-- What the writer refuses row by row, in the terms of the key and the quote: 01, the table's rows 11 and 12, M-100, M-104.
use Rattle.std.specs.Prelude.{ℕ, ◌<◌, Bool, false, ◌⊎◌, List, length, get_or, take, drop, Option, Some, None}
use Rattle.decimal.specs.declared.Kind.{Kind}
use Rattle.decimal.specs.Kinds as kind
use Rattle.print.specs.Write.{NoText}
use Rattle.quote.specs.declared.quote.Quote.{Quote}
use Rattle.amount.specs.declared.price.Price.{Price as PriceUnits}
use Rattle.amount.specs.declared.quantity.Quantity.{Quantity as QuantityUnits}
use Rattle.amount.specs.declared.turnover.Turnover.{Turnover as TurnoverUnits}
use Rattle.amount.specs.declared.difference.Difference.{Difference as DifferenceUnits}
use Rattle.spread.specs.declared.spread.SpreadQuote.{SpreadQuote}
use Rattle.forms.specs.declared.forms.Form.{Form}
use Rattle.forms.specs.declared.rows.Row.{Row}
use Rattle.forms.specs.declared.rows.Row.TheVariants.{Key, MarketType, Status, Price, Quantity, Turnover, Difference}
use Rattle.layout.specs.Cells.{key_used}
use Rattle.layout.specs.Says.{IsMarketType, IsStatus, row_at}
use Rattle.quote.specs.Shows.{no_order}
use Rattle.spread.specs.Shows.{no_spread_order}
use Rattle.forms.specs.Forms.{named_rows, rows_of}
use Rattle.forms.specs.Names.{Name, named, instrument, symbol, expiry, strike, option_type, second_instrument, second_symbol, second_expiry, second_strike, second_option_type, market_type, time_stamp, buy_price, buy_quantity, sell_price, sell_quantity, last_price, traded_quantity, status, opening_price, high_price, low_price, close_price, average_price, all_buyers, all_sellers, turnover as turnover_name}
use Rattle.forms.specs.Rows.{total}

-- 01 "The message", M-100: what a row is written from, its part of the key apart: a letter's byte, nothing, or so many units, with a
-- minus or without
pub data Value : Type 0 where
  letter : ℕ → Value
  nothing : Value
  amount : Bool → ℕ → Value

-- 01 "Numbers in text": a price, or "none"
abbrev pub price_given : Option PriceUnits → Value
price_given None = nothing
price_given (Some units) = amount false units.0

-- 01 "Numbers in text": a quantity, or "none"
abbrev pub quantity_given : Option QuantityUnits → Value
quantity_given None = nothing
quantity_given (Some units) = amount false units.0

-- 01 "Numbers in text": a turnover, or "none"
abbrev pub turnover_given : Option TurnoverUnits → Value
turnover_given None = nothing
turnover_given (Some units) = amount false units.0

-- M-100: a price difference, or "none"
abbrev pub difference_given : Option DifferenceUnits → Value
difference_given None = nothing
difference_given (Some units) = amount units.0 units.1

-- 01 "The message", M-104: each field of a quote; the key is none of it
abbrev pub field_given : Quote → Name → Value
field_given quote instrument = nothing
field_given quote symbol = nothing
field_given quote expiry = nothing
field_given quote strike = nothing
field_given quote option_type = nothing
field_given quote second_instrument = nothing
field_given quote second_symbol = nothing
field_given quote second_expiry = nothing
field_given quote second_strike = nothing
field_given quote second_option_type = nothing
field_given quote market_type = letter quote.market_type
field_given quote time_stamp = quantity_given quote.time_stamp
field_given quote (buy_price k) = price_given (get_or quote.buy k no_order).price
field_given quote (buy_quantity k) = quantity_given (get_or quote.buy k no_order).quantity
field_given quote (sell_price k) = price_given (get_or quote.sell k no_order).price
field_given quote (sell_quantity k) = quantity_given (get_or quote.sell k no_order).quantity
field_given quote last_price = price_given quote.last
field_given quote traded_quantity = quantity_given quote.traded
field_given quote status = letter quote.status
field_given quote opening_price = price_given quote.opening
field_given quote high_price = price_given quote.high
field_given quote low_price = price_given quote.low
field_given quote close_price = price_given quote.close
field_given quote average_price = price_given quote.average
field_given quote all_buyers = quantity_given quote.buyers
field_given quote all_sellers = quantity_given quote.sellers
field_given quote turnover_name = turnover_given quote.turnover

-- M-100: each field of a pair's quote; it has no market type, time stamp, status, close, average or turnover
abbrev pub spread_field_given : SpreadQuote → Name → Value
spread_field_given quote instrument = nothing
spread_field_given quote symbol = nothing
spread_field_given quote expiry = nothing
spread_field_given quote strike = nothing
spread_field_given quote option_type = nothing
spread_field_given quote second_instrument = nothing
spread_field_given quote second_symbol = nothing
spread_field_given quote second_expiry = nothing
spread_field_given quote second_strike = nothing
spread_field_given quote second_option_type = nothing
spread_field_given quote market_type = nothing
spread_field_given quote time_stamp = nothing
spread_field_given quote (buy_price k) = difference_given (get_or quote.buy k no_spread_order).price
spread_field_given quote (buy_quantity k) = quantity_given (get_or quote.buy k no_spread_order).quantity
spread_field_given quote (sell_price k) = difference_given (get_or quote.sell k no_spread_order).price
spread_field_given quote (sell_quantity k) = quantity_given (get_or quote.sell k no_spread_order).quantity
spread_field_given quote last_price = difference_given quote.last
spread_field_given quote traded_quantity = quantity_given quote.traded
spread_field_given quote status = nothing
spread_field_given quote opening_price = difference_given quote.opening
spread_field_given quote high_price = difference_given quote.high
spread_field_given quote low_price = difference_given quote.low
spread_field_given quote close_price = nothing
spread_field_given quote average_price = nothing
spread_field_given quote all_buyers = quantity_given quote.buyers
spread_field_given quote all_sellers = quantity_given quote.sellers
spread_field_given quote turnover_name = nothing

-- a word of our own: a letter's byte
abbrev pub byte_of : Value → ℕ
byte_of (letter byte) = byte
byte_of nothing = 0
byte_of (amount minus n) = 0

-- 01, the table's row 11: "a byte outside 32 to 126"
abbrev pub Outside : ℕ → Type 0
Outside byte = (byte < 32) ⊎ (126 < byte)

-- 01, the table's row 11, M-104: a byte of the row's part of the key, a market type that the row doesn't take, a status other than 'S'
-- and space
abbrev pub Malformed : Row → List ℕ → Value → Type 0
Malformed (Key width) part value = (b : ℕ) × (b < width) × Outside (get_or part b 0)
Malformed (MarketType markets) part value = IsMarketType markets (byte_of value) → ⊥
Malformed Status part value = IsStatus (byte_of value) → ⊥
Malformed (Price width) part value = ⊥
Malformed (Quantity width) part value = ⊥
Malformed (Turnover width) part value = ⊥
Malformed (Difference width) part value = ⊥

-- 01, the table's row 12, M-100: over the largest amount, on either side of zero, or no text of the field's width denotes it, minus
-- zero being zero; "none" always can be written
abbrev pub Unwritable : Kind → ℕ → Value → Type 0
Unwritable kind width (letter byte) = ⊥
Unwritable kind width nothing = ⊥
Unwritable kind width (amount minus n) = (kind.most < n) ⊎ NoText kind width minus n

-- 01, the table's row 12: only a number can be out of range, each by its kind
abbrev pub OutOfRange : Row → Value → Type 0
OutOfRange (Key width) value = ⊥
OutOfRange (MarketType markets) value = ⊥
OutOfRange Status value = ⊥
OutOfRange (Price width) value = Unwritable kind.price width value
OutOfRange (Quantity width) value = Unwritable kind.quantity width value
OutOfRange (Turnover width) value = Unwritable kind.turnover width value
OutOfRange (Difference width) value = Unwritable kind.difference width value

-- 01 "What may be asked": rows count from 0 as laid out; the value of row k
abbrev pub value_at : Form → (Name → Value) → ℕ → Value
value_at form given k = given (get_or (named_rows form) k (named instrument (Key 0))).name

-- 01 "The message": the key from that row's part on
abbrev pub part_at : Form → List ℕ → ℕ → List ℕ
part_at form key k = drop (total key_used (take k (rows_of form))) key

-- 01, the table's row 11, of row k
abbrev pub MalformedAt : Form → List ℕ → (Name → Value) → ℕ → Type 0
MalformedAt form key given k = Malformed (row_at (rows_of form) k) (part_at form key k) (value_at form given k)

-- 01, the table's row 12, of row k
abbrev pub OutOfRangeAt : Form → (Name → Value) → ℕ → Type 0
OutOfRangeAt form given k = OutOfRange (row_at (rows_of form) k) (value_at form given k)

-- 01, the table's rows 11 and 12: nothing is wrong with row k
abbrev pub Fine : Form → List ℕ → (Name → Value) → ℕ → Type 0
Fine form key given k = (MalformedAt form key given k → ⊥) × (OutOfRangeAt form given k → ⊥)

-- 01, the table's rows 11 and 12: every row is fine
abbrev pub AllFine : Form → List ℕ → (Name → Value) → Type 0
AllFine form key given = (k : ℕ) → k < length (rows_of form) → Fine form key given k

-- 01, the order of checks, by row: row k is bad in this way, and every row before it is fine
pub record First (form : Form) (key : List ℕ) (given : Name → Value) (Bad : ℕ → Type 0) (k : ℕ) : Type 0 where
  pub within : k < length (rows_of form)
  pub bad : Bad k
  pub fine_before : (j : ℕ) → j < k → Fine form key given j
