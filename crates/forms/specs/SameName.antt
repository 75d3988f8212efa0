-- Whether two names are one, as it computes: `same_name` (NamesLaws).
use Rattle.std.specs.Prelude.{ℕ, Bool, ◌&&◌, eqb}
use Rattle.forms.specs.Names.{Name, all_buyers, all_sellers, average_price, buy_price, buy_quantity, close_price, expiry, high_price, instrument, last_price, low_price, market_type, opening_price, option_type, second_expiry, second_instrument, second_option_type, second_strike, second_symbol, sell_price, sell_quantity, status, strike, symbol, time_stamp, traded_quantity, turnover}

-- a word of our own: a number for each name, those of orders aside from their level
abbrev pub name_number : Name → ℕ
name_number instrument = 0
name_number symbol = 1
name_number expiry = 2
name_number strike = 3
name_number option_type = 4
name_number second_instrument = 5
name_number second_symbol = 6
name_number second_expiry = 7
name_number second_strike = 8
name_number second_option_type = 9
name_number market_type = 10
name_number (buy_price k) = 11
name_number (buy_quantity k) = 12
name_number (sell_price k) = 13
name_number (sell_quantity k) = 14
name_number last_price = 15
name_number traded_quantity = 16
name_number status = 17
name_number opening_price = 18
name_number high_price = 19
name_number low_price = 20
name_number close_price = 21
name_number average_price = 22
name_number all_buyers = 23
name_number all_sellers = 24
name_number turnover = 25
name_number time_stamp = 26

-- a word of our own: the level of an order's name
abbrev pub order_level : Name → ℕ
order_level instrument = 0
order_level symbol = 0
order_level expiry = 0
order_level strike = 0
order_level option_type = 0
order_level second_instrument = 0
order_level second_symbol = 0
order_level second_expiry = 0
order_level second_strike = 0
order_level second_option_type = 0
order_level market_type = 0
order_level (buy_price k) = k
order_level (buy_quantity k) = k
order_level (sell_price k) = k
order_level (sell_quantity k) = k
order_level last_price = 0
order_level traded_quantity = 0
order_level status = 0
order_level opening_price = 0
order_level high_price = 0
order_level low_price = 0
order_level close_price = 0
order_level average_price = 0
order_level all_buyers = 0
order_level all_sellers = 0
order_level turnover = 0
order_level time_stamp = 0

-- a word of our own: one name
abbrev pub same_name : Name → Name → Bool
same_name a b = eqb (name_number a) (name_number b) && eqb (order_level a) (order_level b)
