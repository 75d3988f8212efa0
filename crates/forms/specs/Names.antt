-- The names of rows, and rows with their names.
use Rattle.std.specs.Prelude.{ℕ}
use Rattle.forms.specs.declared.rows.Row.{Row}

-- 000 sections 4.4 to 4.7, 003 sections 4.3 to 4.6, 002 sections 4.4 and 4.5: the fields of an update, a pair's second key too; an
-- order's level counts from 0
pub data Name : Type 0 where
  instrument : Name
  symbol : Name
  expiry : Name
  strike : Name
  option_type : Name
  second_instrument : Name
  second_symbol : Name
  second_expiry : Name
  second_strike : Name
  second_option_type : Name
  market_type : Name
  time_stamp : Name
  buy_price : ℕ → Name
  buy_quantity : ℕ → Name
  sell_price : ℕ → Name
  sell_quantity : ℕ → Name
  last_price : Name
  traded_quantity : Name
  status : Name
  opening_price : Name
  high_price : Name
  low_price : Name
  close_price : Name
  average_price : Name
  all_buyers : Name
  all_sellers : Name
  turnover : Name

-- a word of our own: a row with its name
pub record NamedRow : Type 0 where
  pub name : Name
  pub row : Row

-- a word of our own: a row with its name, written on one line
abbrev pub named : Name → Row → NamedRow
named name row = record { name = name; row = row }
