-- What a pair's quote shows of an update's data, each of its fields from the field of the same name: demand 2, M-100, 000 sections
-- 4.6 and 4.7, 003 sections 4.3 and 4.4.
use Rattle.std.specs.Prelude.{ℕ, ◌<◌, List, get_or, Option, Some, None}
use Rattle.std.proofs.Math.Option.{Option as Maybe}
use Rattle.decimal.specs.Kinds.{quantity, difference}
use Rattle.decimal.specs.declared.Held.{Held}
use Rattle.decimal.specs.declared.Held.TheVariants.{Nothing}
use Rattle.layout.specs.Cells.{sided}
use Rattle.forms.specs.Names.{Name, buy_price, buy_quantity, sell_price, sell_quantity, last_price, traded_quantity, opening_price, high_price, low_price, all_buyers, all_sellers}
use Rattle.quote.specs.Shows.{held_quantity, most_orders, Shows}
use Rattle.amount.specs.declared.difference.Difference.{Difference}
use Rattle.spread.specs.declared.spread.SpreadOrder.{SpreadOrder}
use Rattle.spread.specs.declared.spread.SpreadQuote.{SpreadQuote}

-- M-100: the number of a price difference, above or below zero, or none; minus zero is zero
abbrev pub held_difference : Option Difference → Held
held_difference None = Nothing
held_difference (Some amount) = sided amount.0 amount.1

-- M-100: a pair's order whose price difference and quantity are none
abbrev pub no_spread_order : SpreadOrder
no_spread_order = record { price = None; quantity = None }

-- M-100, 000 sections 4.6 and 4.7, 003 sections 4.3 and 4.4: every field of a pair's quote beside the text of its name
pub record ShowsSpreadFields (text : Name → Maybe (List ℕ)) (quote : SpreadQuote) : Type 0 where
  pub buy_price_shown : (k : ℕ) → k < most_orders → Shows difference (text (buy_price k)) (held_difference (get_or quote.buy k no_spread_order).price)
  pub buy_quantity_shown : (k : ℕ) → k < most_orders → Shows quantity (text (buy_quantity k)) (held_quantity (get_or quote.buy k no_spread_order).quantity)
  pub sell_price_shown : (k : ℕ) → k < most_orders → Shows difference (text (sell_price k)) (held_difference (get_or quote.sell k no_spread_order).price)
  pub sell_quantity_shown : (k : ℕ) → k < most_orders → Shows quantity (text (sell_quantity k)) (held_quantity (get_or quote.sell k no_spread_order).quantity)
  pub last_price_shown : Shows difference (text last_price) (held_difference quote.last)
  pub traded_quantity_shown : Shows quantity (text traded_quantity) (held_quantity quote.traded)
  pub opening_price_shown : Shows difference (text opening_price) (held_difference quote.opening)
  pub high_price_shown : Shows difference (text high_price) (held_difference quote.high)
  pub low_price_shown : Shows difference (text low_price) (held_difference quote.low)
  pub all_buyers_shown : Shows quantity (text all_buyers) (held_quantity quote.buyers)
  pub all_sellers_shown : Shows quantity (text all_sellers) (held_quantity quote.sellers)
