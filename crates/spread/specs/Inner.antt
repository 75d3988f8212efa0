-- What the contracts of inner functions cite: a pair's quote and its values by the numbers of the rows.
use Rattle.std.specs.Prelude.{ℕ, ◌+◌, List, [], ◌∷◌}
use Rattle.quote.specs.declared.quote.Places.{Places}
use Rattle.quote.specs.Quote.{quantity_in, value_of_quantity}
use Rattle.quote.specs.Inner.{cell_from, side_at, put_parts}
use Rattle.spread.specs.declared.spread.SpreadOrder.{SpreadOrder}
use Rattle.spread.specs.declared.spread.SpreadQuote.{SpreadQuote}
use Rattle.spread.specs.Spread.{difference_in, value_of_difference, spread_order_in}

-- a word of our own: a pair's quote by the numbers of its rows
abbrev pub spread_quote_at : Places → List ℕ → SpreadQuote
spread_quote_at at cells =
    record {
      buy = side_at spread_order_in at.buy at.more_buy cells;
      sell = side_at spread_order_in at.sell at.more_sell cells;
      last = difference_in (cell_from cells at.last);
      traded = quantity_in (cell_from cells (at.last + 1));
      opening = difference_in (cell_from cells at.opening);
      high = difference_in (cell_from cells (at.opening + 1));
      low = difference_in (cell_from cells (at.opening + 2));
      buyers = quantity_in (cell_from cells at.totals);
      sellers = quantity_in (cell_from cells (at.totals + 1));
    }

-- a word of our own: the values of a pair's order
abbrev pub spread_order_values : SpreadOrder → List ℕ
spread_order_values order = value_of_difference order.price ∷ value_of_quantity order.quantity ∷ []

-- a word of our own: values with what is told of a pair's trades of the day, and of all its orders
abbrev pub put_differences : Places → SpreadQuote → List ℕ → List ℕ
put_differences at quote =
    put_parts at (value_of_difference quote.last ∷ value_of_quantity quote.traded ∷ [])
    (value_of_difference quote.opening ∷ value_of_difference quote.high ∷ value_of_difference quote.low ∷ [])
    (value_of_quantity quote.buyers ∷ value_of_quantity quote.sellers ∷ [])
