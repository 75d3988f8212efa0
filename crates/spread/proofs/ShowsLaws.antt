-- Demand 2, "Each number is the exact decimal in its field": a pair's quote of good rows shows each field from the field of its name.
use Rattle.std.specs.Prelude.{ℕ, ◌≡◌, refl, true, List, Ok}
use Rattle.decimal.specs.Kinds.{difference, quantity}
use Rattle.forms.specs.declared.rows.Row.TheVariants.{Difference, Quantity}
use Rattle.forms.specs.declared.forms.Form.{Form}
use Rattle.forms.specs.Names.{Name, NamedRow, buy_price, buy_quantity, sell_price, sell_quantity, last_price, traded_quantity, opening_price, high_price, low_price, all_buyers, all_sellers}
use Rattle.forms.specs.Forms.{named_rows, rows_of, subject_of}
use Rattle.layout.specs.Cells.{zeros_behind}
use Rattle.layout.specs.Read.{read_rows}
use Rattle.quote.specs.Quote.{quantity_in, of_pair}
use Rattle.quote.specs.Shows.{held_quantity, field_named, Shows}
use Rattle.quote.proofs.ShowsLaws.{kind_named, Kinded, plain, cell, shown, quantity_shown, order_by, form_kinded}
use Rattle.quote.proofs.RowsLaws.{at_level_lem}
use Rattle.spread.specs.declared.spread.SpreadOrder.{SpreadOrder}
use Rattle.spread.specs.Spread.{difference_in, spread_order_in, spread_quote_by, spread_quote_of}
use Rattle.spread.specs.Shows.{held_difference, no_spread_order, ShowsSpreadFields}
use Rattle.spread.proofs.NumberLaws.{difference_number}

module _ (rows : List NamedRow) (kinded : Kinded (Difference 0) rows) (bytes : List ℕ) (good : (read_rows 0 (plain rows) bytes).verdict ≡ Ok tt) where
  abbrev held : Name → ℕ
  held = cell (Difference 0) rows kinded bytes good

  difference_shown : (name : Name) → kind_named (Difference 0) name ≡ Difference 0
      → Shows difference (field_named rows bytes name) (held_difference (difference_in (held name)))
  difference_shown = shown (Difference 0) rows kinded bytes good difference (Difference 0) (λ f c h. h) difference_number

  count_shown : (name : Name) → kind_named (Difference 0) name ≡ Quantity 0 → Shows quantity (field_named rows bytes name) (held_quantity (quantity_in (held name)))
  count_shown = quantity_shown (Difference 0) rows kinded bytes good

  -- an order of a side, by its names
  abbrev order : (ℕ → Name) → (ℕ → Name) → ℕ → SpreadOrder
  order = order_by (Difference 0) rows kinded bytes good spread_order_in

  shows_spread_rows : ShowsSpreadFields (field_named rows bytes) (spread_quote_by rows (zeros_behind (read_rows 0 (plain rows) bytes).cells))
  shows_spread_rows =
      record {
        buy_price_shown = λ k h. rw (at_level_lem no_spread_order (order buy_price buy_quantity) k h) (difference_shown (buy_price k) refl);
        buy_quantity_shown = λ k h. rw (at_level_lem no_spread_order (order buy_price buy_quantity) k h) (count_shown (buy_quantity k) refl);
        sell_price_shown = λ k h. rw (at_level_lem no_spread_order (order sell_price sell_quantity) k h) (difference_shown (sell_price k) refl);
        sell_quantity_shown = λ k h. rw (at_level_lem no_spread_order (order sell_price sell_quantity) k h) (count_shown (sell_quantity k) refl);
        last_price_shown = difference_shown last_price refl;
        traded_quantity_shown = count_shown traded_quantity refl;
        opening_price_shown = difference_shown opening_price refl;
        high_price_shown = difference_shown high_price refl;
        low_price_shown = difference_shown low_price refl;
        all_buyers_shown = count_shown all_buyers refl;
        all_sellers_shown = count_shown all_sellers refl;
      }

-- of each form of a pair whose rows are good
pub shows_spread_fields : (form : Form) → of_pair (subject_of form) ≡ true → (bytes : List ℕ) → (read_rows 0 (rows_of form) bytes).verdict ≡ Ok tt
    → ShowsSpreadFields (field_named (named_rows form) bytes) (spread_quote_of form (zeros_behind (read_rows 0 (rows_of form) bytes).cells))
unfolding rows_of spread_quote_of
shows_spread_fields form is bytes good = shows_spread_rows (named_rows form) (rw is at (form_kinded form)) bytes good
