-- A pair's quote through the data of an update: what was read can be written again, and what is written reads back as the form sees
-- it.
use Rattle.std.specs.Prelude.{ℕ, ◌-◌, ◌≡◌, refl, true, List, replicate, Option, Ok}
use Rattle.std.proofs.Common.{ap, ◌∙◌}
use Rattle.std.proofs.lemmas.Bool.{false≢true}
use Rattle.std.proofs.Math.ListN.{length}
use Rattle.forms.specs.declared.forms.Form.{Form}
use Rattle.forms.specs.declared.forms.Form.TheVariants.{Heartbeat, LevelOne, LevelTwo, PairOne, PairTwo, FutureOne, FutureTwo, PreOpenOne, PreOpenTwo}
use Rattle.forms.specs.Sizes.{most_rows}
use Rattle.forms.specs.Forms.{named_rows, rows_of, subject_of}
use Rattle.layout.specs.Cells.{held_in, zeros_behind}
use Rattle.layout.specs.Plain.{value_of, seen_values}
use Rattle.layout.specs.Read.{read_rows}
use Rattle.compose.specs.Write.{write_rows}
use Rattle.quote.specs.Quote.{of_pair, values_by}
use Rattle.quote.specs.NumberLaws.{value_again}
use Rattle.quote.proofs.QuoteTrip.{read, as_read, read_again, all_held, cells_again}
use Rattle.amount.specs.declared.difference.Difference.{Difference}
use Rattle.spread.specs.declared.spread.SpreadQuote.{SpreadQuote}
use Rattle.spread.specs.Spread.{value_of_difference, spread_quote_of, spread_field_value, spread_values_of, seen_spread}
use Rattle.spread.proofs.NumberLaws.{difference_number}
use Rattle.spread.proofs.SpreadLaws.{spread_cells_back, spread_back}

-- ---- what was read

-- a pair's quote that was read has the cells that were read for its values
pub spread_read_kept : (form : Form) (bytes : List ℕ) (good : (read_rows 0 (rows_of form) bytes).verdict ≡ Ok tt) → of_pair (subject_of form) ≡ true
    → spread_values_of form (spread_quote_of form (read form bytes good)) ≡ read form bytes good
spread_read_kept form bytes good is = spread_cells_back form is (read form bytes good) ∙ as_read form bytes good

-- ---- what is written

difference_again : (d : Option Difference) → value_of true (held_in true (value_of_difference d)) ≡ value_of_difference d
difference_again = value_again difference_number

own_spread_values : (form : Form) → of_pair (subject_of form) ≡ true → (quote : SpreadQuote)
    → zeros_behind (seen_values (rows_of form) (spread_values_of form quote)) ≡ spread_values_of form quote
unfolding rows_of named_rows spread_values_of
own_spread_values Heartbeat is quote = absurd (false≢true is)
own_spread_values LevelOne is quote = absurd (false≢true is)
own_spread_values LevelTwo is quote = absurd (false≢true is)
own_spread_values PairOne is quote = simp difference_again
own_spread_values PairTwo is quote = simp difference_again
own_spread_values FutureOne is quote = absurd (false≢true is)
own_spread_values FutureTwo is quote = absurd (false≢true is)
own_spread_values PreOpenOne is quote = absurd (false≢true is)
own_spread_values PreOpenTwo is quote = absurd (false≢true is)

module _ (form : Form) (is : of_pair (subject_of form) ≡ true) (quote : SpreadQuote) (key : List ℕ) (good : (write_rows 0 (rows_of form) key (spread_values_of form quote)).verdict ≡ Ok tt) where
  -- a pair's quote that can be written is the one that its values hold, as the form sees it
  pub spread_written_kept : spread_quote_of form (spread_values_of form quote) ≡ seen_spread form quote
  unfolding spread_quote_of spread_values_of seen_spread
  spread_written_kept =
      spread_back (spread_field_value quote) (named_rows form) (replicate (most_rows - length (values_by (named_rows form) (spread_field_value quote))) 0)
      (all_held form key (spread_values_of form quote) good (own_spread_values form is quote)) quote (λ name. refl)

  -- what is written from a pair's quote reads back as that quote
  pub spread_written_back : ((read_again form key (spread_values_of form quote)).verdict ≡ Ok tt)
      × (spread_quote_of form (zeros_behind (read_again form key (spread_values_of form quote)).cells) ≡ seen_spread form quote)
  spread_written_back =
      let again = cells_again form key (spread_values_of form quote) good (own_spread_values form is quote) in
      (again.0, ap (spread_quote_of form) again.1 ∙ spread_written_kept)
