-- The rows of each form have the numbers at which the code of a pair's quote has them.
use Rattle.std.specs.Prelude.{ℕ, ◌≡◌, refl, List}
use Rattle.forms.specs.declared.forms.Form.{Form}
use Rattle.forms.specs.declared.forms.Form.TheVariants.{Heartbeat, LevelOne, LevelTwo, PairOne, PairTwo, FutureOne, FutureTwo, PreOpenOne, PreOpenTwo}
use Rattle.forms.specs.Forms.{named_rows}
use Rattle.quote.specs.declared.quote.Places.{Places}
use Rattle.quote.specs.Inner.{places_of}
use Rattle.quote.proofs.PlacesLaws.{sides_laid}
use Rattle.spread.specs.declared.spread.SpreadQuote.{SpreadQuote}
use Rattle.spread.specs.Shows.{no_spread_order}
use Rattle.spread.specs.Inner.{spread_quote_at, spread_order_values, put_differences}
use Rattle.spread.specs.Spread.{spread_quote_of, spread_values_of}

pub spread_laid : (form : Form) (cells : List ℕ) → spread_quote_at (places_of form) cells ≡ spread_quote_of form cells
unfolding spread_quote_of named_rows
spread_laid Heartbeat cells = refl
spread_laid LevelOne cells = refl
spread_laid LevelTwo cells = refl
spread_laid PairOne cells = refl
spread_laid PairTwo cells = refl
spread_laid FutureOne cells = refl
spread_laid FutureTwo cells = refl
spread_laid PreOpenOne cells = refl
spread_laid PreOpenTwo cells = refl

abbrev spread_values_laid : Places → SpreadQuote → List ℕ
spread_values_laid at quote = put_differences at quote (sides_laid spread_order_values no_spread_order at quote.buy quote.sell)

pub spread_values_laid_lem : (form : Form) (quote : SpreadQuote) → spread_values_laid (places_of form) quote ≡ spread_values_of form quote
unfolding spread_values_of named_rows
spread_values_laid_lem Heartbeat quote = refl
spread_values_laid_lem LevelOne quote = refl
spread_values_laid_lem LevelTwo quote = refl
spread_values_laid_lem PairOne quote = refl
spread_values_laid_lem PairTwo quote = refl
spread_values_laid_lem FutureOne quote = refl
spread_values_laid_lem FutureTwo quote = refl
spread_values_laid_lem PreOpenOne quote = refl
spread_values_laid_lem PreOpenTwo quote = refl
