-- The rows of each form have the numbers at which the code has them.
use Rattle.std.specs.Prelude.{ℕ, ◌≡◌, refl, List, replicate}
use Rattle.std.proofs.Common.{arith}
use Rattle.forms.specs.declared.forms.Form.{Form}
use Rattle.forms.specs.declared.forms.Form.TheVariants.{Heartbeat, LevelOne, LevelTwo, PairOne, PairTwo, FutureOne, FutureTwo, PreOpenOne, PreOpenTwo}
use Rattle.quote.specs.declared.quote.Places.{Places}
use Rattle.quote.specs.declared.quote.Quote.{Quote}
use Rattle.forms.specs.Sizes.{most_rows}
use Rattle.forms.specs.Forms.{named_rows}
use Rattle.quote.specs.Quote.{quote_of, values_of}
use Rattle.quote.specs.Shows.{no_order}
use Rattle.quote.specs.Inner.{Room, places_of, quote_at, put_side, order_values, put_trades, put_own}

pub places_fit : (form : Form) → Room (places_of form)
places_fit Heartbeat = record { sides = (omega arith, omega arith, omega arith, omega arith); others = (omega arith, omega arith, omega arith, omega arith) }
places_fit LevelOne = record { sides = (omega arith, omega arith, omega arith, omega arith); others = (omega arith, omega arith, omega arith, omega arith) }
places_fit LevelTwo = record { sides = (omega arith, omega arith, omega arith, omega arith); others = (omega arith, omega arith, omega arith, omega arith) }
places_fit PairOne = record { sides = (omega arith, omega arith, omega arith, omega arith); others = (omega arith, omega arith, omega arith, omega arith) }
places_fit PairTwo = record { sides = (omega arith, omega arith, omega arith, omega arith); others = (omega arith, omega arith, omega arith, omega arith) }
places_fit FutureOne = record { sides = (omega arith, omega arith, omega arith, omega arith); others = (omega arith, omega arith, omega arith, omega arith) }
places_fit FutureTwo = record { sides = (omega arith, omega arith, omega arith, omega arith); others = (omega arith, omega arith, omega arith, omega arith) }
places_fit PreOpenOne = record { sides = (omega arith, omega arith, omega arith, omega arith); others = (omega arith, omega arith, omega arith, omega arith) }
places_fit PreOpenTwo = record { sides = (omega arith, omega arith, omega arith, omega arith); others = (omega arith, omega arith, omega arith, omega arith) }

pub quote_laid : (form : Form) (cells : List ℕ) → quote_at (places_of form) cells ≡ quote_of form cells
unfolding quote_of named_rows
quote_laid Heartbeat cells = refl
quote_laid LevelOne cells = refl
quote_laid LevelTwo cells = refl
quote_laid PairOne cells = refl
quote_laid PairTwo cells = refl
quote_laid FutureOne cells = refl
quote_laid FutureTwo cells = refl
quote_laid PreOpenOne cells = refl
quote_laid PreOpenTwo cells = refl

-- both sides of a quote, over no values
abbrev pub sides_laid : {A : Type 0} → (A → List ℕ) → A → Places → List A → List A → List ℕ
sides_laid each nothing at buy sell = put_side each nothing sell at.sell at.more_sell (put_side each nothing buy at.buy at.more_buy (replicate most_rows 0))

abbrev values_laid : Places → Quote → List ℕ
values_laid at quote = put_own at quote (put_trades at quote (sides_laid order_values no_order at quote.buy quote.sell))

pub values_laid_lem : (form : Form) (quote : Quote) → values_laid (places_of form) quote ≡ values_of form quote
unfolding values_of named_rows
values_laid_lem Heartbeat quote = refl
values_laid_lem LevelOne quote = refl
values_laid_lem LevelTwo quote = refl
values_laid_lem PairOne quote = refl
values_laid_lem PairTwo quote = refl
values_laid_lem FutureOne quote = refl
values_laid_lem FutureTwo quote = refl
values_laid_lem PreOpenOne quote = refl
values_laid_lem PreOpenTwo quote = refl
