-- Laws of the values that a host is told of a contract's record or of a pair's.
use Rattle.std.specs.Prelude.{ℕ, ◌≡◌, refl, List, ◌++◌, length, get_or, drop}
use Rattle.std.proofs.lemmas.List.Edits.{sets}
use Rattle.forms.specs.declared.forms.Item.{Item}
use Rattle.forms.specs.declared.forms.Item.TheVariants.{Contract, Pair}
use Rattle.forms.specs.declared.forms.Session.{Session}
use Rattle.forms.specs.declared.rows.Level.{Level}
use Rattle.values.specs.Values.{most}
use Rattle.reading.specs.Shown.{QuoteFor}
use Rattle.told.specs.Shown.{values_in_front, value_count}
use Rattle.told.specs.ShownLaws.{values_long, spread_values_long, values_put}
use Rattle.hosted.specs.HostItems.{values_for}

values_counted : (item : Item) (number : ℕ) (session : Session) (level : Level) (quote : QuoteFor item) → length (values_in_front item number session ++ values_for item level quote) ≡ value_count item level
values_counted Contract number session level quote = values_long number session level quote
values_counted Pair number session level quote = spread_values_long number session level quote

-- a record that is shown is its number, its session and its rows, and every value behind them stays
pub item_put : (item : Item) (number : ℕ) (session : Session) (level : Level) (quote : QuoteFor item) (values : List ℕ) → length values ≡ most
    → sets values 0 (values_in_front item number session ++ values_for item level quote) ≡ (values_in_front item number session ++ values_for item level quote) ++ drop (value_count item level) values
item_put item number session level quote values long =
    values_put item level (values_in_front item number session ++ values_for item level quote) values (values_counted item number session level quote) long

-- the first of the values is its number
pub front_number : (item : Item) (number : ℕ) (session : Session) (rows : List ℕ) → get_or (values_in_front item number session ++ rows) 0 0 ≡ number
front_number Contract number session rows = refl
front_number Pair number session rows = refl
