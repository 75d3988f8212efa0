-- Laws of a record that is shown.
use Rattle.std.specs.Prelude.{ℕ, ◌+◌, ◌≤◌, ◌≡◌, refl, List, ◌++◌, length, drop}
use Rattle.std.proofs.Common.{ap, ◌∙◌, arith}
use Rattle.std.proofs.lemmas.List.Edits.{sets, sets-eq}
use Rattle.forms.specs.declared.forms.Item.{Item}
use Rattle.forms.specs.declared.forms.Item.TheVariants.{Contract, Pair}
use Rattle.forms.specs.declared.forms.Session.{Session}
use Rattle.forms.specs.declared.rows.Level.{Level}
use Rattle.forms.specs.declared.rows.Level.TheVariants.{One, Two}
use Rattle.forms.specs.Forms.{named_rows}
use Rattle.quote.specs.declared.quote.Quote.{Quote}
use Rattle.spread.specs.declared.spread.SpreadQuote.{SpreadQuote}
use Rattle.values.specs.Values.{most, value_rows, row_values, spread_values}
use Rattle.told.specs.Shown.{values_in_front, value_count}

pub values_long : (number : ℕ) (session : Session) (level : Level) (quote : Quote)
    → length (values_in_front Contract number session ++ row_values level quote) ≡ value_count Contract level
unfolding row_values value_rows named_rows
values_long number session One quote = refl
values_long number session Two quote = refl

pub spread_values_long : (number : ℕ) (session : Session) (level : Level) (quote : SpreadQuote)
    → length (values_in_front Pair number session ++ spread_values level quote) ≡ value_count Pair level
unfolding spread_values value_rows named_rows
spread_values_long number session One quote = refl
spread_values_long number session Two quote = refl

counts_few : (item : Item) (level : Level) → value_count item level ≤ most
counts_few Contract One = omega arith
counts_few Contract Two = omega arith
counts_few Pair One = omega arith
counts_few Pair Two = omega arith

-- no value past them is written
pub values_put : (item : Item) (level : Level) (written values : List ℕ) → length written ≡ value_count item level → length values ≡ most
    → sets values 0 written ≡ written ++ drop (value_count item level) values
values_put item level written values count long =
    let all : 0 + length written ≡ value_count item level = omega (arith, count) in
    sets-eq written values 0 (omega (arith, counts_few item level)) ∙ ap (λ (n : ℕ). written ++ drop n values) all
