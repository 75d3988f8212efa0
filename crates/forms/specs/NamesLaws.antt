-- A name's number and level tell it from every other.
use Rattle.std.specs.Prelude.{ℕ, ◌≡◌, refl, true, ◌↔◌, [], ◌∷◌, get_or}
use Rattle.std.proofs.Common.{ap, ap₂, sym, ◌∙◌}
use Rattle.laws.specs.Tests.{eqb_is, and_is}
use Rattle.forms.specs.Names.{Name, instrument, symbol, expiry, strike, option_type, second_instrument, second_symbol, second_expiry, second_strike, second_option_type, market_type, buy_price, buy_quantity, sell_price, sell_quantity, last_price, traded_quantity, status, opening_price, high_price, low_price, close_price, average_price, all_buyers, all_sellers, turnover, time_stamp}
use Rattle.forms.specs.SameName.{name_number, order_level, same_name}

name_from : ℕ → ℕ → Name
name_from number k =
    get_or
    (instrument ∷ symbol ∷ expiry ∷ strike ∷ option_type
    ∷ second_instrument ∷ second_symbol ∷ second_expiry ∷ second_strike ∷ second_option_type ∷ market_type ∷ buy_price k ∷ buy_quantity k ∷ sell_price k ∷ sell_quantity k
    ∷ last_price ∷ traded_quantity ∷ status ∷ opening_price ∷ high_price ∷ low_price ∷ close_price ∷ average_price ∷ all_buyers ∷ all_sellers
    ∷ turnover ∷ time_stamp ∷ [])
    number instrument

name_back : (name : Name) → name_from (name_number name) (order_level name) ≡ name
unfolding name_from
name_back instrument = refl
name_back symbol = refl
name_back expiry = refl
name_back strike = refl
name_back option_type = refl
name_back second_instrument = refl
name_back second_symbol = refl
name_back second_expiry = refl
name_back second_strike = refl
name_back second_option_type = refl
name_back market_type = refl
name_back (buy_price k) = refl
name_back (buy_quantity k) = refl
name_back (sell_price k) = refl
name_back (sell_quantity k) = refl
name_back last_price = refl
name_back traded_quantity = refl
name_back status = refl
name_back opening_price = refl
name_back high_price = refl
name_back low_price = refl
name_back close_price = refl
name_back average_price = refl
name_back all_buyers = refl
name_back all_sellers = refl
name_back turnover = refl
name_back time_stamp = refl

pub same_name_lem : (a b : Name) → same_name a b ≡ true ↔ a ≡ b
same_name_lem a b =
    let tests = and_is (eqb_is (name_number a) (name_number b)) (eqb_is (order_level a) (order_level b)) in (
      (λ e. let both = tests.0 e in sym (name_back a) ∙ ap₂ name_from both.0 both.1 ∙ name_back b),
      (λ e. tests.1 (ap name_number e, ap order_level e)),
    )
