-- The values that a host is told of an update are what its message's fields say.
use Rattle.std.specs.Prelude.{ℕ, ◌≡◌, refl, Bool, true, false, ◌&&◌, List, [], ◌∷◌, ◌++◌, ltb}
use Rattle.std.proofs.Common.{sym, ap, ltb-true}
use Rattle.std.proofs.Math.Bool.{and-eq-true_iff}
use Rattle.std.proofs.lemmas.Bool.{false≢true}
use Rattle.std.proofs.Math.Option.{Option, some}
use Rattle.lookup.specs.Lookup.{segment_of}
use Rattle.pairs.specs.Lists.{Lists}
use Rattle.forms.specs.declared.forms.Item.{Item}
use Rattle.forms.specs.declared.forms.Item.TheVariants.{Contract, Pair}
use Rattle.forms.specs.declared.rows.Level.{Level}
use Rattle.forms.specs.declared.rows.Level.TheVariants.{One, Two}
use Rattle.forms.specs.Names.{Name, NamedRow, instrument, symbol, expiry, strike, option_type, second_instrument, second_symbol, second_expiry, second_strike, second_option_type, market_type, time_stamp, buy_price, buy_quantity, sell_price, sell_quantity, last_price, traded_quantity, status, opening_price, high_price, low_price, close_price, average_price, all_buyers, all_sellers, turnover as turnover_name}
use Rattle.forms.specs.SameName.{order_level}
use Rattle.forms.specs.Forms.{named_rows, session_of}
use Rattle.layout.specs.Cells.{session_cell}
use Rattle.quote.specs.declared.quote.Quote.{Quote}
use Rattle.quote.specs.Quote.{field_value, values_by}
use Rattle.quote.specs.Shows.{most_orders, ShowsFields}
use Rattle.spread.specs.declared.spread.SpreadQuote.{SpreadQuote}
use Rattle.spread.specs.Spread.{spread_field_value}
use Rattle.spread.specs.Shows.{ShowsSpreadFields}
use Rattle.head.specs.HeadLaws.{session_by}
use Rattle.message.specs.Message.{Message}
use Rattle.message.specs.Reads.{message_of}
use Rattle.slots.specs.Slots.{Slot, slot as record_slot}
use Rattle.values.specs.Values.{value_rows, row_values, spread_values}
use Rattle.reading.specs.Shown.{QuoteFor, shown, ShowsEach}
use Rattle.told.specs.Shown.{values_in_front}
use Rattle.history.proofs.RecordLaws.{update_says}
use Rattle.history.specs.Updates.{slot_of, item_in, level_in}
use Rattle.history.specs.Machine.{sequence_number, form_sent}
use Rattle.hosted.specs.HostItems.{values_for}
use Rattle.hosted.specs.HostValues.{ValueSays, EachSays, ValuesSay}

-- ---- one value

-- an order's name has a level of a side
abbrev in_side : Name → Bool
in_side name = ltb (order_level name) most_orders

contract_says : (text : Name → Option (List ℕ)) (quote : Quote) → ShowsFields text quote → (name : Name) → in_side name ≡ true → ValueSays Contract text name (field_value quote name)
contract_says text quote h instrument e = tt
contract_says text quote h symbol e = tt
contract_says text quote h expiry e = tt
contract_says text quote h strike e = tt
contract_says text quote h option_type e = tt
contract_says text quote h second_instrument e = tt
contract_says text quote h second_symbol e = tt
contract_says text quote h second_expiry e = tt
contract_says text quote h second_strike e = tt
contract_says text quote h second_option_type e = tt
contract_says text quote h market_type e = h.market_type_shown
contract_says text quote h time_stamp e = (_, h.time_stamp_shown, refl)
contract_says text quote h (buy_price k) e = (_, h.buy_price_shown k (ltb-true k most_orders e), refl)
contract_says text quote h (buy_quantity k) e = (_, h.buy_quantity_shown k (ltb-true k most_orders e), refl)
contract_says text quote h (sell_price k) e = (_, h.sell_price_shown k (ltb-true k most_orders e), refl)
contract_says text quote h (sell_quantity k) e = (_, h.sell_quantity_shown k (ltb-true k most_orders e), refl)
contract_says text quote h last_price e = (_, h.last_price_shown, refl)
contract_says text quote h traded_quantity e = (_, h.traded_quantity_shown, refl)
contract_says text quote h status e = h.status_letter
contract_says text quote h opening_price e = (_, h.opening_price_shown, refl)
contract_says text quote h high_price e = (_, h.high_price_shown, refl)
contract_says text quote h low_price e = (_, h.low_price_shown, refl)
contract_says text quote h close_price e = (_, h.close_price_shown, refl)
contract_says text quote h average_price e = (_, h.average_price_shown, refl)
contract_says text quote h all_buyers e = (_, h.all_buyers_shown, refl)
contract_says text quote h all_sellers e = (_, h.all_sellers_shown, refl)
contract_says text quote h turnover_name e = (_, h.turnover_shown, refl)

-- the fields that a pair has
abbrev of_pairs : Name → Bool
of_pairs instrument = false
of_pairs symbol = false
of_pairs expiry = false
of_pairs strike = false
of_pairs option_type = false
of_pairs second_instrument = false
of_pairs second_symbol = false
of_pairs second_expiry = false
of_pairs second_strike = false
of_pairs second_option_type = false
of_pairs market_type = false
of_pairs time_stamp = false
of_pairs (buy_price k) = ltb k most_orders
of_pairs (buy_quantity k) = ltb k most_orders
of_pairs (sell_price k) = ltb k most_orders
of_pairs (sell_quantity k) = ltb k most_orders
of_pairs last_price = true
of_pairs traded_quantity = true
of_pairs status = false
of_pairs opening_price = true
of_pairs high_price = true
of_pairs low_price = true
of_pairs close_price = false
of_pairs average_price = false
of_pairs all_buyers = true
of_pairs all_sellers = true
of_pairs turnover_name = false

pair_says : (text : Name → Option (List ℕ)) (quote : SpreadQuote) → ShowsSpreadFields text quote → (name : Name) → of_pairs name ≡ true → ValueSays Pair text name (spread_field_value quote name)
pair_says text quote h instrument e = tt
pair_says text quote h symbol e = tt
pair_says text quote h expiry e = tt
pair_says text quote h strike e = tt
pair_says text quote h option_type e = tt
pair_says text quote h second_instrument e = tt
pair_says text quote h second_symbol e = tt
pair_says text quote h second_expiry e = tt
pair_says text quote h second_strike e = tt
pair_says text quote h second_option_type e = tt
pair_says text quote h market_type e = absurd (false≢true e)
pair_says text quote h time_stamp e = absurd (false≢true e)
pair_says text quote h (buy_price k) e = (_, h.buy_price_shown k (ltb-true k most_orders e), refl)
pair_says text quote h (buy_quantity k) e = (_, h.buy_quantity_shown k (ltb-true k most_orders e), refl)
pair_says text quote h (sell_price k) e = (_, h.sell_price_shown k (ltb-true k most_orders e), refl)
pair_says text quote h (sell_quantity k) e = (_, h.sell_quantity_shown k (ltb-true k most_orders e), refl)
pair_says text quote h last_price e = (_, h.last_price_shown, refl)
pair_says text quote h traded_quantity e = (_, h.traded_quantity_shown, refl)
pair_says text quote h status e = absurd (false≢true e)
pair_says text quote h opening_price e = (_, h.opening_price_shown, refl)
pair_says text quote h high_price e = (_, h.high_price_shown, refl)
pair_says text quote h low_price e = (_, h.low_price_shown, refl)
pair_says text quote h close_price e = absurd (false≢true e)
pair_says text quote h average_price e = absurd (false≢true e)
pair_says text quote h all_buyers e = (_, h.all_buyers_shown, refl)
pair_says text quote h all_sellers e = (_, h.all_sellers_shown, refl)
pair_says text quote h turnover_name e = absurd (false≢true e)

-- ---- one value a row

abbrev all_named : (Name → Bool) → List NamedRow → Bool
all_named test [] = true
all_named test (row ∷ rows) = test row.name && all_named test rows

each_says : (Says : Name → ℕ → Type 0) (test : Name → Bool) (given : Name → ℕ) → ((name : Name) → test name ≡ true → Says name (given name))
    → (rows : List NamedRow) → all_named test rows ≡ true → (behind : List ℕ) → EachSays Says rows (values_by rows given ++ behind)
each_says Says test given says [] all behind = tt
each_says Says test given says (row ∷ rows) all behind =
    let both = (and-eq-true_iff (test row.name) (all_named test rows)).0 all in
    (says row.name both.0, each_says Says test given says rows both.1 behind)

contract_named : (level : Level) → all_named in_side (value_rows Contract level) ≡ true
unfolding value_rows named_rows
contract_named One = refl
contract_named Two = refl

pair_named : (level : Level) → all_named of_pairs (value_rows Pair level) ≡ true
unfolding value_rows named_rows
pair_named One = refl
pair_named Two = refl

values_say : (item : Item) (level : Level) (text : Name → Option (List ℕ)) (quote : QuoteFor item) → ShowsEach item text quote → (behind : List ℕ)
    → EachSays (ValueSays item text) (value_rows item level) (values_for item level quote ++ behind)
unfolding row_values spread_values
values_say Contract level text quote h behind = each_says (ValueSays Contract text) in_side (field_value quote) (contract_says text quote h) (value_rows Contract level) (contract_named level) behind
values_say Pair level text quote h behind = each_says (ValueSays Pair text) of_pairs (spread_field_value quote) (pair_says text quote h) (value_rows Pair level) (pair_named level) behind

-- ---- the values of an update

-- what a host is told of an update of a slot is what its message's fields say
module _ (lists : Lists) (letter i : ℕ) (s : segment_of lists.contracts letter ≡ some i) (bytes : List ℕ) where
  abbrev m : Message
  m = message_of lists letter bytes

  abbrev told : Item → Level → List ℕ → List ℕ
  told item level behind = (values_in_front item (sequence_number m) (session_of (form_sent m)) ++ values_for item level (shown item (form_sent m) m.cells)) ++ behind

  pub host_values_say : (slot : Slot) → slot_of i m.what ≡ some slot → (behind : List ℕ) → ValuesSay bytes (item_in slot) (level_in slot) (told (item_in slot) (level_in slot) behind)
  host_values_say (record_slot Contract j place level) is behind =
      let u = update_says lists letter i s bytes (record_slot Contract j place level) is in
      record {
        number_is = sym u.number_is;
        session_is = ap session_cell (session_by bytes (form_sent m) u.form_is);
        form = form_sent m;
        form_is = u.form_is;
        tells = u.tells;
        rows_say = values_say Contract level _ (shown Contract (form_sent m) m.cells) u.shows behind;
      }
  host_values_say (record_slot Pair j place level) is behind =
      let u = update_says lists letter i s bytes (record_slot Pair j place level) is in
      record {
        number_is = sym u.number_is;
        session_is = tt;
        form = form_sent m;
        form_is = u.form_is;
        tells = u.tells;
        rows_say = values_say Pair level _ (shown Pair (form_sent m) m.cells) u.shows behind;
      }
