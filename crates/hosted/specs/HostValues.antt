-- What the values that a host is told say of an update's message: demand 2, "Each number is the exact decimal in its field".
use Rattle.std.specs.Prelude.{ℕ, ◌≡◌, List, [], ◌∷◌, get_or, drop}
use Rattle.std.proofs.Math.Option.{Option}
use Rattle.decimal.specs.declared.Kind.{Kind}
use Rattle.decimal.specs.Kinds.{price, quantity, turnover, difference}
use Rattle.pairs.specs.Lists.{Lists}
use Rattle.forms.specs.declared.forms.Form.{Form}
use Rattle.forms.specs.declared.forms.Item.{Item}
use Rattle.forms.specs.declared.forms.Item.TheVariants.{Contract, Pair}
use Rattle.forms.specs.declared.forms.Named.TheVariants as is
use Rattle.forms.specs.declared.forms.Subject.TheVariants.{Of}
use Rattle.forms.specs.declared.rows.Level.{Level}
use Rattle.forms.specs.Names.{Name, NamedRow, instrument, symbol, expiry, strike, option_type, second_instrument, second_symbol, second_expiry, second_strike, second_option_type, market_type, time_stamp, buy_price, buy_quantity, sell_price, sell_quantity, last_price, traded_quantity, status, opening_price, high_price, low_price, close_price, average_price, all_buyers, all_sellers, turnover as turnover_name}
use Rattle.forms.specs.Forms.{named_rows, subject_of}
use Rattle.decimal.specs.declared.Held.{Held}
use Rattle.layout.specs.Cells.{session_cell}
use Rattle.layout.specs.Plain.{value_of}
use Rattle.quote.specs.Shows.{field_named, Shows, ShowsLetter}
use Rattle.head.specs.Fields.{number_of, session_sent, form_in, data_of}
use Rattle.message.specs.Message.{Message}
use Rattle.slots.specs.Slots.{Slot}
use Rattle.values.specs.Values.{first, value_rows}
use Rattle.history.specs.Exactly.{IsNewest, NoUpdate}
use Rattle.history.specs.Updates.{segment_in, item_in, level_in}
use Rattle.history.specs.Sent.{Source}
use Rattle.hosted.specs.HostDemands.{Gives}

-- demand 2 and the host's header: a value is that of the number which its text denotes; all ones for "none", and where there is no such field
abbrev pub NumberTold : Kind → Option (List ℕ) → ℕ → Type 0
NumberTold kind text value = (held : Held) × Shows kind text held × (value ≡ value_of kind.signed held)

-- M-100: all prices of a pair are differences
abbrev pub price_kind : Item → Kind
price_kind Contract = price
price_kind Pair = difference

-- demand 2 and the host's header: what the value of a name says of the text of that name: a letter, or a number of its kind; no value is a key's
abbrev pub ValueSays : Item → (Name → Option (List ℕ)) → Name → ℕ → Type 0
ValueSays item text instrument value = Unit {0}
ValueSays item text symbol value = Unit {0}
ValueSays item text expiry value = Unit {0}
ValueSays item text strike value = Unit {0}
ValueSays item text option_type value = Unit {0}
ValueSays item text second_instrument value = Unit {0}
ValueSays item text second_symbol value = Unit {0}
ValueSays item text second_expiry value = Unit {0}
ValueSays item text second_strike value = Unit {0}
ValueSays item text second_option_type value = Unit {0}
ValueSays item text market_type value = ShowsLetter (text market_type) value
ValueSays item text time_stamp value = NumberTold quantity (text time_stamp) value
ValueSays item text (buy_price k) value = NumberTold (price_kind item) (text (buy_price k)) value
ValueSays item text (buy_quantity k) value = NumberTold quantity (text (buy_quantity k)) value
ValueSays item text (sell_price k) value = NumberTold (price_kind item) (text (sell_price k)) value
ValueSays item text (sell_quantity k) value = NumberTold quantity (text (sell_quantity k)) value
ValueSays item text last_price value = NumberTold (price_kind item) (text last_price) value
ValueSays item text traded_quantity value = NumberTold quantity (text traded_quantity) value
ValueSays item text status value = ShowsLetter (text status) value
ValueSays item text opening_price value = NumberTold (price_kind item) (text opening_price) value
ValueSays item text high_price value = NumberTold (price_kind item) (text high_price) value
ValueSays item text low_price value = NumberTold (price_kind item) (text low_price) value
ValueSays item text close_price value = NumberTold (price_kind item) (text close_price) value
ValueSays item text average_price value = NumberTold (price_kind item) (text average_price) value
ValueSays item text all_buyers value = NumberTold quantity (text all_buyers) value
ValueSays item text all_sellers value = NumberTold quantity (text all_sellers) value
ValueSays item text turnover_name value = NumberTold turnover (text turnover_name) value

-- the host's header: one value a row, in turn
abbrev pub EachSays : (Name → ℕ → Type 0) → List NamedRow → List ℕ → Type 0
EachSays Says [] values = Unit {0}
EachSays Says (row ∷ rows) values = Says row.name (get_or values 0 0) × EachSays Says rows (drop 1 values)

-- M-104 and the host's header: the second value of a contract is the session that the code says
abbrev pub SessionTold : Item → List ℕ → List ℕ → Type 0
SessionTold Contract bytes values = get_or values 1 0 ≡ session_cell (session_sent bytes)
SessionTold Pair bytes values = Unit {0}

-- demand 2 and the host's header: the first value is the message's number; behind it (M-104) and the session each is what the field of its
-- name says, in the form that the message's code and length name
pub record ValuesSay (bytes : List ℕ) (item : Item) (level : Level) (values : List ℕ) : Type 0 where
  pub number_is : get_or values 0 0 ≡ number_of bytes
  pub session_is : SessionTold item bytes values
  pub form : Form
  pub form_is : form_in bytes ≡ is.Form form
  pub tells : subject_of form ≡ Of item level
  pub rows_say : EachSays (ValueSays item (field_named (named_rows form) (data_of bytes))) (value_rows item level) (drop (first item) values)

-- demands 2 and 3, at a host: of a listed contract or pair and level it is told what the fields of the highest-numbered update taken, a
-- message of an accepted batch, say, or that no update was taken
pub data TellsFields (lists : Lists) (batches : List (List ℕ)) (slot : Slot) (taken : List Message) (values : List ℕ) (returned : ℕ) (values' answer' : List ℕ) : Type 0 where
  no_record : NoUpdate slot taken → Gives returned answer' 0 0 0 0 → values' ≡ values → TellsFields lists batches slot taken values returned values' answer'
  a_record : (m : Message) → IsNewest slot taken m → (s : Source lists batches (segment_in slot) m) → Gives returned answer' 0 1 0 0 → ValuesSay s.bytes (item_in slot) (level_in slot) values'
      → TellsFields lists batches slot taken values returned values' answer'
