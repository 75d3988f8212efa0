-- What a message is, by its form, its number and its key: 01 "The message".
use Rattle.std.specs.Prelude.{ℕ, ◌≡◌, Bool, true, cond, List, [], eqb, take, Ok, Err, Result}
use Rattle.std.proofs.Math.Option.{Option, none, some}
use Rattle.wire.specs.Number.{number_at}
use Rattle.pairs.specs.Lists.{Lists}
use Rattle.lookup.specs.Lookup.{segment_of, lookup}
use Rattle.forms.specs.declared.rows.Level.{Level}
use Rattle.forms.specs.declared.forms.Form.{Form}
use Rattle.forms.specs.declared.forms.Named.{Named}
use Rattle.forms.specs.declared.forms.Named.TheVariants as is
use Rattle.forms.specs.declared.forms.Subject.{Subject}
use Rattle.forms.specs.declared.forms.Subject.TheVariants.{Nothing, Of}
use Rattle.forms.specs.declared.forms.Item.{Item}
use Rattle.forms.specs.declared.forms.Item.TheVariants.{Contract, Pair}
use Rattle.forms.specs.declared.rows.Row.{Row}
use Rattle.forms.specs.Sizes.{key_bytes}
use Rattle.forms.specs.Forms.{rows_of, subject_of, key_bytes_of}
use Rattle.message.specs.declared.body.What.{What}
use Rattle.message.specs.declared.body.What.TheVariants as what
use Rattle.head.specs.declared.head.Fault.{Fault}
use Rattle.head.specs.declared.head.Fault.TheVariants as fault
use Rattle.head.specs.Fields.{form_in, data_of}
use Rattle.pairs.specs.Items.{file_of, habit_of}

-- 01 "The message", M-100: an update tells of a contract or a pair, at a level
abbrev pub TellsOf : Item → Form → Type 0
TellsOf item form = (level : Level) × (subject_of form ≡ Of item level)

-- 01 "The message", M-100: the first 39 bytes of the data are the contract key, the first 78 a pair's
unfoldable pub message_key : Item → List ℕ → List ℕ
message_key item bytes = take (key_bytes_of item) (data_of bytes)

-- 01 "The contract list", M-100: the place of a key in a segment of its file
abbrev pub place_in : Item → Lists → ℕ → List ℕ → Option ℕ
place_in item lists segment key = (lookup (habit_of item) (file_of item lists) segment key).place

-- 01 "The contract list": the same, where there is a segment
abbrev pub place_there : Item → Lists → List ℕ → Option ℕ → Option ℕ
place_there item lists key none = none
place_there item lists key (some segment) = place_in item lists segment key

-- 01 "The contract list", M-100: the place of a key, with the segment of the letter looked up
unfoldable pub key_place : Item → Lists → ℕ → List ℕ → Option ℕ
key_place item lists letter key = place_there item lists key (segment_of lists.contracts letter)

-- 01 "The contract list", M-100: the place of the key with which data begins in a segment, if it tells of a contract, and if of a pair
abbrev pub places_in : Lists → List ℕ → Option ℕ → Item → Option ℕ
places_in lists «data» segment item = place_there item lists (take (key_bytes_of item) «data») segment

-- 01 "The contract list", M-100: the same of a message's data
abbrev pub places_there : Lists → List ℕ → Option ℕ → Item → Option ℕ
places_there lists bytes segment item = place_there item lists (message_key item bytes) segment

-- 01 "The contract list", M-100: the same, with the segment of the letter looked up
abbrev pub message_place : Lists → ℕ → List ℕ → Item → Option ℕ
message_place lists letter bytes item = key_place item lists letter (message_key item bytes)

-- 01 "The message": the rows that are read: those of the form. Of what is passed over no field is looked at
abbrev pub rows_in : Named → List Row
rows_in (is.Form form) = rows_of form
rows_in is.NoLength = []
rows_in is.PassedOver = []

-- 01, the table's row 13: the key of an update is listed
abbrev pub of_place : ℕ → Form → Option ℕ → Result What Fault
of_place number form none = Err fault.Contract
of_place number form (some place) = Ok (what.Update number form place)

-- 01 "The message": what a message of a form is, by what it tells of
abbrev pub of_subject : Subject → ℕ → Form → (Item → Option ℕ) → Result What Fault
of_subject Nothing number form place = Ok what.Heartbeat
of_subject (Of item level) number form place = of_place number form (place item)

-- 01 "The message": the market type stands in the data behind a contract's key
abbrev pub market_in : List ℕ → ℕ
market_in «data» = number_at 1 «data» key_bytes

-- M-104: "only N updates a record": of a contract; a pair has no market type
abbrev pub updates : Item → ℕ → Bool
updates Contract market = eqb market 78
updates Pair market = true

-- M-104: "the others are passed over after all their checks but 13": by what a form tells of
abbrev pub acting_for : Subject → Form → ℕ → Named
acting_for Nothing form market = is.Form form
acting_for (Of item level) form market = cond (updates item market) (is.Form form) is.PassedOver

-- M-104: what a message acts as once its rows are good, by its market type
abbrev pub acting : Named → ℕ → Named
acting (is.Form form) market = acting_for (subject_of form) form market
acting is.NoLength market = is.NoLength
acting is.PassedOver market = is.PassedOver

-- M-104: the same of a message's bytes
unfoldable pub acts_as : List ℕ → Named
acts_as bytes = acting (form_in bytes) (market_in (data_of bytes))

-- 01 "The message": what a message is; one with none of its code's lengths is refused before (8)
abbrev pub of_named : Named → ℕ → (Item → Option ℕ) → Result What Fault
of_named (is.Form form) number place = of_subject (subject_of form) number form place
of_named is.NoLength number place = Ok (what.PassedOver number)
of_named is.PassedOver number place = Ok (what.PassedOver number)

-- 01 "The message": what a message is, how long it is, and the cells of its rows, with zeros behind them
pub record Message : Type 0 where
  pub what : Result What Fault
  pub length : ℕ
  pub cells : List ℕ
