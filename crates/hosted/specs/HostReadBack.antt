-- What a host has written, taken and read: demand 2, "What we write reads back the same".
use Rattle.std.specs.Prelude.{ℕ, ◌<◌, ◌≡◌, true, false, cond, List, [], ◌∷◌, ◌++◌, ◌⊎◌, length, get_or, drop}
use Rattle.forms.specs.declared.forms.Form.{Form}
use Rattle.forms.specs.Forms.{named_rows, session_of}
use Rattle.head.specs.Fields.{segment_letter}
use Rattle.quote.specs.Quote.{where_named}
use Rattle.std.proofs.Math.Option.{some}
use Rattle.forms.specs.declared.forms.Item.{Item}
use Rattle.forms.specs.declared.forms.Item.TheVariants.{Contract, Pair}
use Rattle.forms.specs.declared.rows.Level.{Level}
use Rattle.forms.specs.declared.rows.Row.{Row}
use Rattle.forms.specs.declared.rows.Row.TheVariants.{Key, MarketType, Status, Price, Difference, Quantity, Turnover}
use Rattle.forms.specs.Names.{NamedRow}
use Rattle.sequence.specs.Gaps.{takes}
use Rattle.sequence.specs.Changes.{full}
use Rattle.lookup.specs.Lookup.{segment_of}
use Rattle.message.specs.Compared.{compared_there}
use Rattle.message.specs.Message.{key_place}
use Rattle.state.specs.GoodState.{GoodState}
use Rattle.state.specs.Memory.{Lent}
use Rattle.listing.specs.ListRules.{gaps_of_letter}
use Rattle.layout.specs.Plain.{no_value, value_of, held_of}
use Rattle.values.specs.Values.{first, most, value_rows}
use Rattle.written.specs.ReadBack.{batch_of}
use Rattle.host.specs.Promises.{HostJudged, HostTook}
use Rattle.told.specs.Shown.{values_in_front, value_count}
use Rattle.hosted.specs.HostDemands.{GivesFour, Gives}
use Rattle.hosted.specs.HostItems.{HostReadItem}

-- M-104: the letter of the segment that a code counts as
abbrev pub letter_for : List ℕ → ℕ
letter_for code = segment_letter (get_or code 0 0)

-- M-104: only N updates a record: the market type among a contract's values
abbrev pub UpdatesRecord : Item → List ℕ → Type 0
UpdatesRecord Contract values = get_or values (first Contract) 0 ≡ 78
UpdatesRecord Pair values = Unit {0}

-- the host's header, M-100: a row's value as it reads back: that of the number that it stands for, so that minus zero is zero
abbrev pub value_back : Row → ℕ → ℕ
value_back (Key width) value = value
value_back (MarketType markets) value = value
value_back Status value = value
value_back (Price width) value = value
value_back (Difference width) value = value_of true (held_of true value)
value_back (Quantity width) value = value
value_back (Turnover width) value = value

-- the host's header: the values of rows as they read back, one a row; (M-104) what a form has no row for, a time stamp of D or T, reads as none
abbrev pub values_back : List NamedRow → List NamedRow → List ℕ → List ℕ
values_back sent [] values = []
values_back sent (row ∷ rows) values = where_named sent row.name (value_back row.row (get_or values 0 0)) no_value ∷ values_back sent rows (drop 1 values)

-- the host's header: the values behind the number and the session, as they read back of an update of that form
abbrev pub rows_in : Item → Form → Level → List ℕ → List ℕ
rows_in item form level values = values_back (named_rows form) (value_rows item level) (drop (first item) values)

-- 01 "Sequence and gaps": an accepted batch of one update: 1 taken where its number is, or 1 old; M-102: and the keys compared with its own
abbrev pub GivesOne : Item → Lent → ℕ → ℕ → List ℕ → ℕ → List ℕ → Type 0
GivesOne item lent letter number key returned answer' =
    GivesFour returned answer' 0 (cond (takes (gaps_of_letter lent letter) number) 1 0) (cond (takes (gaps_of_letter lent letter) number) 0 1) 0
    (compared_there item lent.lists key (segment_of lent.lists.contracts letter))

-- the host's header: the record as it was read before: none, or one whose number is below
pub record ReadsOlder (item : Item) (lent : Lent) (level : Level) (letter : ℕ) (key : List ℕ) (number : ℕ) : Type 0 where
  pub values : List ℕ
  pub values' : List ℕ
  pub answer' : List ℕ
  pub read : HostReadItem item lent letter key level values 0 values' answer'
  pub long : length values ≡ most
  pub older : (answer' ≡ 0 ∷ 0 ∷ 0 ∷ 0 ∷ []) ⊎ (get_or values' 0 0 < number)

-- demand 2: "What we write reads back the same": a message that was written of these values, alone in a batch
pub record HostReadsBack (item : Item) (form : Form) (level : Level) (letter number : ℕ) (key values message : List ℕ) : Type 0 where
  -- against a good state that lists its contract or pair and has room for its number, it is accepted
  pub accepted : (lent : Lent) → GoodState lent → (place : ℕ) → key_place item lent.lists letter key ≡ some place
      → (takes (gaps_of_letter lent letter) number ≡ true → full (gaps_of_letter lent letter) number ≡ false)
      → (returned : ℕ) (answer' : List ℕ) → HostJudged lent (batch_of message) returned answer' → GivesOne item lent letter number key returned answer'
  -- and where it was taken, whatever memory was lent, and the record was older, that is read as its number, (M-104) the session that its code
  -- says and these values, from the first row behind the key on; every value behind them stays as it is lent
  pub reads : (lent lent' : Lent) (compared : ℕ) → HostTook lent (batch_of message) 0 lent' (1 ∷ 0 ∷ 0 ∷ compared ∷ []) → ReadsOlder item lent level letter key number
      → (before : List ℕ) → length before ≡ most → (returned : ℕ) (values' answer' : List ℕ) → HostReadItem item lent' letter key level before returned values' answer'
      → Gives returned answer' 0 1 0 0 × (values' ≡ (values_in_front item number (session_of form) ++ rows_in item form level values) ++ drop (value_count item level) before)
