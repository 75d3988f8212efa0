-- The forms of messages as data: the table of codes, and the rows of each form. 01 "The message": 000 sections 4.4 and 4.5 for
-- D, 003 sections 4.5 and 4.6 for T; M-100: 000 sections 4.6 and 4.7 for D, 003 sections 4.3 and 4.4 for T; M-104: 002 sections
-- 4.4 and 4.5 for F. A new form is a list of named rows, its subject and its place in the table.
use Rattle.std.specs.Prelude.{ℕ, zero, suc, Bool, true, false, cond, ◌&&◌, List, [], ◌∷◌, ◌++◌, map, eqb, Option, Some, None}
use Rattle.forms.specs.declared.rows.Level.{Level}
use Rattle.forms.specs.declared.rows.Level.TheVariants.{One, Two}
use Rattle.forms.specs.declared.rows.Markets.TheVariants.{Normal, Any}
use Rattle.forms.specs.declared.rows.Row.{Row}
use Rattle.forms.specs.declared.rows.Row.TheVariants as row
use Rattle.forms.specs.declared.forms.Form.{Form}
use Rattle.forms.specs.declared.forms.Form.TheVariants.{Heartbeat, LevelOne, LevelTwo, PairOne, PairTwo, FutureOne, FutureTwo, PreOpenOne, PreOpenTwo}
use Rattle.forms.specs.declared.forms.Item.{Item}
use Rattle.forms.specs.declared.forms.Item.TheVariants.{Contract, Pair}
use Rattle.forms.specs.declared.forms.Subject.{Subject}
use Rattle.forms.specs.declared.forms.Subject.TheVariants.{Nothing, Of}
use Rattle.forms.specs.declared.forms.Session.{Session}
use Rattle.forms.specs.declared.forms.Session.TheVariants as session
use Rattle.forms.specs.declared.forms.Sum.{Sum}
use Rattle.forms.specs.declared.forms.Sum.TheVariants.{Zero, Right, RightOrZero}
use Rattle.forms.specs.declared.forms.Named.{Named}
use Rattle.forms.specs.declared.forms.Named.TheVariants as is
use Rattle.forms.specs.Names.{Name, NamedRow, named, instrument, symbol, expiry, strike, option_type, second_instrument, second_symbol, second_expiry, second_strike, second_option_type, market_type, time_stamp, buy_price, buy_quantity, sell_price, sell_quantity, last_price, traded_quantity, status, opening_price, high_price, low_price, close_price, average_price, all_buyers, all_sellers, turnover}
use Rattle.forms.specs.Rows.{message_length}
use Rattle.forms.specs.Sizes.{key_row_count, key_bytes, pair_row_count, pair_bytes}

-- ---- the rows

-- 01 "The message": instrument, symbol, expiry, strike, option type
abbrev pub key_named : Name → Name → Name → Name → Name → List NamedRow
key_named first second third fourth fifth =
    named first (row.Key 6) ∷ named second (row.Key 10) ∷ named third (row.Key 11) ∷ named fourth (row.Key 10) ∷ named fifth (row.Key 2) ∷ []

-- 01 "The message": a contract's key
abbrev pub key_rows : List NamedRow
key_rows = key_named instrument symbol expiry strike option_type

-- M-100: the key is two contract keys
abbrev pub pair_key_rows : List NamedRow
pair_key_rows = key_rows ++ key_named second_instrument second_symbol second_expiry second_strike second_option_type

-- 01 "The message": price and quantity of each order of a side from level k on; the papers differ in how a price is laid out
abbrev pub orders : (ℕ → Name) → (ℕ → Name) → Row → ℕ → ℕ → List NamedRow
orders price quantity laid k zero = []
orders price quantity laid k (suc depth) =
    named (price k) laid ∷ named (quantity k) (row.Quantity 12) ∷ orders price quantity laid (suc k) depth

-- 01 "The message": the orders of both sides, the buyers' first
abbrev pub sides : Row → ℕ → List NamedRow
sides laid depth = orders buy_price buy_quantity laid 0 depth ++ orders sell_price sell_quantity laid 0 depth

-- 01 "The message": last traded price, traded quantity
abbrev pub traded : Row → List NamedRow
traded laid = named last_price laid ∷ named traded_quantity (row.Quantity 12) ∷ []

-- 000 sections 4.4 to 4.7, 003 sections 4.3 to 4.6: opening, high and low price
abbrev pub day_range : Row → List NamedRow
day_range laid = named opening_price laid ∷ named high_price laid ∷ named low_price laid ∷ []

-- 000 sections 4.4 and 4.5, 003 sections 4.5 and 4.6: close and average price: contracts alone
abbrev pub day_close : Row → List NamedRow
day_close laid = named close_price laid ∷ named average_price laid ∷ []

-- 000 sections 4.5 and 4.7, 003 sections 4.4 and 4.6: all buyers' and all sellers' quantity: level 2 alone
abbrev pub side_totals : List NamedRow
side_totals = named all_buyers (row.Quantity 12) ∷ named all_sellers (row.Quantity 12) ∷ []

-- 000 sections 4.4 and 4.5, 003 sections 4.5 and 4.6: market type: the normal market alone
abbrev pub normal_market : List NamedRow
normal_market = named market_type (row.MarketType Normal) ∷ []

-- 002 sections 4.4 and 4.5: any market type, and the time stamp, which M-104 reads as a quantity
abbrev pub market_and_stamp : List NamedRow
market_and_stamp = named market_type (row.MarketType Any) ∷ named time_stamp (row.Quantity 11) ∷ []

-- 000 sections 4.4 and 4.5, 003 sections 4.5 and 4.6, 002 sections 4.4 and 4.5: the rows of an update of a contract, in the order in
-- which they are laid out
abbrev pub contract_rows : List NamedRow → Row → ℕ → List NamedRow → List NamedRow
contract_rows market laid depth totals =
    key_rows ++ market ++ sides laid depth ++ traded laid ++ (named status row.Status ∷ day_range laid ++ day_close laid) ++ totals
    ++ (named turnover (row.Turnover 25) ∷ [])

-- 000 sections 4.6 and 4.7, 003 sections 4.3 and 4.4: the rows of an update of a pair, in the order in which they are laid out
abbrev pub pair_rows : Row → ℕ → List NamedRow → List NamedRow
pair_rows laid depth totals = pair_key_rows ++ sides laid depth ++ traded laid ++ day_range laid ++ totals

-- 01 "The message", M-100, M-104: the rows of each form by name
unfoldable pub named_rows : Form → List NamedRow
named_rows Heartbeat = []
named_rows LevelOne = contract_rows normal_market (row.Price 17) 1 []
named_rows LevelTwo = contract_rows normal_market (row.Price 17) 5 side_totals
named_rows PairOne = pair_rows (row.Difference 17) 1 []
named_rows PairTwo = pair_rows (row.Difference 17) 5 side_totals
named_rows FutureOne = contract_rows market_and_stamp (row.Price 10) 1 []
named_rows FutureTwo = contract_rows market_and_stamp (row.Price 10) 5 side_totals
named_rows PreOpenOne = contract_rows market_and_stamp (row.Price 10) 1 []
named_rows PreOpenTwo = contract_rows market_and_stamp (row.Price 10) 5 side_totals

-- 01 "The message": the rows of each form, as they are laid out
unfoldable pub rows_of : Form → List Row
rows_of form = map (λ r. r.row) (named_rows form)

-- 01 "The message", M-100, M-104: what a form tells of
abbrev pub subject_of : Form → Subject
subject_of Heartbeat = Nothing
subject_of LevelOne = Of Contract One
subject_of LevelTwo = Of Contract Two
subject_of PairOne = Of Pair One
subject_of PairTwo = Of Pair Two
subject_of FutureOne = Of Contract One
subject_of FutureTwo = Of Contract Two
subject_of PreOpenOne = Of Contract One
subject_of PreOpenTwo = Of Contract Two

-- M-104: the session in which a form is sent
abbrev pub session_of : Form → Session
session_of Heartbeat = session.Normal
session_of LevelOne = session.Normal
session_of LevelTwo = session.Normal
session_of PairOne = session.Normal
session_of PairTwo = session.Normal
session_of FutureOne = session.Normal
session_of FutureTwo = session.Normal
session_of PreOpenOne = session.PreOpen
session_of PreOpenTwo = session.PreOpen

-- M-104: whether a form has a time stamp (`stamped_rows`)
abbrev pub is_stamped : Form → Bool
is_stamped Heartbeat = false
is_stamped LevelOne = false
is_stamped LevelTwo = false
is_stamped PairOne = false
is_stamped PairTwo = false
is_stamped FutureOne = true
is_stamped FutureTwo = true
is_stamped PreOpenOne = true
is_stamped PreOpenTwo = true

-- 01 "The message", M-100: the rows of the key of what is listed
abbrev pub key_rows_of : Item → ℕ
key_rows_of Contract = key_row_count
key_rows_of Pair = pair_row_count

-- 01 "The message", M-100: the bytes of that key
abbrev pub key_bytes_of : Item → ℕ
key_bytes_of Contract = key_bytes
key_bytes_of Pair = pair_bytes

-- a word of our own: the one of two forms that has the level
abbrev pub at_level : Level → Form → Form → Form
at_level One one two = one
at_level Two one two = two

-- 01 "What may be asked", M-100, M-104: the form with every row that a record of that level keeps
abbrev pub record_form : Item → Level → Form
record_form Contract level = at_level level FutureOne FutureTwo
record_form Pair level = at_level level PairOne PairTwo

-- a word of our own: the form that tells of a subject
abbrev pub form_about : Subject → Form
form_about Nothing = Heartbeat
form_about (Of item level) = record_form item level

-- ---- the table

-- a word of our own: what the table says of a code: what its sum may be, and the forms that it may have
pub record Meaning : Type 0 where
  pub sum : Sum
  pub forms : List Form

-- 01 "The message": a line of the table: a code, which is a segment's letter and a second byte, and what it means
pub record Line : Type 0 where
  pub letter : ℕ
  pub second : ℕ
  pub meaning : Meaning

-- a word of our own: a line of the table, written on one line
abbrev pub line : ℕ → ℕ → Sum → List Form → Line
line letter second sum forms = record { letter = letter; second = second; meaning = record { sum = sum; forms = forms } }

-- 01 "The message", M-100, M-101: the codes of D and of T, by second byte. H is a heartbeat, which carries zero; N an update of
-- either level and P one of a pair, which carry their sum; O, C and E, market status and end of feed, are passed over, and their
-- sections (000 and 003, 4.2 and 4.11) say that the sum isn't calculated
abbrev pub codes_of : ℕ → List Line
codes_of letter =
    line letter 0x48 Zero (Heartbeat ∷ []) ∷ line letter 0x4E Right (LevelOne ∷ LevelTwo ∷ []) ∷ line letter 0x50 Right (PairOne ∷ PairTwo ∷ [])
    ∷ line letter 0x4F RightOrZero [] ∷ line letter 0x43 RightOrZero [] ∷ line letter 0x45 RightOrZero [] ∷ []

-- M-104, M-101: the codes of F: FH, FN as above; FO, FC, FE and FZ are passed over, and their sections (002, 4.2, 4.11 and 4.10) say
-- that the sum isn't calculated
abbrev pub future_codes : List Line
future_codes =
    line 0x46 0x48 Zero (Heartbeat ∷ []) ∷ line 0x46 0x4E Right (FutureOne ∷ FutureTwo ∷ [])
    ∷ line 0x46 0x4F RightOrZero [] ∷ line 0x46 0x43 RightOrZero [] ∷ line 0x46 0x45 RightOrZero [] ∷ line 0x46 0x5A RightOrZero [] ∷ []

-- M-104, M-101: the codes that F has in pre-open: PN; PO and PC are passed over as FO and FC
abbrev pub pre_open_codes : List Line
pre_open_codes = line 0x50 0x4E Right (PreOpenOne ∷ PreOpenTwo ∷ []) ∷ line 0x50 0x4F RightOrZero [] ∷ line 0x50 0x43 RightOrZero [] ∷ []

-- 01 "The message", M-104: the table of codes
abbrev pub table : List Line
table = codes_of 0x44 ++ codes_of 0x54 ++ future_codes ++ pre_open_codes

-- 01 "The message", M-101: every other code has no form, and carries its true sum
abbrev pub meaning_in : List Line → ℕ → ℕ → Meaning
meaning_in [] letter second = record { sum = Right; forms = [] }
meaning_in (code ∷ rest) letter second = cond (eqb letter code.letter && eqb second code.second) code.meaning (meaning_in rest letter second)

-- 01 "The message": what the table says of a code
unfoldable pub meaning_of : ℕ → ℕ → Meaning
meaning_of letter second = meaning_in table letter second

-- 01 "The message": the forms that a code may have; none where it is passed over
abbrev pub forms_of : ℕ → ℕ → List Form
forms_of letter second = (meaning_of letter second).forms

-- 01 "The checksum", M-101: the code alone decides what its sum may be
abbrev pub sum_rule : ℕ → ℕ → Sum
sum_rule letter second = (meaning_of letter second).sum

-- 01 "The message": the length tells a code's forms apart: the sum of the data widths plus 11
abbrev pub of_length : List Form → ℕ → Named
of_length [] length = is.NoLength
of_length (form ∷ rest) length = cond (eqb length (message_length (rows_of form))) (is.Form form) (of_length rest length)

-- 01 "The message": other messages of a listed segment are passed over
abbrev pub named_by : List Form → ℕ → Named
named_by [] length = is.PassedOver
named_by (form ∷ rest) length = of_length (form ∷ rest) length

-- 01 "The message": what a code and a length name
unfoldable pub form_of : ℕ → ℕ → ℕ → Named
form_of letter second length = named_by (forms_of letter second) length

-- a word of our own: whether two levels are the same
abbrev pub same_level : Level → Level → Bool
same_level One One = true
same_level One Two = false
same_level Two One = false
same_level Two Two = true

-- a word of our own: whether both are contracts, or both pairs
abbrev pub same_item : Item → Item → Bool
same_item Contract Contract = true
same_item Contract Pair = false
same_item Pair Contract = false
same_item Pair Pair = true

-- 01 "What may be asked": the writer is told the level of an update; a heartbeat's isn't looked at. M-100: pairs have a writer of
-- their own, which writes nothing else
abbrev pub is_asked : Subject → Item → Level → Bool
is_asked Nothing item level = same_item item Contract
is_asked (Of own at) item level = same_item own item && same_level at level

-- 01 "What may be asked": the first of these forms that tells of what is asked for
abbrev pub written_by : List Form → Item → Level → Option Form
written_by [] item level = None
written_by (form ∷ rest) item level = cond (is_asked (subject_of form) item level) (Some form) (written_by rest item level)

-- 01 "What may be asked", M-100: the form that is written for a code and what is asked for: a contract or a pair, at a level; none
-- for a code that is not in the table
unfoldable pub written_form : ℕ → ℕ → Item → Level → Option Form
written_form letter second item level = written_by (forms_of letter second) item level
