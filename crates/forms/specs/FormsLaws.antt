-- The forms, computed, and the papers' numbers.
use Rattle.std.specs.Prelude.{ℕ, ◌+◌, ◌*◌, ◌≤◌, max, Bool, true, false, cond, ◌&&◌, ◌||◌, ◌≡◌, refl, eqb, length, get_or, take, Some, None}
use mathlib.Core.List.Memᴰ
use mathlib.Core.List.{List, [], ◌∷◌, ◌++◌, map, Memᴰ}
use Rattle.std.proofs.Common.{ap, ap₂, sym, subst, ◌∙◌, arith, eqb-true, eq-eqb}
use Rattle.forms.specs.declared.rows.Markets.TheVariants.{Normal, Any}
use Rattle.forms.specs.declared.rows.Row.{Row}
use Rattle.forms.specs.declared.rows.Row.TheVariants as row
use Rattle.forms.specs.declared.rows.Level.{Level}
use Rattle.forms.specs.declared.rows.Level.TheVariants.{One, Two}
use Rattle.forms.specs.declared.forms.Form.{Form}
use Rattle.forms.specs.declared.forms.Form.TheVariants.{Heartbeat, LevelOne, LevelTwo, PairOne, PairTwo, FutureOne, FutureTwo, PreOpenOne, PreOpenTwo}
use Rattle.forms.specs.declared.forms.Subject.{Subject}
use Rattle.forms.specs.declared.forms.Subject.TheVariants.{Nothing, Of}
use Rattle.forms.specs.declared.forms.Item.{Item}
use Rattle.forms.specs.declared.forms.Item.TheVariants.{Contract, Pair}
use Rattle.forms.specs.declared.forms.Named.TheVariants as is
use Rattle.forms.specs.Sizes.{most_rows, most_data, key_row_count, key_bytes, pair_row_count, pair_bytes}
use Rattle.forms.specs.Names.{Name, NamedRow, instrument, symbol, expiry, strike, option_type, second_instrument, second_symbol, second_expiry, second_strike, second_option_type, market_type, time_stamp, buy_price, buy_quantity, sell_price, sell_quantity, last_price, traded_quantity, status, opening_price, high_price, low_price, close_price, average_price, all_buyers, all_sellers, turnover}
use Rattle.forms.specs.SameName.{same_name}
use Rattle.forms.specs.declared.forms.Session.{Session}
use Rattle.forms.specs.declared.forms.Session.TheVariants as session
use Rattle.forms.specs.declared.forms.Sum.{Sum}
use Rattle.forms.specs.declared.forms.Sum.TheVariants.{Zero, Right, RightOrZero}
use Rattle.forms.specs.Rows.{width_of, data_length, message_length, offset_of, key_in_front, padded}
use Rattle.forms.specs.Forms.{key_rows, pair_key_rows, side_totals, normal_market, market_and_stamp, contract_rows, pair_rows, named_rows, rows_of, subject_of, session_of, is_stamped, key_rows_of, key_bytes_of, at_level, form_about, is_asked, Meaning, Line, codes_of, future_codes, pre_open_codes, table, meaning_in, meaning_of, forms_of, of_length, named_by, form_of, sum_rule, written_by, written_form}

-- ---- the sizes

abbrev forms : List Form
forms = Heartbeat ∷ LevelOne ∷ LevelTwo ∷ PairOne ∷ PairTwo ∷ FutureOne ∷ FutureTwo ∷ PreOpenOne ∷ PreOpenTwo ∷ []

most : List ℕ → ℕ
most [] = 0
most (n ∷ ns) = max n (most ns)

abbrev laid_out : List NamedRow → List Row
laid_out rows = map (λ r. r.row) rows

sizes : most_rows ∷ most_data ∷ key_row_count ∷ key_bytes ∷ pair_row_count ∷ pair_bytes ∷ []
    ≡ most (map (λ form. length (rows_of form)) forms) ∷ most (map (λ form. data_length (rows_of form)) forms)
    ∷ length key_rows ∷ data_length (laid_out key_rows) ∷ length pair_key_rows ∷ data_length (laid_out pair_key_rows) ∷ []
unfolding most rows_of named_rows
sizes = refl

-- the longest form's rows and data have room; the rows in front of the empty ones are the form's
pub record Fits (form : Form) : Type 0 where
  pub rows_fit : length (rows_of form) ≤ most_rows
  pub data_fits : data_length (rows_of form) ≤ most_data
  pub padded_rows : take (length (rows_of form)) (padded (rows_of form)) ≡ rows_of form
  pub padded_length : length (padded (rows_of form)) ≡ most_rows

pub fits : (form : Form) → Fits form
unfolding rows_of named_rows
fits Heartbeat = record { rows_fit = omega arith; data_fits = omega arith; padded_rows = refl; padded_length = refl }
fits LevelOne = record { rows_fit = omega arith; data_fits = omega arith; padded_rows = refl; padded_length = refl }
fits LevelTwo = record { rows_fit = omega arith; data_fits = omega arith; padded_rows = refl; padded_length = refl }
fits PairOne = record { rows_fit = omega arith; data_fits = omega arith; padded_rows = refl; padded_length = refl }
fits PairTwo = record { rows_fit = omega arith; data_fits = omega arith; padded_rows = refl; padded_length = refl }
fits FutureOne = record { rows_fit = omega arith; data_fits = omega arith; padded_rows = refl; padded_length = refl }
fits FutureTwo = record { rows_fit = omega arith; data_fits = omega arith; padded_rows = refl; padded_length = refl }
fits PreOpenOne = record { rows_fit = omega arith; data_fits = omega arith; padded_rows = refl; padded_length = refl }
fits PreOpenTwo = record { rows_fit = omega arith; data_fits = omega arith; padded_rows = refl; padded_length = refl }

-- the form about a subject tells of it
pub about_subject : (subject : Subject) → subject_of (form_about subject) ≡ subject
about_subject Nothing = refl
about_subject (Of Contract One) = refl
about_subject (Of Contract Two) = refl
about_subject (Of Pair One) = refl
about_subject (Of Pair Two) = refl

-- a form has a row for the time stamp exactly where it says so
any_named : Name → List NamedRow → Bool
any_named name [] = false
any_named name (row ∷ rows) = same_name row.name name || any_named name rows

stamped_rows : map is_stamped forms ≡ map (λ form. any_named time_stamp (named_rows form)) forms
unfolding named_rows any_named
stamped_rows = refl

-- 01 "The message", M-100: the data of an update begins with its key, which has that many rows and bytes
pub record KeyFirst (item : Item) (rows : List Row) : Type 0 where
  pub bytes_first : key_in_front rows ≡ key_bytes_of item
  pub rows_first : data_length (take (key_rows_of item) rows) ≡ key_bytes_of item
  pub rows_there : key_rows_of item ≤ length rows

-- of what a form tells
abbrev KeyOf : Subject → Form → Type 0
KeyOf Nothing form = Unit {0}
KeyOf (Of item level) form = KeyFirst item (rows_of form)

key_of : (form : Form) → KeyOf (subject_of form) form
unfolding rows_of named_rows
key_of Heartbeat = tt
key_of LevelOne = record { bytes_first = refl; rows_first = refl; rows_there = omega arith }
key_of LevelTwo = record { bytes_first = refl; rows_first = refl; rows_there = omega arith }
key_of PairOne = record { bytes_first = refl; rows_first = refl; rows_there = omega arith }
key_of PairTwo = record { bytes_first = refl; rows_first = refl; rows_there = omega arith }
key_of FutureOne = record { bytes_first = refl; rows_first = refl; rows_there = omega arith }
key_of FutureTwo = record { bytes_first = refl; rows_first = refl; rows_there = omega arith }
key_of PreOpenOne = record { bytes_first = refl; rows_first = refl; rows_there = omega arith }
key_of PreOpenTwo = record { bytes_first = refl; rows_first = refl; rows_there = omega arith }

pub key_first : (form : Form) (item : Item) (level : Level) → subject_of form ≡ Of item level → KeyFirst item (rows_of form)
key_first form item level e = subst (λ (subject : Subject). KeyOf subject form) e (key_of form)

-- what tells of nothing has no rows
pub nothing_rows : (form : Form) → subject_of form ≡ Nothing → rows_of form ≡ []
unfolding rows_of named_rows
nothing_rows Heartbeat e = refl
nothing_rows LevelOne e = cc
nothing_rows LevelTwo e = cc
nothing_rows PairOne e = cc
nothing_rows PairTwo e = cc
nothing_rows FutureOne e = cc
nothing_rows FutureTwo e = cc
nothing_rows PreOpenOne e = cc
nothing_rows PreOpenTwo e = cc

-- ---- a code's forms by their lengths

-- a form that a length names is one of the code's, and has that length
told_by_length : (forms : List Form) (n : ℕ) (form : Form) → of_length forms n ≡ is.Form form → Memᴰ form forms × (n ≡ message_length (rows_of form))
told_by_length [] n form e = absurd (let z : ◌≡◌ {A = ℕ} 0 1 = cc in omega arith)
told_by_length (first ∷ rest) n form e = go (eqb n (message_length (rows_of first))) refl (told_by_length rest n form)
  where
    go : (same : Bool) → eqb n (message_length (rows_of first)) ≡ same → (of_length rest n ≡ is.Form form → Memᴰ form rest × (n ≡ message_length (rows_of form)))
        → Memᴰ form (first ∷ rest) × (n ≡ message_length (rows_of form))
    go true t later =
        let own : is.Form first ≡ is.Form form = rw t at e in
        let is_first : form ≡ first = cc in
        (Memᴰ.head is_first, rw is_first (eqb-true n (message_length (rows_of first)) t))
    go false t later = let p = later (rw t at e) in (Memᴰ.tail p.0, p.1)

pub told_form : (forms : List Form) (n : ℕ) (form : Form) → named_by forms n ≡ is.Form form → Memᴰ form forms × (n ≡ message_length (rows_of form))
told_form [] n form e = absurd (let z : ◌≡◌ {A = ℕ} 0 1 = cc in omega arith)
told_form (first ∷ rest) n form e = told_by_length (first ∷ rest) n form e

-- ---- the table

-- of a code's two forms the one that has the level is written
pub asked_written : (one two : Form) (item : Item) (level : Level) → subject_of one ≡ Of item One → subject_of two ≡ Of item Two
    → written_by (one ∷ two ∷ []) item level ≡ Some (at_level level one two)
asked_written one two item level first second =
    ap₂ (λ (a b : Subject). cond (is_asked a item level) (Some one) (cond (is_asked b item level) (Some two) None)) first second ∙ own item level
  where
    own : (item : Item) (level : Level) → cond (is_asked (Of item One) item level) (Some one) (cond (is_asked (Of item Two) item level) (Some two) None) ≡ Some (at_level level one two)
    own Contract One = refl
    own Contract Two = refl
    own Pair One = refl
    own Pair Two = refl

-- no line of the table stands behind another of its code
pub table_told : map (λ code. meaning_of code.letter code.second) table ≡ map (λ code. code.meaning) table
unfolding meaning_of
table_told = refl

-- and each of its forms is that of its code and length
pub forms_told : map (λ code. map (λ form. form_of code.letter code.second (message_length (rows_of form))) code.meaning.forms) table
    ≡ map (λ code. map is.Form code.meaning.forms) table
unfolding rows_of named_rows form_of meaning_of
forms_told = refl

-- ---- a row is of its name's kind

row_for : Row → (ℕ → Row) → Name → ℕ → Row
row_for market price instrument width = row.Key width
row_for market price symbol width = row.Key width
row_for market price expiry width = row.Key width
row_for market price strike width = row.Key width
row_for market price option_type width = row.Key width
row_for market price second_instrument width = row.Key width
row_for market price second_symbol width = row.Key width
row_for market price second_expiry width = row.Key width
row_for market price second_strike width = row.Key width
row_for market price second_option_type width = row.Key width
row_for market price market_type width = market
row_for market price time_stamp width = row.Quantity width
row_for market price (buy_price k) width = price width
row_for market price (buy_quantity k) width = row.Quantity width
row_for market price (sell_price k) width = price width
row_for market price (sell_quantity k) width = row.Quantity width
row_for market price last_price width = price width
row_for market price traded_quantity width = row.Quantity width
row_for market price status width = row.Status
row_for market price opening_price width = price width
row_for market price high_price width = price width
row_for market price low_price width = price width
row_for market price close_price width = price width
row_for market price average_price width = price width
row_for market price all_buyers width = row.Quantity width
row_for market price all_sellers width = row.Quantity width
row_for market price turnover width = row.Turnover width

-- M-100: all price rows of a pair are signed
price_in : Subject → ℕ → Row
price_in Nothing = row.Price
price_in (Of Contract level) = row.Price
price_in (Of Pair level) = row.Difference

-- M-104: every market type is read where there is a time stamp
market_in : Form → Row
market_in form = row.MarketType (cond (is_stamped form) Any Normal)

kinds : map rows_of forms ≡ map (λ form. map (λ r. row_for (market_in form) (price_in (subject_of form)) r.name (width_of r.row)) (named_rows form)) forms
unfolding rows_of named_rows row_for price_in market_in
kinds = refl

-- ---- the writer

-- the form that is written is one of the code's, whatever is asked for
pub one_of_them : (forms : List Form) (item : Item) (level : Level) (form : Form) → written_by forms item level ≡ Some form → Memᴰ form forms
one_of_them [] item level form e = absurd (let z : ◌≡◌ {A = ℕ} 0 1 = cc in omega arith)
one_of_them (first ∷ rest) item level form e = go (is_asked (subject_of first) item level) e (one_of_them rest item level form)
  where
    go : (t : Bool) → cond t (Some first) (written_by rest item level) ≡ Some form → (written_by rest item level ≡ Some form → Memᴰ form rest)
        → Memᴰ form (first ∷ rest)
    go true e later = let same : form ≡ first = cc in Memᴰ.head same
    go false e later = Memᴰ.tail (later e)

-- ---- what the table says of a code

-- 01 "The checksum": "Heartbeats carry zero"; M-101: an update its true sum
abbrev sum_about : Subject → Sum
sum_about Nothing = Zero
sum_about (Of item level) = Right

-- the length of each of a code's forms names it, and the code's sum is the form's
abbrev Told : Meaning → Type 0
Told means =
    (form : Form) → Memᴰ form means.forms
    → (named_by means.forms (message_length (rows_of form)) ≡ is.Form form) × (means.sum ≡ sum_about (subject_of form))

told_heartbeat : Told (record { sum = Zero; forms = Heartbeat ∷ [] })
unfolding rows_of named_rows
told_heartbeat form (Memᴰ.head same) = rw same (refl, refl)
told_heartbeat form (Memᴰ.tail x4) = elim x4 [ ]

-- two forms of a code at one level each, told apart by their lengths
told_update : (one two : Form) (item : Item) → subject_of one ≡ Of item One → subject_of two ≡ Of item Two
    → eqb (message_length (rows_of two)) (message_length (rows_of one)) ≡ false → Told (record { sum = Right; forms = one ∷ two ∷ [] })
told_update one two item first second apart form (Memᴰ.head same) = rw (same, first, eq-eqb (message_length (rows_of one)) (message_length (rows_of one)) refl) (refl, refl)
told_update one two item first second apart form (Memᴰ.tail (Memᴰ.head same)) = rw (same, second, apart, eq-eqb (message_length (rows_of two)) (message_length (rows_of two)) refl) (refl, refl)
told_update one two item first second apart form (Memᴰ.tail (Memᴰ.tail x8)) = elim x8 [ ]

told_no_form : (sum : Sum) → Told (record { sum = sum; forms = [] })
told_no_form sum form m = absurd (Memᴰ.not-nil m)

-- what holds of each line, and of a code that has none
abbrev Each : (ℕ → Meaning → Type 0) → List Line → Type 0
Each P [] = (letter : ℕ) → P letter (meaning_in [] 0 0)
Each P (code ∷ rest) = P code.letter code.meaning × Each P rest

-- holds of every code
each_code : (P : ℕ → Meaning → Type 0) (lines : List Line) → Each P lines → (letter second : ℕ) → P letter (meaning_in lines letter second)
each_code P [] h letter second = h letter
each_code P (code ∷ rest) h letter second = go (eqb letter code.letter) refl (eqb second code.second) (each_code P rest h.1 letter second)
  where
    go : (t : Bool) → eqb letter code.letter ≡ t → (u : Bool) → P letter (meaning_in rest letter second) → P letter (cond (t && u) code.meaning (meaning_in rest letter second))
    go true is true later = rw (eqb-true letter code.letter is) h.0
    go true is false later = later
    go false is u later = later

passed_over : Told (record { sum = RightOrZero; forms = [] })
passed_over = told_no_form RightOrZero

codes_told : (letter : ℕ) (rest : List Line) → Each (λ _. Told) rest → Each (λ _. Told) (codes_of letter ++ rest)
unfolding rows_of named_rows
codes_told letter rest h =
    (told_heartbeat, (told_update LevelOne LevelTwo Contract refl refl refl, (told_update PairOne PairTwo Pair refl refl refl, (passed_over, (passed_over, (passed_over, h))))))

futures_told : (rest : List Line) → Each (λ _. Told) rest → Each (λ _. Told) (future_codes ++ rest)
unfolding rows_of named_rows
futures_told rest h =
    (told_heartbeat, (told_update FutureOne FutureTwo Contract refl refl refl, (passed_over, (passed_over, (passed_over, (passed_over, h))))))

pre_open_told : Each (λ _. Told) pre_open_codes
unfolding rows_of named_rows
pre_open_told = (told_update PreOpenOne PreOpenTwo Contract refl refl refl, (passed_over, (passed_over, λ letter. told_no_form Right)))

code_told : (letter second : ℕ) → Told (meaning_of letter second)
unfolding meaning_of
code_told letter second =
    each_code (λ _. Told) table (codes_told 0x44 (codes_of 0x54 ++ future_codes ++ pre_open_codes) (codes_told 0x54 (future_codes ++ pre_open_codes) (futures_told pre_open_codes pre_open_told))) letter second

-- ---- which codes have a time stamp, and which are sent in pre-open

-- M-104: those of F have a time stamp, and of P, which counts as F
abbrev is_stamped_letter : ℕ → Bool
is_stamped_letter letter = eqb letter 0x46 || eqb letter 0x50

-- M-104: those of P are sent in pre-open
abbrev letter_session : ℕ → Session
letter_session letter = cond (eqb letter 0x50) session.PreOpen session.Normal

abbrev OwnStamp : ℕ → Form → Subject → Type 0
OwnStamp letter form Nothing = Unit {0}
OwnStamp letter form (Of Contract level) = is_stamped form ≡ is_stamped_letter letter
OwnStamp letter form (Of Pair level) = Unit {0}

abbrev Own : ℕ → Form → Type 0
Own letter form = OwnStamp letter form (subject_of form) × (session_of form ≡ letter_session letter)

abbrev OwnForms : ℕ → Meaning → Type 0
OwnForms letter means = (form : Form) → Memᴰ form means.forms → Own letter form

no_own : (letter : ℕ) (sum : Sum) → OwnForms letter (record { sum = sum; forms = [] })
no_own letter sum form m = absurd (Memᴰ.not-nil m)

one_own : (letter : ℕ) (sum : Sum) (one : Form) → Own letter one → OwnForms letter (record { sum = sum; forms = one ∷ [] })
one_own letter sum one h form (Memᴰ.head same) = rw same h
one_own letter sum one h form (Memᴰ.tail x4) = elim x4 [ ]

two_own : (letter : ℕ) (one two : Form) → Own letter one → Own letter two → OwnForms letter (record { sum = Right; forms = one ∷ two ∷ [] })
two_own letter one two h k form (Memᴰ.head same) = rw same h
two_own letter one two h k form (Memᴰ.tail (Memᴰ.head same)) = rw same k
two_own letter one two h k form (Memᴰ.tail (Memᴰ.tail x8)) = elim x8 [ ]

codes_own : (letter : ℕ) → is_stamped_letter letter ≡ false → letter_session letter ≡ session.Normal → (rest : List Line) → Each OwnForms rest → Each OwnForms (codes_of letter ++ rest)
codes_own letter other normal rest h =
    let none = no_own letter RightOrZero in
    let e = sym normal in
    (one_own letter Zero Heartbeat (tt, e), (two_own letter LevelOne LevelTwo (sym other, e) (sym other, e), (two_own letter PairOne PairTwo (tt, e) (tt, e), (none, (none, (none, h))))))

futures_own : Each OwnForms (future_codes ++ pre_open_codes)
futures_own =
    let none = no_own 0x46 RightOrZero in
    let nothing = no_own 0x50 RightOrZero in
    let pre_open = two_own 0x50 PreOpenOne PreOpenTwo (refl, refl) (refl, refl) in (
      one_own 0x46 Zero Heartbeat (tt, refl),
      (two_own 0x46 FutureOne FutureTwo (refl, refl) (refl, refl), (none, (none, (none, (none, (pre_open, (nothing, (nothing, λ letter. no_own letter Right)))))))),
    )

own_form : (letter second n : ℕ) (form : Form) → form_of letter second n ≡ is.Form form → Own letter form
unfolding form_of meaning_of
own_form letter second n form e =
    let each = codes_own 0x44 refl refl (codes_of 0x54 ++ future_codes ++ pre_open_codes) (codes_own 0x54 refl refl (future_codes ++ pre_open_codes) futures_own) in
    each_code OwnForms table each letter second form (told_form (forms_of letter second) n form e).0

-- an update of a contract has a time stamp exactly where its code is one of F's
pub stamped_code : (letter second n : ℕ) (form : Form) (level : Level) → form_of letter second n ≡ is.Form form → subject_of form ≡ Of Contract level
    → is_stamped form ≡ is_stamped_letter letter
stamped_code letter second n form level e s = subst (OwnStamp letter form) s (own_form letter second n form e).0

-- and a form is sent in pre-open exactly where its code begins with P
pub session_code : (letter second n : ℕ) (form : Form) → form_of letter second n ≡ is.Form form → session_of form ≡ letter_session letter
session_code letter second n form e = (own_form letter second n form e).1

-- a pair's are sent in the normal market
abbrev PairNormal : Subject → Form → Type 0
PairNormal Nothing form = Unit {0}
PairNormal (Of Contract level) form = Unit {0}
PairNormal (Of Pair level) form = session_of form ≡ session.Normal

pair_own : (form : Form) → PairNormal (subject_of form) form
pair_own Heartbeat = tt
pair_own LevelOne = tt
pair_own LevelTwo = tt
pair_own PairOne = refl
pair_own PairTwo = refl
pair_own FutureOne = tt
pair_own FutureTwo = tt
pair_own PreOpenOne = tt
pair_own PreOpenTwo = tt

pub pair_normal : (form : Form) (level : Level) → subject_of form ≡ Of Pair level → session_of form ≡ session.Normal
pair_normal form level s = subst (λ (subject : Subject). PairNormal subject form) s (pair_own form)

-- the code and the length of what is written name its form again
pub written_told : (letter second : ℕ) (item : Item) (level : Level) (form : Form) → written_form letter second item level ≡ Some form
    → form_of letter second (message_length (rows_of form)) ≡ is.Form form
unfolding form_of written_form
written_told letter second item level form e = (code_told letter second form (one_of_them (forms_of letter second) item level form e)).0

-- a code that may name a form has that form's sum
pub sum_told : (letter second n : ℕ) (form : Form) → form_of letter second n ≡ is.Form form → sum_rule letter second ≡ sum_about (subject_of form)
unfolding form_of
sum_told letter second n form e = (code_told letter second form (told_form (forms_of letter second) n form e).0).1

-- so what tells of nothing carries zero
pub nothing_zero : (letter second n : ℕ) (form : Form) → form_of letter second n ≡ is.Form form → subject_of form ≡ Nothing → sum_rule letter second ≡ Zero
nothing_zero letter second n form e nothing = sum_told letter second n form e ∙ ap sum_about nothing

-- ---- the papers' numbers

-- 001 section 2.1 (FV), 004 section 4.5 (FN, the older form without a time stamp) and 004 section 4.12 (FP), whose prices are 10 wide:
-- for their lengths alone
rows_fv : List NamedRow
rows_fv = contract_rows market_and_stamp (row.Price 10) 20 side_totals

older_fn : List NamedRow
older_fn = contract_rows normal_market (row.Price 10) 1 []

rows_fp : List NamedRow
rows_fp = pair_rows (row.Difference 10) 1 []

-- 01 "The message": the sum of the data widths plus 11
lengths : map (λ rows. message_length (laid_out rows)) (map named_rows (LevelOne ∷ LevelTwo ∷ PairOne ∷ PairTwo ∷ FutureOne ∷ FutureTwo ∷ []) ++ (rows_fv ∷ older_fn ∷ rows_fp ∷ []))
    ≡ 249 ∷ 505 ∷ 227 ∷ 483 ∷ 204 ∷ 404 ∷ 1064 ∷ 193 ∷ 185 ∷ []
unfolding named_rows rows_fv older_fn rows_fp
lengths = refl

depths : List ℕ
depths = 0 ∷ 1 ∷ 2 ∷ 3 ∷ 4 ∷ []

-- 01 "The message": where buy level k and sell level k begin, price 17 and quantity 12
buy_offsets : map (λ k. offset_of (rows_of LevelTwo) (6 + 2 * k)) depths ≡ map (λ k. 40 + 29 * k) depths
unfolding rows_of named_rows depths
buy_offsets = refl

sell_offsets : map (λ k. offset_of (rows_of LevelTwo) (16 + 2 * k)) depths ≡ map (λ k. 185 + 29 * k) depths
unfolding rows_of named_rows depths
sell_offsets = refl

-- 01 "The message": last traded price, traded quantity and status at level 2
trade_offsets : map (offset_of (rows_of LevelTwo)) (26 ∷ 27 ∷ 28 ∷ []) ≡ 330 ∷ 347 ∷ 359 ∷ []
unfolding rows_of named_rows
trade_offsets = refl

-- 19 and 37 rows, and with a time stamp 20 and 38; the status is row 12 and row 28
counts : map (λ form. length (rows_of form)) (LevelOne ∷ LevelTwo ∷ PairOne ∷ PairTwo ∷ FutureOne ∷ FutureTwo ∷ []) ≡ 19 ∷ 37 ∷ 19 ∷ 37 ∷ 20 ∷ 38 ∷ []
unfolding rows_of named_rows
counts = refl

status_rows : get_or (rows_of LevelOne) 12 (row.Key 0) ∷ get_or (rows_of LevelTwo) 28 (row.Key 0) ∷ [] ≡ row.Status ∷ row.Status ∷ []
unfolding rows_of named_rows
status_rows = refl
