-- What reading a record answers, as it computes: 01 "What may be asked". A contract's record and a pair's are read alike: `show` gives
-- the quote that a form's cells hold, `blank` the one with every row none.
use Rattle.std.specs.Prelude.{ℕ, suc, ◌+◌, ◌≤◌, ◌≡◌, Bool, true, false, cond, List, [], ◌∷◌, ◌++◌, eqb, length, get_or, set, take, drop, replicate, Result, Ok, Err}
use Rattle.std.proofs.Math.Option.{Option, none, some}
use Rattle.laws.specs.Rules.{first_broken}
use Rattle.pairs.specs.Lists.{Lists}
use Rattle.lookup.specs.Lookup.{segment_of}
use Rattle.forms.specs.declared.rows.Level.{Level}
use Rattle.forms.specs.declared.forms.Form.{Form}
use Rattle.forms.specs.declared.forms.Form.TheVariants.{FutureTwo, PairTwo}
use Rattle.forms.specs.declared.forms.Item.{Item}
use Rattle.forms.specs.declared.forms.Item.TheVariants.{Contract, Pair}
use Rattle.forms.specs.declared.forms.Session.{Session}
use Rattle.forms.specs.declared.forms.Session.TheVariants.{Normal}
use Rattle.forms.specs.Forms.{record_form, key_rows_of}
use Rattle.forms.specs.Sizes.{most_rows, key_row_count}
use Rattle.layout.specs.Cells.{none as none_cell, session_cell, session_in, zeros_behind}
use Rattle.quote.specs.declared.quote.Quote.{Quote}
use Rattle.spread.specs.declared.spread.SpreadQuote.{SpreadQuote}
use Rattle.quote.specs.Quote.{quote_of}
use Rattle.spread.specs.Spread.{spread_quote_of}
use Rattle.message.specs.Message.{key_place}
use Rattle.state.specs.declared.refusal.Refusal.{Refusal}
use Rattle.state.specs.declared.answers.Recorded.{Recorded}
use Rattle.state.specs.Refusals.{refusal_numbers}
use Rattle.state.specs.Answers.{recorded_numbers, answered}
use Rattle.state.specs.Memory.{Lent}
use Rattle.slots.specs.Slots.{Slot, slot, cells_in_front}
use Rattle.slots.specs.Places.{slot_at, slot_in, record_rows}
use Rattle.reading.specs.ReadRules.{record_rules}

-- lent memory: the slot of a key's record of a level, by the key's place in the segment of the letter
abbrev pub slot_there : Item → Lists → ℕ → Level → Option ℕ → Slot
slot_there item lists letter level none = slot item 0 0 level
slot_there item lists letter level (some place) = slot_in item (segment_of lists.contracts letter) place level

-- lent memory: where that slot begins, with the key looked up
unfoldable pub record_of_key : Item → Lists → ℕ → List ℕ → Level → ℕ
record_of_key item lists letter key level = slot_at lists (slot_there item lists letter level (key_place item lists letter key))

-- 01, the order of checks: where the record begins that is asked for, or the refusal
abbrev pub place_numbers : Result ℕ Refusal → List ℕ
place_numbers (Ok at) = 0 ∷ at ∷ []
place_numbers (Err refusal) = refusal_numbers refusal

-- 01, the order of checks: the record's place where no rule is broken, and then it stands in lent memory; or else the first
-- broken rule's refusal
pub record Finds (item : Item) (lent : Lent) (letter : ℕ) (key : List ℕ) (level : Level) (answer : Result ℕ Refusal) : Type 0 where
  pub says : place_numbers answer ≡ answered (first_broken (record_rules item lent letter key)) (record_of_key item lent.lists letter key level ∷ [])
  pub inside : first_broken (record_rules item lent letter key) ≡ none → record_of_key item lent.lists letter key level + cells_in_front item + record_rows item level ≤ length lent.records

-- lent memory: a record begins with its update's number
abbrev pub record_number : List ℕ → ℕ → ℕ
record_number records at = get_or records at 0

-- M-104: a record says which session wrote it
abbrev pub record_session : Item → List ℕ → ℕ → Session
record_session Contract records at = session_in (get_or records (at + 1) 0)
record_session Pair records at = Normal

-- M-104: "Time stamp of D and T reads as none": of contracts F's alone is shown
abbrev pub stamp_shown : Item → ℕ → Bool
stamp_shown Contract letter = eqb letter 0x46
stamp_shown Pair letter = true

-- M-104: the rows' cells, the time stamp's as it stands or none; its row stands behind the market type's
abbrev pub stamp_seen : Bool → List ℕ → List ℕ
stamp_seen true cells = cells
stamp_seen false cells = set cells (suc key_row_count) none_cell

-- lent memory: a record's cells by row: those of the key, and any behind the last row, are 0
unfoldable pub cells_at : Item → Bool → List ℕ → ℕ → Level → List ℕ
cells_at item stamped records at level =
    stamp_seen stamped (zeros_behind (replicate (key_rows_of item) 0 ++ take (record_rows item level) (drop (at + cells_in_front item) records)))

-- 01 "What may be asked": the quote beside an answer that is no record; every row is none
unfoldable pub blank : Quote
blank = quote_of FutureTwo (replicate most_rows none_cell)

-- M-100: the same for a pair
unfoldable pub blank_spread : SpreadQuote
blank_spread = spread_quote_of PairTwo (replicate most_rows none_cell)

-- 01 "What may be asked": "A contract with no update taken reads as 'no record'": its number is 0; M-104: a record has its session
abbrev pub record_values : ℕ → Session → List ℕ
record_values number session = cond (eqb number 0) (0 ∷ []) (1 ∷ number ∷ session_cell session ∷ [])

-- 01 "What may be asked": the rows of a record, and none where there is no record
abbrev pub quote_at : {A : Type 0} → (Form → List ℕ → A) → A → Item → Bool → List ℕ → ℕ → Level → A
quote_at show blank item stamped records at level =
    cond (eqb (record_number records at) 0) blank (show (record_form item level) (cells_at item stamped records at level))

-- 01 "What may be asked": a refused call reads no record
abbrev pub quote_beside : {A : Type 0} → A → Option Refusal → A → A
quote_beside blank (some refusal) quote = blank
quote_beside blank none quote = quote

-- 01 "What may be asked": what stands at a record's place, read
pub record ReadsAt {A : Type 0} (show : Form → List ℕ → A) (blank : A) (item : Item) (stamped : Bool) (records : List ℕ) (at : ℕ) (level : Level) (answer : Recorded) (quote : A) : Type 0 where
  pub says : recorded_numbers answer ≡ 0 ∷ record_values (record_number records at) (record_session item records at)
  pub shows : quote ≡ quote_at show blank item stamped records at level
