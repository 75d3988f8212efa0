-- What reading a record promises: the answer, and the quote beside it.
use Rattle.std.specs.Prelude.{ℕ, ◌≡◌, List}
use Rattle.laws.specs.Rules.{first_broken}
use Rattle.forms.specs.declared.rows.Level.{Level}
use Rattle.forms.specs.declared.forms.Form.{Form}
use Rattle.forms.specs.declared.forms.Item.{Item}
use Rattle.forms.specs.declared.forms.Item.TheVariants.{Contract, Pair}
use Rattle.quote.specs.Quote.{quote_of}
use Rattle.spread.specs.Spread.{spread_quote_of}
use Rattle.state.specs.declared.answers.Recorded.{Recorded}
use Rattle.state.specs.Answers.{recorded_numbers, answered}
use Rattle.state.specs.Memory.{Lent}
use Rattle.reading.specs.declared.record.Reading.{Reading}
use Rattle.reading.specs.declared.record.SpreadReading.{SpreadReading}
use Rattle.reading.specs.ReadRules.{record_rules}
use Rattle.reading.specs.Record.{record_of_key, record_number, record_session, record_values, stamp_shown, blank, blank_spread, quote_at, quote_beside}

-- 01 "What may be asked": a record holds its update's number and rows, M-104: and its session; a contract or a pair with no update
-- taken reads as "no record"
pub record ReadsFor {A : Type 0} (show : Form → List ℕ → A) (blank : A) (item : Item) (lent : Lent) (letter : ℕ) (key : List ℕ) (level : Level) (answer : Recorded) (quote : A) : Type 0 where
  pub answers : recorded_numbers answer ≡ answered (first_broken (record_rules item lent letter key)) (record_values (record_number lent.records (record_of_key item lent.lists letter key level)) (record_session item lent.records (record_of_key item lent.lists letter key level)))
  pub quotes : quote ≡ quote_beside blank (first_broken (record_rules item lent letter key)) (quote_at show blank item (stamp_shown item letter) lent.records (record_of_key item lent.lists letter key level) level)

-- 01 "What may be asked": a contract's record
abbrev pub ReadRecord : Lent → ℕ → List ℕ → Level → Reading → Type 0
ReadRecord lent letter key level reading = ReadsFor quote_of blank Contract lent letter key level reading.answer reading.quote

-- M-100: a pair's record
abbrev pub ReadSpread : Lent → ℕ → List ℕ → Level → SpreadReading → Type 0
ReadSpread lent letter pair level reading = ReadsFor spread_quote_of blank_spread Pair lent letter pair level reading.answer reading.quote
