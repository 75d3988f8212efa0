-- What is shown of a record, a contract's or a pair's: 01 "What may be asked", M-100. What is said of records is said of both at once.
use Rattle.std.specs.Prelude.{ℕ, Bool, true, List}
use Rattle.std.proofs.Math.Option.{Option}
use Rattle.forms.specs.declared.rows.Level.{Level}
use Rattle.forms.specs.declared.forms.Form.{Form}
use Rattle.forms.specs.declared.forms.Item.{Item}
use Rattle.forms.specs.declared.forms.Item.TheVariants.{Contract, Pair}
use Rattle.forms.specs.Names.{Name}
use Rattle.quote.specs.declared.quote.Quote.{Quote}
use Rattle.spread.specs.declared.spread.SpreadQuote.{SpreadQuote}
use Rattle.forms.specs.Forms.{is_stamped}
use Rattle.quote.specs.Quote.{quote_of, values_of}
use Rattle.spread.specs.Spread.{spread_quote_of, spread_values_of}
use Rattle.quote.specs.Shows.{ShowsFields}
use Rattle.spread.specs.Shows.{ShowsSpreadFields}
use Rattle.state.specs.declared.answers.Recorded.{Recorded}
use Rattle.state.specs.Memory.{Lent}
use Rattle.reading.specs.Record.{blank, blank_spread}
use Rattle.reading.specs.Reads.{ReadsFor}

-- 01 "What may be asked", M-100: a contract's record is shown as a quote, a pair's as one of a pair
abbrev pub QuoteFor : Item → Type 0
QuoteFor Contract = Quote
QuoteFor Pair = SpreadQuote

-- 01 "What may be asked", M-100: the quote that a form's cells hold
abbrev pub shown : (item : Item) → Form → List ℕ → QuoteFor item
shown Contract form cells = quote_of form cells
shown Pair form cells = spread_quote_of form cells

-- lent memory: the cells of a quote that was read: an amount in range is its own cell, as it is its own value (`layout` PlainLaws: `has_value`)
abbrev pub cells_for : (item : Item) → Form → QuoteFor item → List ℕ
cells_for Contract form quote = values_of form quote
cells_for Pair form quote = spread_values_of form quote

-- M-104: whether an update has a time stamp to show; a pair has none that could be left out
abbrev pub stamp_in : Item → Form → Bool
stamp_in Contract form = is_stamped form
stamp_in Pair form = true

-- 01 "What may be asked": the quote beside an answer that is no record
abbrev pub blank_for : (item : Item) → QuoteFor item
blank_for Contract = blank
blank_for Pair = blank_spread

-- demand 2: every field of a quote beside the text of its name
abbrev pub ShowsEach : (item : Item) → (Name → Option (List ℕ)) → QuoteFor item → Type 0
ShowsEach Contract text quote = ShowsFields text quote
ShowsEach Pair text quote = ShowsSpreadFields text quote

-- 01 "What may be asked", M-100: what reading a record promises: for a contract `ReadRecord`, for a pair `ReadSpread`
abbrev pub ReadsItem : (item : Item) → Lent → ℕ → List ℕ → Level → Recorded → QuoteFor item → Type 0
ReadsItem item lent letter key level answer quote = ReadsFor (shown item) (blank_for item) item lent letter key level answer quote
