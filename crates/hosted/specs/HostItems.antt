-- What is read and written by a host, of a contract or of a pair: M-100. What is said of the functions is said of both at once.
use Rattle.std.specs.Prelude.{ℕ, List}
use Rattle.forms.specs.declared.forms.Form.{Form}
use Rattle.forms.specs.declared.forms.Item.{Item}
use Rattle.forms.specs.declared.forms.Item.TheVariants.{Contract, Pair}
use Rattle.forms.specs.declared.rows.Level.{Level}
use Rattle.state.specs.Memory.{Lent}
use Rattle.values.specs.Values.{row_values, quote_in, spread_values, spread_in}
use Rattle.reading.specs.Shown.{QuoteFor, shown, cells_for, blank_for}
use Rattle.host.specs.Promises.{HostReads, HostWrites}

-- the host's header: one value a row behind the key, of a contract's quote or of a pair's
abbrev pub values_for : (item : Item) → Level → QuoteFor item → List ℕ
values_for Contract level quote = row_values level quote
values_for Pair level quote = spread_values level quote

-- the host's header: the quote that a host's values hold, a contract's or a pair's
abbrev pub quote_held : (item : Item) → Level → List ℕ → QuoteFor item
quote_held Contract level values = quote_in level values
quote_held Pair level values = spread_in level values

-- the host's header: what a message is written from: the values of that quote
abbrev pub laid_from : Item → Level → List ℕ → Form → List ℕ
laid_from item level values form = cells_for item form (quote_held item level values)

-- 01 "What may be asked", M-100: for a contract `HostRead`, for a pair `HostReadSpread` (`host`)
abbrev pub HostReadItem : Item → Lent → ℕ → List ℕ → Level → List ℕ → ℕ → List ℕ → List ℕ → Type 0
HostReadItem item lent letter key level values returned values' answer' = HostReads (shown item) (blank_for item) (values_for item) item lent letter key level values returned values' answer'

-- 01 "What may be asked", M-100: for a contract `HostWrote`, for a pair `HostWroteSpread` (`host`)
abbrev pub HostWroteItem : Item → List ℕ → Level → ℕ → List ℕ → List ℕ → List ℕ → ℕ → List ℕ → List ℕ → Type 0
HostWroteItem item code level number key values out returned out' answer' = HostWrites item code level number key (laid_from item level values) out returned out' answer'
