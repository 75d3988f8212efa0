-- What each function promises a host: the quotebox call's own promise, its answer told by number, and every lent cell afterwards.
use Rattle.std.specs.Prelude.{ℕ, ◌≡◌, List, get_or, Result}
use Rattle.forms.specs.declared.forms.Form.{Form}
use Rattle.forms.specs.declared.forms.Item.{Item}
use Rattle.forms.specs.declared.forms.Item.TheVariants.{Contract, Pair}
use Rattle.forms.specs.declared.rows.Level.{Level}
use Rattle.quote.specs.Quote.{quote_of, values_of}
use Rattle.spread.specs.Spread.{spread_quote_of, spread_values_of}
use Rattle.state.specs.declared.refusal.Refusal.{Refusal}
use Rattle.state.specs.declared.answers.Judged.{Judged}
use Rattle.state.specs.declared.answers.Recorded.{Recorded}
use Rattle.writer.specs.declared.writing.Code.{Code}
use Rattle.state.specs.Answers.{started_numbers, judged_numbers, listed_numbers, written_off_numbers, written_numbers, Listed, WrittenOff}
use Rattle.state.specs.Memory.{Lent}
use Rattle.batch.specs.Promises.{JudgedBatch, TookBatch}
use Rattle.reading.specs.Record.{blank, blank_spread}
use Rattle.starting.specs.StartPromises.{StartedBox, PutNoSpreads}
use Rattle.listing.specs.ListPromises.{ListedRuns, WroteOffRun}
use Rattle.reading.specs.Reads.{ReadsFor}
use Rattle.writer.specs.WriterPromises.{WroteValues}
use Rattle.told.specs.Told.{Tells, record_numbers}
use Rattle.values.specs.Values.{row_values, quote_in, spread_values, spread_in}
use Rattle.told.specs.Shown.{values_after}

-- 01 "What may be asked": start, told to a host
pub record HostStarted (lent : Lent) (starts : List ℕ) (returned : ℕ) (lent' : Lent) (answer' : List ℕ) : Type 0 where
  pub started : Result (Unit {0}) Refusal
  pub promised : StartedBox lent starts started lent'
  pub tells : Tells (started_numbers started) returned answer'

-- 01 "What may be asked": judge a batch without change, told to a host
pub record HostJudged (lent : Lent) (batch : List ℕ) (returned : ℕ) (answer' : List ℕ) : Type 0 where
  pub judged : Judged
  pub promised : JudgedBatch lent batch judged
  pub tells : Tells (judged_numbers judged) returned answer'

-- 01 "What may be asked": take a batch, told to a host
pub record HostTook (lent : Lent) (batch : List ℕ) (returned : ℕ) (lent' : Lent) (answer' : List ℕ) : Type 0 where
  pub judged : Judged
  pub promised : TookBatch lent batch judged lent'
  pub tells : Tells (judged_numbers judged) returned answer'

-- 01 "What may be asked": list gaps, told to a host
pub record HostListed (lent : Lent) (letter : ℕ) (cells : List ℕ) (returned : ℕ) (cells' answer' : List ℕ) : Type 0 where
  pub listed : Listed
  pub promised : ListedRuns lent letter cells listed cells'
  pub tells : Tells (listed_numbers listed) returned answer'

-- 01 "What may be asked": write off the lowest run, told to a host
pub record HostWroteOff (lent : Lent) (letter : ℕ) (returned : ℕ) (lent' : Lent) (answer' : List ℕ) : Type 0 where
  pub written_off_lem : WrittenOff
  pub promised : WroteOffRun lent letter written_off_lem lent'
  pub tells : Tells (written_off_numbers written_off_lem) returned answer'

-- 01 "What may be asked", M-100: read a record, of a contract or of a pair, told to a host, its rows as values
pub record HostReads {A : Type 0} (show : Form → List ℕ → A) (blank : A) (values_of : Level → A → List ℕ) (item : Item) (lent : Lent) (letter : ℕ) (key : List ℕ) (level : Level) (values : List ℕ) (returned : ℕ) (values' answer' : List ℕ) : Type 0 where
  pub recorded : Recorded
  pub quote : A
  pub promised : ReadsFor show blank item lent letter key level recorded quote
  pub tells : Tells (record_numbers recorded) returned answer'
  pub shows : values' ≡ values_after item recorded (values_of level quote) values

-- 01 "What may be asked": a contract's record
abbrev pub HostRead : Lent → ℕ → List ℕ → Level → List ℕ → ℕ → List ℕ → List ℕ → Type 0
HostRead lent letter key level values returned values' answer' = HostReads quote_of blank row_values Contract lent letter key level values returned values' answer'

-- M-100: a pair's record
abbrev pub HostReadSpread : Lent → ℕ → List ℕ → Level → List ℕ → ℕ → List ℕ → List ℕ → Type 0
HostReadSpread lent letter pair level values returned values' answer' = HostReads spread_quote_of blank_spread spread_values Pair lent letter pair level values returned values' answer'

-- the host's header: a code is lent as its two bytes
abbrev pub code_of : List ℕ → Code
code_of bytes = record { 0 = get_or bytes 0 0; 1 = get_or bytes 1 0 }

-- 01 "What may be asked", M-100: write a message, of a contract or of a pair, told to a host, from the values of its quote
pub record HostWrites (item : Item) (code : List ℕ) (level : Level) (number : ℕ) (key : List ℕ) (values : Form → List ℕ) (out : List ℕ) (returned : ℕ) (out' answer' : List ℕ) : Type 0 where
  pub written : Result ℕ Refusal
  pub promised : WroteValues item (code_of code) level number key values out written out'
  pub tells : Tells (written_numbers written) returned answer'

-- 01 "What may be asked": a heartbeat, or an update of a contract, its rows handed as values
abbrev pub HostWrote : List ℕ → Level → ℕ → List ℕ → List ℕ → List ℕ → ℕ → List ℕ → List ℕ → Type 0
HostWrote code level number key values out returned out' answer' = HostWrites Contract code level number key (λ form. values_of form (quote_in level values)) out returned out' answer'

-- M-100: an update of a pair, its rows handed as values
abbrev pub HostWroteSpread : List ℕ → Level → ℕ → List ℕ → List ℕ → List ℕ → ℕ → List ℕ → List ℕ → Type 0
HostWroteSpread code level number pair values out returned out' answer' = HostWrites Pair code level number pair (λ form. spread_values_of form (spread_in level values)) out returned out' answer'

-- M-100: the spread list without pairs, told to a host
pub record HostPutNoSpreads (list out : List ℕ) (returned : ℕ) (out' answer' : List ℕ) : Type 0 where
  pub written : Result ℕ Refusal
  pub promised : PutNoSpreads list out written out'
  pub tells : Tells (written_numbers written) returned answer'
