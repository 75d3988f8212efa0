-- What each call over a lent row of runs promises: what the call over numbers promises of the row seen as numbers, with 15 for gap
-- rows in runs.
use Rattle.std.specs.Prelude.{ℕ, ◌≡◌, true, List, [], ◌∷◌, length, Result}
use Rattle.files.specs.File.{segments_of}
use Rattle.contracts.specs.SoundTests.{header_sound, sound}
use Rattle.pairs.specs.SpreadTests.{spread_header_sound, spreads_sound}
use Rattle.pairs.specs.Lists.{Lists}
use Rattle.forms.specs.declared.rows.Level.{Level}
use Rattle.state.specs.declared.refusal.Refusal.{Refusal}
use Rattle.state.specs.declared.answers.Judged.{Judged}
use Rattle.reading.specs.declared.record.Reading.{Reading}
use Rattle.state.specs.Answers.{started_numbers, judged_numbers, listed_numbers, written_off_numbers, recorded_numbers, Listed, WrittenOff}
use Rattle.state.specs.Memory.{lends}
use Rattle.batch.specs.Promises.{JudgedBatch, TookBatch}
use Rattle.reading.specs.declared.record.SpreadReading.{SpreadReading}
use Rattle.state.specs.declared.answers.Recorded.{Recorded}
use Rattle.starting.specs.StartPromises.{StartedBox}
use Rattle.listing.specs.ListPromises.{ListedRuns, WroteOffRun}
use Rattle.reading.specs.Reads.{ReadsFor}
use Rattle.reading.specs.Record.{blank, blank_spread}
use Rattle.quote.specs.Quote.{quote_of}
use Rattle.spread.specs.Spread.{spread_quote_of}
use Rattle.forms.specs.declared.forms.Form.{Form}
use Rattle.forms.specs.declared.forms.Item.{Item}
use Rattle.forms.specs.declared.forms.Item.TheVariants.{Contract, Pair}
use Rattle.starting.specs.Start.{each_starts}
use Rattle.reading.specs.Shown.{QuoteFor, shown, blank_for}
use Rattle.copies.specs.declared.run.Run.{Run}
use Rattle.copies.specs.Rows.{flat}
use Rattle.runs.specs.Wanted.{in_runs}

-- 01 "Which form goes where", the lent row of runs: a call over runs is the call over numbers on the runs seen as numbers; but 15 for
-- gap rows names runs. What that call promises is said of the numbers lent, of those left, and of its answer.
pub record Over {A : Type 0} (numbers_of : A → List ℕ) (list : List ℕ) (rows rows' : List Run) (promise : List ℕ → List ℕ → A → Type 0) (answer : A) : Type 0 where
  pub core : A
  pub promised : promise (flat rows) (flat rows') core
  pub answers : numbers_of answer ≡ in_runs list (length rows) (numbers_of core)

-- 01 "What may be asked": start
abbrev pub StartedRuns : (lists : Lists) (starts : List ℕ) (rows : List Run) (records : List ℕ) (answer : Result (Unit {0}) Refusal) (rows' : List Run) (records' : List ℕ) → Type 0
StartedRuns lists starts rows records answer rows' records' = Over started_numbers lists.contracts rows rows' (λ ns ns' core. StartedBox (lends lists ns records) starts core (lends lists ns' records')) answer

-- 01 "What may be asked": judge a batch without change
abbrev pub JudgedRuns : (lists : Lists) (rows : List Run) (records batch : List ℕ) (answer : Judged) → Type 0
JudgedRuns lists rows records batch answer = Over judged_numbers lists.contracts rows rows (λ ns ns' core. JudgedBatch (lends lists ns records) batch core) answer

-- 01 "What may be asked": take a batch
abbrev pub TookRuns : (lists : Lists) (rows : List Run) (records batch : List ℕ) (answer : Judged) (rows' : List Run) (records' : List ℕ) → Type 0
TookRuns lists rows records batch answer rows' records' = Over judged_numbers lists.contracts rows rows' (λ ns ns' core. TookBatch (lends lists ns records) batch core (lends lists ns' records')) answer

-- 01 "What may be asked": list gaps; its runs stand in lent cells, two a run
abbrev pub ListedGaps : (lists : Lists) (rows : List Run) (records : List ℕ) (letter : ℕ) (cells : List ℕ) (answer : Listed) (cells' : List ℕ) → Type 0
ListedGaps lists rows records letter cells answer cells' = Over listed_numbers lists.contracts rows rows (λ ns ns' core. ListedRuns (lends lists ns records) letter cells core cells') answer

-- 01 "What may be asked": write off the lowest run
abbrev pub WroteOffRuns : (lists : Lists) (rows : List Run) (records : List ℕ) (letter : ℕ) (answer : WrittenOff) (rows' : List Run) → Type 0
WroteOffRuns lists rows records letter answer rows' = Over written_off_numbers lists.contracts rows rows' (λ ns ns' core. WroteOffRun (lends lists ns records) letter core (lends lists ns' records)) answer

-- 01 "What may be asked", M-100: read a record, of a contract or of a pair
abbrev pub ReadsRuns : {A : Type 0} (show : Form → List ℕ → A) (blank : A) (item : Item) (lists : Lists) (rows : List Run) (records : List ℕ) (letter : ℕ) (key : List ℕ) (level : Level) (answer : Recorded) (quote : A) → Type 0
ReadsRuns show blank item lists rows records letter key level answer quote =
    Over recorded_numbers lists.contracts rows rows (λ ns ns' core. ReadsFor show blank item (lends lists ns records) letter key level core quote) answer

-- 01 "What may be asked": a contract's record
abbrev pub ReadRuns : (lists : Lists) (rows : List Run) (records : List ℕ) (letter : ℕ) (key : List ℕ) (level : Level) (reading : Reading) → Type 0
ReadRuns lists rows records letter key level reading = ReadsRuns quote_of blank Contract lists rows records letter key level reading.answer reading.quote

-- M-100: a pair's record
abbrev pub ReadSpreadRuns : (lists : Lists) (rows : List Run) (records : List ℕ) (letter : ℕ) (pair : List ℕ) (level : Level) (reading : SpreadReading) → Type 0
ReadSpreadRuns lists rows records letter pair level reading = ReadsRuns spread_quote_of blank_spread Pair lists rows records letter pair level reading.answer reading.quote

-- 01, the order of checks, M-100: 16 is not given for either list
abbrev pub HeadersPass : Lists → Type 0
HeadersPass lists = (header_sound lists.contracts ≡ true) × (spread_header_sound lists.contracts lists.pairs ≡ true)

-- 01, the order of checks: a call on these runs that no rule before 15 refuses, the numbers of its answer, and those that stand behind a
-- refusal by 15; M-102: of a batch that no key was compared
pub data UpToMemory (lists : Lists) (rows : List Run) : List ℕ → List ℕ → Type 0 where
  starts : {starts records records' : List ℕ} {rows' : List Run} {answer : Result (Unit {0}) Refusal} → sound lists.contracts ≡ true → spreads_sound lists.contracts lists.pairs ≡ true
      → each_starts (segments_of lists.contracts) starts ≡ true → StartedRuns lists starts rows records answer rows' records' → UpToMemory lists rows (started_numbers answer) []
  judges : {records batch : List ℕ} {answer : Judged} → HeadersPass lists → JudgedRuns lists rows records batch answer → UpToMemory lists rows (judged_numbers answer) (0 ∷ [])
  takes : {records batch records' : List ℕ} {rows' : List Run} {answer : Judged} → HeadersPass lists → TookRuns lists rows records batch answer rows' records' → UpToMemory lists rows (judged_numbers answer) (0 ∷ [])
  lists_gaps : {records cells cells' : List ℕ} {letter : ℕ} {answer : Listed} → HeadersPass lists → ListedGaps lists rows records letter cells answer cells' → UpToMemory lists rows (listed_numbers answer) []
  writes_off : {records : List ℕ} {letter : ℕ} {rows' : List Run} {answer : WrittenOff} → HeadersPass lists → WroteOffRuns lists rows records letter answer rows' → UpToMemory lists rows (written_off_numbers answer) []
  reads : {item : Item} {quote : QuoteFor item} {records key : List ℕ} {letter : ℕ} {level : Level} {answer : Recorded} → HeadersPass lists
      → ReadsRuns (shown item) (blank_for item) item lists rows records letter key level answer quote → UpToMemory lists rows (recorded_numbers answer) []
