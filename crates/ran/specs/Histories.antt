-- Histories of calls over a lent row of runs: 01 "What may be asked". Any finite sequence of public calls with any arguments from an
-- accepted start, with no other accepted start in it, each call handed the runs and records that the one before left.
use Rattle.std.specs.Prelude.{ℕ, ◌≡◌, List, [], Ok, Err, Result}
use Rattle.forms.specs.declared.forms.Form.{Form}
use Rattle.forms.specs.declared.forms.Item.{Item}
use Rattle.pairs.specs.Lists.{Lists}
use Rattle.forms.specs.declared.rows.Level.{Level}
use Rattle.state.specs.Answers.{Listed, WrittenOff}
use Rattle.state.specs.declared.refusal.Refusal.{Refusal}
use Rattle.state.specs.declared.answers.Judged.{Judged}
use Rattle.state.specs.declared.answers.Recorded.{Recorded}
use Rattle.writer.specs.declared.writing.Code.{Code}
use Rattle.state.specs.Memory.{lends}
use Rattle.batch.specs.Promises.{JudgedBatch, TookBatch}
use Rattle.listing.specs.ListPromises.{ListedRuns, WroteOffRun}
use Rattle.starting.specs.StartPromises.{PutNoSpreads}
use Rattle.writer.specs.WriterPromises.{WroteValues}
use Rattle.reading.specs.Shown.{QuoteFor, shown, blank_for, ReadsItem}
use Rattle.history.specs.Past.{Event, after_take, after_write_off}
use Rattle.copies.specs.declared.run.Run.{Run}
use Rattle.copies.specs.Rows.{flat}
use Rattle.runs.specs.Promises.{StartedRuns, JudgedRuns, TookRuns, ListedGaps, WroteOffRuns, ReadsRuns}

-- demand 3, "After any sequence of calls from a fresh start": the runs and records that a history leaves, and its past: `lists` and
-- `starts` are those of its start
pub data ReachedRuns (lists : Lists) (starts : List ℕ) : List Run → List ℕ → List Event → Type 0 where
  begun : {rows rows' : List Run} {records records' : List ℕ} → StartedRuns lists starts rows records (Ok tt) rows' records' → ReachedRuns lists starts rows' records' []
  refused_start : {rows rows' : List Run} {records records' : List ℕ} {past : List Event} → ReachedRuns lists starts rows records past
      → (lists' : Lists) (starts' : List ℕ) (refusal : Refusal) → StartedRuns lists' starts' rows records (Err refusal) rows' records'
      → ReachedRuns lists starts rows' records' past
  judge : {rows : List Run} {records : List ℕ} {past : List Event} → ReachedRuns lists starts rows records past
      → (batch : List ℕ) (answer : Judged) → JudgedRuns lists rows records batch answer
      → ReachedRuns lists starts rows records past
  take : {rows rows' : List Run} {records records' : List ℕ} {past : List Event} → ReachedRuns lists starts rows records past
      → (batch : List ℕ) (answer : Judged) → TookRuns lists rows records batch answer rows' records'
      → ReachedRuns lists starts rows' records' (after_take lists batch answer past)
  list_gaps : {rows : List Run} {records : List ℕ} {past : List Event} → ReachedRuns lists starts rows records past
      → (letter : ℕ) (cells : List ℕ) (answer : Listed) (cells' : List ℕ) → ListedGaps lists rows records letter cells answer cells'
      → ReachedRuns lists starts rows records past
  write_off : {rows rows' : List Run} {records : List ℕ} {past : List Event} → ReachedRuns lists starts rows records past
      → (letter : ℕ) (answer : WrittenOff) → WroteOffRuns lists rows records letter answer rows'
      → ReachedRuns lists starts rows' records (after_write_off lists letter answer past)
  read_record : {rows : List Run} {records : List ℕ} {past : List Event} → ReachedRuns lists starts rows records past
      → (item : Item) (letter : ℕ) (key : List ℕ) (level : Level) (answer : Recorded) (quote : QuoteFor item)
      → ReadsRuns (shown item) (blank_for item) item lists rows records letter key level answer quote
      → ReachedRuns lists starts rows records past
  -- the writer is handed no gap rows and no records
  write_message : {rows : List Run} {records : List ℕ} {past : List Event} → ReachedRuns lists starts rows records past
      → (item : Item) (code : Code) (level : Level) (number : ℕ) (key : List ℕ) (cells : Form → List ℕ) (out : List ℕ) (answer : Result ℕ Refusal) (out' : List ℕ)
      → WroteValues item code level number key cells out answer out'
      → ReachedRuns lists starts rows records past
  no_spreads : {rows : List Run} {records : List ℕ} {past : List Event} → ReachedRuns lists starts rows records past
      → (list out : List ℕ) (answer : Result ℕ Refusal) (out' : List ℕ) → PutNoSpreads list out answer out'
      → ReachedRuns lists starts rows records past

-- 01 "What may be asked": each call answers and leaves what the call over numbers does, with the row seen as numbers
pub record AsNumbers (lists : Lists) (rows : List Run) (records : List ℕ) : Type 0 where
  pub judges : (batch : List ℕ) (answer : Judged) → JudgedRuns lists rows records batch answer → JudgedBatch (lends lists (flat rows) records) batch answer
  pub takes : (batch : List ℕ) (answer : Judged) (rows' : List Run) (records' : List ℕ)
      → TookRuns lists rows records batch answer rows' records' → TookBatch (lends lists (flat rows) records) batch answer (lends lists (flat rows') records')
  pub lists_gaps : (letter : ℕ) (cells : List ℕ) (answer : Listed) (cells' : List ℕ)
      → ListedGaps lists rows records letter cells answer cells' → ListedRuns (lends lists (flat rows) records) letter cells answer cells'
  pub writes_off : (letter : ℕ) (answer : WrittenOff) (rows' : List Run)
      → WroteOffRuns lists rows records letter answer rows' → WroteOffRun (lends lists (flat rows) records) letter answer (lends lists (flat rows') records)
  pub reads : (item : Item) (letter : ℕ) (key : List ℕ) (level : Level) (answer : Recorded) (quote : QuoteFor item)
      → ReadsRuns (shown item) (blank_for item) item lists rows records letter key level answer quote → ReadsItem item (lends lists (flat rows) records) letter key level answer quote

-- demand 3: "Two boxes that took the same messages agree": in gap lists, and in records
pub record AgreeRuns (lists : Lists) (rows : List Run) (records : List ℕ) (rows' : List Run) (records' : List ℕ) : Type 0 where
  pub same_gaps : (letter : ℕ) (cells : List ℕ) (a b : Listed) (cells' cells'' : List ℕ)
      → ListedGaps lists rows records letter cells a cells' → ListedGaps lists rows' records' letter cells b cells'' → (a ≡ b) × (cells' ≡ cells'')
  pub same_records : (item : Item) (letter : ℕ) (key : List ℕ) (level : Level) (a b : Recorded) (quote quote' : QuoteFor item)
      → ReadsRuns (shown item) (blank_for item) item lists rows records letter key level a quote → ReadsRuns (shown item) (blank_for item) item lists rows' records' letter key level b quote'
      → (a ≡ b) × (quote ≡ quote')
