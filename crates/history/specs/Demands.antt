-- Demand 3, and what of the others is said over histories, each sentence as a statement. `DemandsLaws` proves them.
use Rattle.std.specs.Prelude.{ℕ, ◌*◌, ◌≤◌, ◌<◌, ◌≡◌, false, ◌&&◌, ◌||◌, List, ◌↔◌, ltb, eqb, length, Ok, Err}
use Rattle.std.proofs.Math.Option.{some}
use Rattle.files.specs.File.{segments_of}
use Rattle.lookup.specs.Lookup.{segment_of}
use Rattle.pairs.specs.Lists.{SoundLists}
use Rattle.sequence.specs.Runs.{◌to◌, names}
use Rattle.forms.specs.declared.forms.Form.{Form}
use Rattle.forms.specs.declared.forms.Item.{Item}
use Rattle.forms.specs.declared.rows.Level.{Level}
use Rattle.state.specs.Answers.{Listed, WrittenOff, run_told, runs_told}
use Rattle.state.specs.declared.refusal.Refusal.{Refusal}
use Rattle.state.specs.declared.refusal.Refusal.TheVariants.{Gaps, NoGap, Memory}
use Rattle.state.specs.declared.answers.Judged.{Judged}
use Rattle.state.specs.declared.answers.Recorded.{Recorded}
use Rattle.writer.specs.declared.writing.Code.{Code}
use Rattle.turns.specs.Compared.{compared_of, reached_in}
use Rattle.batch.specs.Batch.{count_of}
use Rattle.batch.specs.Promises.{JudgedBatch, TookBatch}
use Rattle.starting.specs.StartPromises.{StartedBox, PutNoSpreads}
use Rattle.listing.specs.ListPromises.{ListedRuns, WroteOffRun}
use Rattle.writer.specs.WriterPromises.{WroteValues}
use Rattle.starting.specs.Start.{start_of}
use Rattle.state.specs.GoodState.{GoodState}
use Rattle.state.specs.Memory.{Lent}
use Rattle.slots.specs.Slots.{Slot, SlotListed}
use Rattle.history.specs.Past.{Event, after_write_off, wrote_off_in, taken_of, highest_in, missing_in, runs_standing, taken_for}
use Rattle.reading.specs.Shown.{QuoteFor, ReadsItem}
use Rattle.history.specs.Updates.{item_in, letter_in, key_in, level_in}
use Rattle.history.specs.Exactly.{NamesMissing, ReadsNewest, CountsCame, CountsKeys, OverInBatch}
use Rattle.history.specs.Machine.{is_new, LowestRun, IsAccepted, GoodNow, Judges}
use Rattle.history.specs.Refines.{machine_of}

-- demand 3: "After any sequence of calls from a fresh start", for each listed segment, and each listed contract and pair:
pub record AfterCalls (starts : List ℕ) (lent : Lent) (past : List Event) : Type 0 where
  -- "the gap list names exactly the missing numbers"
  pub names_missing : (letter i : ℕ) → segment_of lent.lists.contracts letter ≡ some i → (cells : List ℕ) (highest runs : ℕ) (cells' : List ℕ)
      → ListedRuns lent letter cells (runs_told highest runs) cells' → NamesMissing i (start_of starts i) past highest runs cells'
  -- it is answered where two cells are lent for each run that the missing numbers make, and else refused 15
  pub list_answered : (letter i : ℕ) → segment_of lent.lists.contracts letter ≡ some i → (cells : List ℕ) (answer : Listed) (cells' : List ℕ)
      → ListedRuns lent letter cells answer cells' → 2 * runs_standing i (start_of starts i) past ≤ length cells
      → answer ≡ runs_told (highest_in i (start_of starts i) past) (runs_standing i (start_of starts i) past)
  pub list_refused : (letter i : ℕ) → segment_of lent.lists.contracts letter ≡ some i → (cells : List ℕ) (answer : Listed) (cells' : List ℕ)
      → ListedRuns lent letter cells answer cells' → length cells < 2 * runs_standing i (start_of starts i) past
      → answer ≡ Err (Memory (2 * runs_standing i (start_of starts i) past))
  -- "A write-off removes the lowest run": it answers the lowest run of the missing numbers
  pub off_lowest : (letter i : ℕ) → segment_of lent.lists.contracts letter ≡ some i → (first last : ℕ) (lent' : Lent)
      → WroteOffRun lent letter (run_told first last) lent' → LowestRun (missing_in i (start_of starts i) past) first last
  -- 17 exactly when none is missing
  pub off_none : (letter i : ℕ) → segment_of lent.lists.contracts letter ≡ some i → (answer : WrittenOff) (lent' : Lent) → WroteOffRun lent letter answer lent'
      → answer ≡ Err NoGap ↔ ((n : ℕ) → missing_in i (start_of starts i) past n ≡ false)
  -- afterwards exactly its numbers are written off, beside those that were
  pub off_after : (letter i : ℕ) → segment_of lent.lists.contracts letter ≡ some i → (first last j n : ℕ)
      → wrote_off_in j (after_write_off lent.lists letter (run_told first last) past) n ≡ eqb i j && names (first to last) n || wrote_off_in j past n
  -- "and each record is its contract's highest-numbered update taken"
  pub reads_newest : (slot : Slot) → SlotListed lent.lists slot → (answer : Recorded) (quote : QuoteFor (item_in slot))
      → ReadsItem (item_in slot) lent (letter_in lent.lists slot) (key_in lent.lists slot) (level_in slot) answer quote
      → ReadsNewest slot (taken_for starts slot past) answer quote
  -- "A number above highest, or missing, is taken. All others are old"
  pub takes_missing : (i : ℕ) → i < segments_of lent.lists.contracts → (n : ℕ)
      → is_new (start_of starts i) (taken_of i (start_of starts i) past) (wrote_off_in i past) n
      ≡ ltb (highest_in i (start_of starts i) past) n || missing_in i (start_of starts i) past n
  -- "An accepted batch answers how many messages were taken, old and heartbeats; judging answers what taking would"
  pub counts_came : (batch : List ℕ) (taken old heartbeats compared : ℕ) → JudgedBatch lent batch (Judged.Accepted taken old heartbeats compared)
      → CountsCame lent.lists starts past batch taken old heartbeats
  -- "A batch is accepted exactly when document 01's rules hold for all of it", 14 counted from the missing numbers
  pub accepted_exactly : (batch : List ℕ) (answer : Judged) → JudgedBatch lent batch answer
      → IsAccepted answer ↔ GoodNow (machine_of lent.lists starts past) batch
  -- and what is answered, the refusal by the first broken rule too, is what the machine of that past answers
  pub judged_exactly : (batch : List ℕ) (answer : Judged) → JudgedBatch lent batch answer ↔ Judges (machine_of lent.lists starts past) batch answer
  -- "A call is refused for gaps exactly when no earlier rule refuses it and over 64 runs would stand"
  pub refused_for_gaps : (batch : List ℕ) (answer : Judged) → JudgedBatch lent batch answer
      → (i : ℕ) → ((compared : ℕ) × (answer ≡ Judged.Refused (Gaps i) compared)) ↔ OverInBatch lent.lists starts past batch i
  -- M-102, "add up the counts of a batch's lookups": what is said of them is so on any box with these lists
  pub keys_compared : (batch : List ℕ) (answer : Judged) → JudgedBatch lent batch answer → CountsKeys lent.lists batch answer
  -- 16, 15 for state too short, and 18 are not given
  pub state_passes : GoodState lent
  -- bodies too: so 13 is given exactly where the key is none of its list's (`message` GoodLaws: `contract_listed`)
  pub lists_sound : SoundLists lent.lists

-- M-102: two boxes with one contract list and one spread list, whatever each has taken, compare as many keys for a batch that both
-- accept, or refuse at one place
abbrev pub CompareAlike : Lent → Lent → Type 0
CompareAlike lent lent' = (batch : List ℕ) (a b : Judged) → JudgedBatch lent batch a → JudgedBatch lent' batch b
    → reached_in (count_of batch) a ≡ reached_in (count_of batch) b → compared_of a ≡ compared_of b

-- demand 3: "Two boxes that took the same messages agree": in gap lists, and in records
pub record Agree (lent lent' : Lent) : Type 0 where
  pub same_gaps : (letter : ℕ) (cells : List ℕ) (a b : Listed) (cells' cells'' : List ℕ)
      → ListedRuns lent letter cells a cells' → ListedRuns lent' letter cells b cells'' → (a ≡ b) × (cells' ≡ cells'')
  pub same_records : (item : Item) (letter : ℕ) (key : List ℕ) (level : Level) (a b : Recorded) (quote quote' : QuoteFor item)
      → ReadsItem item lent letter key level a quote → ReadsItem item lent' letter key level b quote' → (a ≡ b) × (quote ≡ quote')

-- demand 1 and 01 "What may be asked": "A refusal leaves all lent memory as before", whatever is handed to the call; judging
-- and reading a record write nothing
pub record RefusalsKeep (lent : Lent) : Type 0 where
  pub start_keeps : (starts : List ℕ) (refusal : Refusal) (lent' : Lent) → StartedBox lent starts (Err refusal) lent' → lent' ≡ lent
  pub take_keeps : (batch : List ℕ) (refusal : Refusal) (compared : ℕ) (lent' : Lent) → TookBatch lent batch (Judged.Refused refusal compared) lent' → lent' ≡ lent
  pub list_keeps : (letter : ℕ) (cells : List ℕ) (refusal : Refusal) (cells' : List ℕ)
      → ListedRuns lent letter cells (Err refusal) cells' → cells' ≡ cells
  pub write_off_keeps : (letter : ℕ) (refusal : Refusal) (lent' : Lent) → WroteOffRun lent letter (Err refusal) lent' → lent' ≡ lent
  pub write_keeps : (item : Item) (code : Code) (level : Level) (number : ℕ) (key : List ℕ) (cells : Form → List ℕ) (out : List ℕ) (refusal : Refusal) (out' : List ℕ)
      → WroteValues item code level number key cells out (Err refusal) out' → out' ≡ out
  pub no_spreads_keeps : (list out : List ℕ) (refusal : Refusal) (out' : List ℕ) → PutNoSpreads list out (Err refusal) out' → out' ≡ out

-- demand 1, and 01, the table's rows 15, 16 and 18: an accepted call leaves gap rows and records that pass 16, 15 and 18,
-- whatever was handed to it
pub record AcceptedLeave (lent : Lent) : Type 0 where
  pub start_leaves : (starts : List ℕ) (lent' : Lent) → StartedBox lent starts (Ok tt) lent' → GoodState lent'
  pub take_leaves : (batch : List ℕ) (taken old heartbeats compared : ℕ) (lent' : Lent)
      → TookBatch lent batch (Judged.Accepted taken old heartbeats compared) lent' → GoodState lent'
  pub write_off_leaves : (letter first last : ℕ) (lent' : Lent) → WroteOffRun lent letter (run_told first last) lent' → GoodState lent'
