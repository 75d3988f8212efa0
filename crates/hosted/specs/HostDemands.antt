-- Demand 3, and what of demand 1 is said of every call, at the functions for hosts: by the number returned, the four numbers of
-- `answer`, and the cells, values and bytes lent. `HostDemandsLaws` proves them.
use Rattle.std.specs.Prelude.{ℕ, ◌+◌, ◌*◌, ◌≤◌, ◌<◌, ◌≡◌, Bool, false, cond, ◌&&◌, ◌||◌, List, [], ◌∷◌, ◌++◌, ◌↔◌, leb, eqb, length, get_or, drop}
use Rattle.std.proofs.Math.Option.{some}
use Rattle.lookup.specs.Lookup.{segment_of}
use Rattle.pairs.specs.Lists.{Lists}
use Rattle.forms.specs.declared.forms.Item.{Item}
use Rattle.forms.specs.declared.rows.Level.{Level}
use Rattle.message.specs.Message.{Message}
use Rattle.state.specs.GoodState.{GoodState}
use Rattle.state.specs.Memory.{Lent}
use Rattle.slots.specs.Slots.{Slot, SlotListed}
use Rattle.forms.specs.Forms.{session_of}
use Rattle.turns.specs.Compared.{compared_in}
use Rattle.batch.specs.Batch.{count_of, batch_letter, batch_data}
use Rattle.starting.specs.Start.{start_of}
use Rattle.values.specs.Values.{most}
use Rattle.history.specs.Past.{Event, highest_in, missing_in, runs_standing, taken_for}
use Rattle.reading.specs.Shown.{shown}
use Rattle.history.specs.Updates.{item_in, letter_in, key_in, level_in}
use Rattle.history.specs.Exactly.{NamesMissing, IsNewest, NoUpdate, CountsCame, OverInBatch}
use Rattle.host.specs.Promises.{HostStarted, HostJudged, HostTook, HostListed, HostWroteOff, HostPutNoSpreads}
use Rattle.told.specs.Shown.{values_in_front, value_count}
use Rattle.hosted.specs.HostItems.{values_for, HostReadItem, HostWroteItem}
use Rattle.history.specs.Machine.{sequence_number, form_sent, LowestRun}

-- the host's header: the number that a function returns, and the four of `answer`
pub record GivesFour (returned : ℕ) (answer : List ℕ) (number first second third fourth : ℕ) : Type 0 where
  pub returns : returned ≡ number
  pub answers : answer ≡ first ∷ second ∷ third ∷ fourth ∷ []

-- the host's header: the last of them is 0, but where a batch is judged or taken
abbrev pub Gives : (returned : ℕ) (answer : List ℕ) (number first second third : ℕ) → Type 0
Gives returned answer number first second third = GivesFour returned answer number first second third 0

-- demand 3: "the gap list names exactly the missing numbers": highest and the number of runs, the runs in `cells`, and every cell behind
-- them as it was lent
pub record ListsMissing (i start : ℕ) (past : List Event) (cells : List ℕ) (returned : ℕ) (cells' answer' : List ℕ) : Type 0 where
  pub gives : Gives returned answer' 0 (highest_in i start past) (runs_standing i start past) 0
  pub names : NamesMissing i start past (highest_in i start past) (runs_standing i start past) cells'
  pub behind : drop (2 * runs_standing i start past) cells' ≡ drop (2 * runs_standing i start past) cells

-- 01 "Sequence and gaps", "A write-off removes the lowest run": the lowest run of the missing numbers; 17 where none is missing
pub data TellsLowest (missing : ℕ → Bool) (lent : Lent) (returned : ℕ) (lent' : Lent) (answer' : List ℕ) : Type 0 where
  a_run : (first last : ℕ) → LowestRun missing first last → Gives returned answer' 0 first last 0 → TellsLowest missing lent returned lent' answer'
  no_run : ((n : ℕ) → missing n ≡ false) → Gives returned answer' 17 0 0 0 → lent' ≡ lent → TellsLowest missing lent returned lent' answer'

-- demand 3: "each record is its contract's highest-numbered update taken": 1 and its number, session and rows among the values, and every value
-- behind them as it was lent; 0 where no update was taken, and every value as it was lent
pub data TellsNewest (slot : Slot) (taken : List Message) (values : List ℕ) (returned : ℕ) (values' answer' : List ℕ) : Type 0 where
  no_record : NoUpdate slot taken → Gives returned answer' 0 0 0 0 → values' ≡ values → TellsNewest slot taken values returned values' answer'
  a_record : (m : Message) → IsNewest slot taken m → Gives returned answer' 0 1 0 0
      → values' ≡ (values_in_front (item_in slot) (sequence_number m) (session_of (form_sent m)) ++ values_for (item_in slot) (level_in slot) (shown (item_in slot) (form_sent m) m.cells)) ++ drop (value_count (item_in slot) (level_in slot)) values
      → TellsNewest slot taken values returned values' answer'

-- 01 "What may be asked", "An accepted batch answers how many messages were taken, old and heartbeats": as counted from the history;
-- M-102: and then the keys compared
pub record TellsCounts (lists : Lists) (starts : List ℕ) (past : List Event) (batch answer' : List ℕ) : Type 0 where
  pub taken : ℕ
  pub old : ℕ
  pub heartbeats : ℕ
  pub compared : ℕ
  pub gives : answer' ≡ taken ∷ old ∷ heartbeats ∷ compared ∷ []
  pub came : CountsCame lists starts past batch taken old heartbeats

-- M-102, "those done so far", by the number returned and the message in `answer`: how many of a batch's messages have come to their
-- lookup: all where it is accepted or has bytes left over (4), those before the message that 5 to 12 refuse, that one too at 13 and 14
abbrev pub reached_told : ℕ → ℕ → ℕ → ℕ
reached_told count returned message =
    cond (eqb returned 0 || eqb returned 4) count
    (cond (leb 5 returned && leb returned 12) message (cond (leb 13 returned && leb returned 14) (message + 1) 0))

-- M-102: the last number of `answer` follows from the batch's bytes, the lists and the place of a refusal; at most 13 for each 204 bytes
pub record TellsKeys (lists : Lists) (batch : List ℕ) (returned : ℕ) (answer' : List ℕ) : Type 0 where
  pub follows : get_or answer' 3 0 ≡ compared_in (reached_told (count_of batch) returned (get_or answer' 0 0)) lists (batch_letter batch) (batch_data batch)
  pub few : 204 * get_or answer' 3 0 ≤ 13 * length (batch_data batch)

-- demand 3: "After any sequence of calls from a fresh start", made by a host, for each listed segment, and each listed contract and pair:
pub record AfterHostCalls (starts : List ℕ) (lent : Lent) (past : List Event) : Type 0 where
  -- "the gap list names exactly the missing numbers", where two cells are lent for each run that they make; else 15 and the cells wanted
  pub lists : (letter i : ℕ) → segment_of lent.lists.contracts letter ≡ some i → (cells : List ℕ) (returned : ℕ) (cells' answer' : List ℕ)
      → HostListed lent letter cells returned cells' answer' → 2 * runs_standing i (start_of starts i) past ≤ length cells
      → ListsMissing i (start_of starts i) past cells returned cells' answer'
  pub lists_short : (letter i : ℕ) → segment_of lent.lists.contracts letter ≡ some i → (cells : List ℕ) (returned : ℕ) (cells' answer' : List ℕ)
      → HostListed lent letter cells returned cells' answer' → length cells < 2 * runs_standing i (start_of starts i) past
      → Gives returned answer' 15 0 0 (2 * runs_standing i (start_of starts i) past) × (cells' ≡ cells)
  -- "A write-off removes the lowest run"
  pub writes_off : (letter i : ℕ) → segment_of lent.lists.contracts letter ≡ some i → (returned : ℕ) (lent' : Lent) (answer' : List ℕ)
      → HostWroteOff lent letter returned lent' answer' → TellsLowest (missing_in i (start_of starts i) past) lent returned lent' answer'
  -- "and each record is its contract's highest-numbered update taken"
  pub reads : (slot : Slot) → SlotListed lent.lists slot → (values : List ℕ) → length values ≡ most → (returned : ℕ) (values' answer' : List ℕ)
      → HostReadItem (item_in slot) lent (letter_in lent.lists slot) (key_in lent.lists slot) (level_in slot) values returned values' answer'
      → TellsNewest slot (taken_for starts slot past) values returned values' answer'
  -- "An accepted batch answers how many messages were taken, old and heartbeats; judging answers what taking would"
  pub counts : (batch answer' : List ℕ) → HostJudged lent batch 0 answer' → TellsCounts lent.lists starts past batch answer'
  pub takes_as_judged : (batch : List ℕ) (returned : ℕ) (lent' : Lent) (answer' : List ℕ) → HostTook lent batch returned lent' answer' → HostJudged lent batch returned answer'
  -- "A call is refused for gaps exactly when no earlier rule refuses it and over 64 runs would stand"
  pub refused_for_gaps : (batch : List ℕ) (returned : ℕ) (answer' : List ℕ) → HostJudged lent batch returned answer'
      → (i : ℕ) → ((compared : ℕ) × GivesFour returned answer' 14 i 0 0 compared) ↔ OverInBatch lent.lists starts past batch i
  -- M-102, "Judging and taking add up the counts of a batch's lookups", accepted or refused
  pub keys : (batch : List ℕ) (returned : ℕ) (answer' : List ℕ) → HostJudged lent batch returned answer' → TellsKeys lent.lists batch returned answer'
  -- 16, 15 for state too short, and 18 are not given
  pub state_passes : GoodState lent

-- demand 3: "Two boxes that took the same messages agree": whatever a host asks of both, start apart, it is returned and told the same,
-- and has the same runs and values
pub record HostAgree (lent lent' : Lent) : Type 0 where
  pub same_gaps : (letter : ℕ) (cells : List ℕ) (r s : ℕ) (cells' cells'' answer' answer'' : List ℕ)
      → HostListed lent letter cells r cells' answer' → HostListed lent' letter cells s cells'' answer'' → ((r ≡ s) × (answer' ≡ answer'')) × (cells' ≡ cells'')
  pub same_records : (item : Item) (letter : ℕ) (key : List ℕ) (level : Level) (values : List ℕ) (r s : ℕ) (values' values'' answer' answer'' : List ℕ)
      → HostReadItem item lent letter key level values r values' answer' → HostReadItem item lent' letter key level values s values'' answer''
      → ((r ≡ s) × (answer' ≡ answer'')) × (values' ≡ values'')
  -- of taking a batch too: `takes_as_judged`
  pub same_verdicts : (batch : List ℕ) (r s : ℕ) (answer' answer'' : List ℕ)
      → HostJudged lent batch r answer' → HostJudged lent' batch s answer'' → (r ≡ s) × (answer' ≡ answer'')
  pub same_write_offs : (letter r s : ℕ) (left left' : Lent) (answer' answer'' : List ℕ)
      → HostWroteOff lent letter r left answer' → HostWroteOff lent' letter s left' answer'' → (r ≡ s) × (answer' ≡ answer'')

-- the host's header: the function returns a refusal's number, which is not 0
abbrev pub IsRefused : ℕ → Type 0
IsRefused returned = returned ≡ 0 → ⊥

-- demand 1, and the host's header, "A refused call leaves everything lent as it was, `answer` apart", whatever is handed to it
pub record HostRefusalsKeep (lent : Lent) : Type 0 where
  pub start_keeps : (starts : List ℕ) (returned : ℕ) (lent' : Lent) (answer' : List ℕ) → HostStarted lent starts returned lent' answer' → IsRefused returned → lent' ≡ lent
  pub take_keeps : (batch : List ℕ) (returned : ℕ) (lent' : Lent) (answer' : List ℕ) → HostTook lent batch returned lent' answer' → IsRefused returned → lent' ≡ lent
  pub list_keeps : (letter : ℕ) (cells : List ℕ) (returned : ℕ) (cells' answer' : List ℕ)
      → HostListed lent letter cells returned cells' answer' → IsRefused returned → cells' ≡ cells
  pub write_off_keeps : (letter returned : ℕ) (lent' : Lent) (answer' : List ℕ) → HostWroteOff lent letter returned lent' answer' → IsRefused returned → lent' ≡ lent
  pub read_keeps : (item : Item) (letter : ℕ) (key : List ℕ) (level : Level) (values : List ℕ) (returned : ℕ) (values' answer' : List ℕ)
      → HostReadItem item lent letter key level values returned values' answer' → IsRefused returned → values' ≡ values
  pub write_keeps : (item : Item) (code : List ℕ) (level : Level) (number : ℕ) (key values out : List ℕ) (returned : ℕ) (out' answer' : List ℕ)
      → HostWroteItem item code level number key values out returned out' answer' → IsRefused returned → out' ≡ out
  pub no_spreads_keeps : (list out : List ℕ) (returned : ℕ) (out' answer' : List ℕ) → HostPutNoSpreads list out returned out' answer' → IsRefused returned → out' ≡ out

-- demand 1, and 01, the table's rows 15, 16 and 18: a call that returns 0 leaves gap rows and records that pass 16, 15 and 18, whatever
-- was handed to it
pub record HostAcceptedLeave (lent : Lent) : Type 0 where
  pub start_leaves : (starts : List ℕ) (lent' : Lent) (answer' : List ℕ) → HostStarted lent starts 0 lent' answer' → GoodState lent'
  pub take_leaves : (batch : List ℕ) (lent' : Lent) (answer' : List ℕ) → HostTook lent batch 0 lent' answer' → GoodState lent'
  pub write_off_leaves : (letter : ℕ) (lent' : Lent) (answer' : List ℕ) → HostWroteOff lent letter 0 lent' answer' → GoodState lent'
