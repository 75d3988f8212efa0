-- The box as an abstract machine: its state as sets and maps, what each call answers in terms of it, and the state that it leaves.
-- The demands read from this page. `RefinesLaws` proves that the calls refine it, after every history.
use Rattle.std.specs.Prelude.{ℕ, zero, suc, ◌+◌, ◌-◌, ◌*◌, ◌≤◌, ◌<◌, max, ◌≡◌, Bool, true, false, not, cond, ◌&&◌, ◌||◌, List, [], ◌∷◌, ◌⊎◌, leb, ltb, eqb, length, take, drop, Ok, Err, Result}
use Rattle.std.proofs.Math.Option.{Option, none, some}
use Rattle.laws.specs.Rules.{Broken}
use Rattle.lookup.specs.Lookup.{segment_of}
use Rattle.pairs.specs.Lists.{Lists}
use Rattle.sequence.specs.Apart.{Apart}
use Rattle.sequence.specs.Gaps.{most}
use Rattle.sequence.specs.Row.{pairs}
use Rattle.sequence.specs.Runs.{Run, ◌to◌, run, names, missing, runs_in}
use Rattle.forms.specs.declared.rows.Level.{Level}
use Rattle.forms.specs.declared.forms.Item.{Item}
use Rattle.forms.specs.declared.forms.Form.{Form}
use Rattle.forms.specs.declared.forms.Form.TheVariants as form
use Rattle.forms.specs.Forms.{session_of}
use Rattle.message.specs.declared.body.What.{What}
use Rattle.message.specs.declared.body.What.TheVariants.{Heartbeat, PassedOver, Update}
use Rattle.head.specs.declared.head.Fault.{Fault}
use Rattle.head.specs.Fields.{length_of}
use Rattle.message.specs.Good.{GoodMessage, KeyListed}
use Rattle.head.specs.GoodHead.{LetterListed}
use Rattle.message.specs.Message.{Message}
use Rattle.message.specs.Reads.{message_of}
use Rattle.message.specs.Numbers.{number_in}
use Rattle.message.specs.Order.{message_rules}
use Rattle.state.specs.Answers.{Listed, WrittenOff, run_told, runs_told}
use Rattle.state.specs.declared.refusal.Refusal.{Refusal}
use Rattle.state.specs.declared.refusal.Refusal.TheVariants as refusal
use Rattle.state.specs.declared.answers.Judged.{Judged}
use Rattle.state.specs.declared.answers.Recorded.{Recorded}
use Rattle.state.specs.Refusals.{of_fault}
use Rattle.slots.specs.Slots.{Slot, SlotListed}
use Rattle.turns.specs.Compared.{compared_in, reached}
use Rattle.batch.specs.Batch.{batch_letter, count_of, batch_data, batch_rules}
use Rattle.batch.specs.Good.{GoodFront}
use Rattle.writer.specs.WriterPromises.{WroteMessage, WroteSpread}
use Rattle.starting.specs.StartPromises.{PutNoSpreads}
use Rattle.starting.specs.Start.{start_of, start_rules, GoodStart}
use Rattle.history.specs.Calls as calls
use Rattle.history.specs.Calls.{Call, Answer}
use Rattle.reading.specs.Shown.{QuoteFor, shown, blank_for}
use Rattle.history.specs.Updates.{segment_in, item_in, level_in, letter_in, key_in, is_of}

-- ---- words: what is taken, what is missing

-- 01 "Sequence and gaps": "A heartbeat has number 0 and changes nothing; other messages have 1 or more"
abbrev pub is_numbered : Result What Fault → Bool
is_numbered (Ok Heartbeat) = false
is_numbered (Ok (PassedOver number)) = true
is_numbered (Ok (Update number form place)) = true
is_numbered (Err fault) = false

-- 01 "Sequence and gaps": a heartbeat changes nothing
abbrev pub is_heartbeat : Result What Fault → Bool
is_heartbeat (Ok Heartbeat) = true
is_heartbeat (Ok (PassedOver number)) = false
is_heartbeat (Ok (Update number form place)) = false
is_heartbeat (Err fault) = false

-- 01 "The message": its sequence number
abbrev pub sequence_number : Message → ℕ
sequence_number m = number_in m.what

-- 01 "The message": the form of an update, by its code and its length
abbrev pub what_form : Result What Fault → Form
what_form (Ok Heartbeat) = form.Heartbeat
what_form (Ok (PassedOver number)) = form.Heartbeat
what_form (Ok (Update number own place)) = own
what_form (Err fault) = form.Heartbeat

-- 01 "The message": the form that a message was sent in
abbrev pub form_sent : Message → Form
form_sent m = what_form m.what

-- 01 "Sequence and gaps": one of the messages has the number
abbrev pub held : List Message → ℕ → Bool
held [] n = false
held (m ∷ ms) n = eqb (sequence_number m) n || held ms n

-- 01 "Sequence and gaps": a number is taken where it is not below the start, was not taken before and was not written off
-- before
abbrev pub is_new : ℕ → List Message → (ℕ → Bool) → ℕ → Bool
is_new start taken written_off n = leb start n && not (held taken n) && not (written_off n)

-- 01 "Sequence and gaps": a message that comes is taken: heartbeats never are
abbrev pub comes_new : ℕ → List Message → (ℕ → Bool) → Message → Bool
comes_new start taken written_off m = is_numbered m.what && is_new start taken written_off (sequence_number m)

-- 01 "Sequence and gaps": the messages taken when one more has come
abbrev pub taking : ℕ → (ℕ → Bool) → Message → List Message → List Message
taking start written_off m taken = cond (comes_new start taken written_off m) (m ∷ taken) taken

-- 01 "Sequence and gaps": of two updates the one with the greater number
abbrev pub higher : Message → Option Message → Option Message
higher m none = some m
higher m (some k) = cond (ltb (sequence_number k) (sequence_number m)) (some m) (some k)

-- 01 "Sequence and gaps": "highest begins one below it"; then it is the highest number taken
abbrev pub highest_of : ℕ → List Message → ℕ
highest_of start [] = start - 1
highest_of start (m ∷ ms) = max (sequence_number m) (highest_of start ms)

-- 01 "Sequence and gaps": the missing numbers: from the start number to the highest taken, neither taken nor written off
abbrev pub missing_by : ℕ → List Message → (ℕ → Bool) → ℕ → Bool
missing_by start taken written_off n = leb start n && leb n (highest_of start taken) && not (held taken n) && not (written_off n)

-- 01 "Sequence and gaps": how many runs the missing numbers make
abbrev pub standing_by : ℕ → List Message → (ℕ → Bool) → ℕ
standing_by start taken written_off = runs_in (missing_by start taken written_off) (suc (highest_of start taken))

-- 01, the table's row 14: "more than 64 runs would stand"
abbrev pub TooMany : ℕ → Type 0
TooMany runs = most < runs

-- 01 "What may be asked": the runs that a listing put in lent cells: two cells for each that it answers
abbrev pub runs_there : ℕ → List ℕ → List Run
runs_there runs cells = pairs (take (2 * runs) cells)

-- demand 3: "the gap list names exactly the missing numbers": highest, and runs that name a set of numbers
pub record NamesExactly (start top : ℕ) (set : ℕ → Bool) (highest runs : ℕ) (cells : List ℕ) : Type 0 where
  pub highest_taken : highest ≡ top
  pub as_many : length (runs_there runs cells) ≡ runs
  -- they ascend with no two touching, each first not above its last, from the start number to the highest taken
  pub ascending : Apart highest start (runs_there runs cells)
  -- no number is named twice
  pub each_once : (n k j : ℕ) → k < runs → j < runs → names (run (runs_there runs cells) k) n ≡ true → names (run (runs_there runs cells) j) n ≡ true → k ≡ j
  pub exactly : (n : ℕ) → missing (runs_there runs cells) n ≡ set n

-- 01 "Sequence and gaps", "A write-off removes the lowest run": a run that is the lowest of a set of numbers: all of its numbers are in the
-- set, none below it is, and the next above it is not
pub record LowestRun (held : ℕ → Bool) (first last : ℕ) : Type 0 where
  pub ascending : first ≤ last
  pub all_held : (n : ℕ) → first ≤ n → n ≤ last → held n ≡ true
  pub none_below : (n : ℕ) → n < first → held n ≡ false
  pub ends : held (suc last) ≡ false

-- ---- the state

-- 01 "Sequence and gaps", "What may be asked": the lists in use; of each segment its start number, the messages taken and the numbers
-- written off; of each slot its highest-numbered update taken, if there is one
pub record Machine : Type 0 where
  pub lists : Lists
  pub start : ℕ → ℕ
  pub taken : ℕ → List Message
  pub off : ℕ → ℕ → Bool
  pub newest : Slot → Option Message

-- 01 "Sequence and gaps": at a start nothing was taken, nothing written off, and there is no record
abbrev pub begun : Lists → List ℕ → Machine
begun lists starts = record { lists = lists; start = start_of starts; taken = λ i. []; off = λ i n. false; newest = λ slot. none }

-- 01 "Sequence and gaps": the highest of a segment
abbrev pub highest : Machine → ℕ → ℕ
highest m i = highest_of (m.start i) (m.taken i)

-- 01 "Sequence and gaps": the missing numbers of a segment
abbrev pub is_missing : Machine → ℕ → ℕ → Bool
is_missing m i = missing_by (m.start i) (m.taken i) (m.off i)

-- 01 "Sequence and gaps": how many runs stand in a segment
abbrev pub standing : Machine → ℕ → ℕ
standing m i = standing_by (m.start i) (m.taken i) (m.off i)

-- 01 "Sequence and gaps": a message is taken in a segment
abbrev pub takes_in : Machine → ℕ → Message → Bool
takes_in m i message = comes_new (m.start i) (m.taken i) (m.off i) message

-- 01 "Sequence and gaps": a message comes in segment i. Where it is taken it is one of the messages taken, and an update "replaces its
-- contract's record at its level only if its number is greater than the record's"; else nothing changes
abbrev pub arrives : ℕ → Message → Machine → Machine
arrives i message m =
    record {
      lists = m.lists;
      start = m.start;
      taken = λ j. cond (eqb i j) (taking (m.start j) (m.off j) message (m.taken j)) (m.taken j);
      off = m.off;
      newest = λ slot.
          cond (eqb i (segment_in slot) && takes_in m (segment_in slot) message && is_of slot message.what) (higher message (m.newest slot)) (m.newest slot);
    }

-- 01 "Sequence and gaps": a run is written off of segment i
abbrev pub written_off : ℕ → Run → Machine → Machine
written_off i r m =
    record { lists = m.lists; start = m.start; taken = m.taken; off = λ j n. eqb i j && names r n || m.off j n; newest = m.newest }

-- ---- judging and taking a batch

-- 01 "The message": the segment of a letter, where it is listed
abbrev pub in_segment : {A : Type 0} → Option ℕ → A → (ℕ → A) → A
in_segment none other of = other
in_segment (some i) other of = of i

-- 01 "Sequence and gaps": the machine when the message that bytes begin with has come
abbrev pub comes_to : ℕ → List ℕ → Machine → Machine
comes_to letter bytes m = in_segment (segment_of m.lists.contracts letter) m (λ i. arrives i (message_of m.lists letter bytes) m)

-- 01 "Sequence and gaps": how many runs stand in the segment of a letter
abbrev pub standing_for : ℕ → Machine → ℕ
standing_for letter m = in_segment (segment_of m.lists.contracts letter) 0 (standing m)

-- 01 "Sequence and gaps": "Messages of one batch act in turn": the machine when so many messages have come
abbrev pub all_come : ℕ → ℕ → List ℕ → Machine → Machine
all_come zero letter bytes m = m
all_come (suc more) letter bytes m = all_come more letter (drop (length_of bytes) bytes) (comes_to letter bytes m)

-- demand 2, and 01's order of checks: each message in turn is good, 5 to 13, and leaves at most 64 runs (14); no bytes stand behind
-- the last (4)
abbrev pub AllGood : ℕ → ℕ → List ℕ → Machine → Type 0
AllGood zero letter bytes m = length bytes ≡ 0
AllGood (suc more) letter bytes m =
    GoodMessage m.lists letter bytes × (standing_for letter (comes_to letter bytes m) ≤ most)
    × AllGood more letter (drop (length_of bytes) bytes) (comes_to letter bytes m)

-- 01, the order of checks: the first that is not is message k, with its first fault of 5 to 13, or with 14; or bytes stand behind the
-- last (4)
abbrev pub FirstRefused : ℕ → ℕ → ℕ → List ℕ → Machine → Refusal → Type 0
FirstRefused zero letter k bytes m r = (0 < length bytes) × (r ≡ refusal.Count)
FirstRefused (suc more) letter k bytes m r =
    ((fault : Fault) × Broken (message_rules m.lists letter bytes) fault × (r ≡ of_fault fault k))
    ⊎ (GoodMessage m.lists letter bytes
    × ((TooMany (standing_for letter (comes_to letter bytes m)) × (r ≡ refusal.Gaps k))
    ⊎ ((standing_for letter (comes_to letter bytes m) ≤ most) × FirstRefused more letter (suc k) (drop (length_of bytes) bytes) (comes_to letter bytes m) r)))

-- 01 "What may be asked": how many of the messages that come in turn pass a test of the machine before them
abbrev pub counted : (Machine → Message → Bool) → ℕ → ℕ → List ℕ → Machine → ℕ
counted test zero letter bytes m = 0
counted test (suc more) letter bytes m =
    cond (test m (message_of m.lists letter bytes)) 1 0 + counted test more letter (drop (length_of bytes) bytes) (comes_to letter bytes m)

-- 01 "Sequence and gaps": "A number above highest, or missing, is taken"
abbrev pub is_taken_for : ℕ → Machine → Message → Bool
is_taken_for letter m message = in_segment (segment_of m.lists.contracts letter) false (λ i. takes_in m i message)

-- 01 "Sequence and gaps": "All others are old"
abbrev pub is_old_for : ℕ → Machine → Message → Bool
is_old_for letter m message = is_numbered message.what && not (is_taken_for letter m message)

-- demand 2: a batch is good: 1 to 4 before the messages, then all of them
pub record GoodNow (m : Machine) (batch : List ℕ) : Type 0 where
  pub front : GoodFront batch
  pub messages : AllGood (count_of batch) (batch_letter batch) (batch_data batch) m

-- 01 "What may be asked": "An accepted batch answers how many messages were taken, old and heartbeats"
pub record Accepts (m : Machine) (batch : List ℕ) (taken old heartbeats : ℕ) : Type 0 where
  pub good : GoodNow m batch
  pub taken_are : taken ≡ counted (is_taken_for (batch_letter batch)) (count_of batch) (batch_letter batch) (batch_data batch) m
  pub old_are : old ≡ counted (is_old_for (batch_letter batch)) (count_of batch) (batch_letter batch) (batch_data batch) m
  pub heartbeats_are : heartbeats ≡ counted (λ before message. is_heartbeat message.what) (count_of batch) (batch_letter batch) (batch_data batch) m

-- 01, the order of checks: refused by the first broken rule, before the messages or among them
pub data Refuses (m : Machine) (batch : List ℕ) (r : Refusal) : Type 0 where
  in_front : Broken (batch_rules batch) r → Refuses m batch r
  in_turn_lem : GoodFront batch → FirstRefused (count_of batch) (batch_letter batch) 0 (batch_data batch) m r → Refuses m batch r

-- M-102: "Judging and taking add up the counts of a batch's lookups": of so many of its messages, by the lists in use
abbrev pub compared_for : Machine → List ℕ → ℕ → ℕ
compared_for m batch messages = compared_in messages m.lists (batch_letter batch) (batch_data batch)

-- 01 "What may be asked": what judging a batch answers; M-102: and how many keys were compared, "on a refusal, those done so far"
abbrev pub Judges : Machine → List ℕ → Judged → Type 0
Judges m batch (Judged.Accepted taken old heartbeats compared) = Accepts m batch taken old heartbeats × (compared ≡ compared_for m batch (count_of batch))
Judges m batch (Judged.Refused r compared) = Refuses m batch r × (compared ≡ compared_for m batch (reached (count_of batch) r))

-- 01 "What may be asked": a batch is accepted
abbrev pub IsAccepted : Judged → Type 0
IsAccepted (Judged.Accepted taken old heartbeats compared) = Unit {0}
IsAccepted (Judged.Refused r compared) = ⊥

-- demand 1: what a batch that is taken leaves: all of its messages have come, or nothing has changed
abbrev pub took_batch : Machine → List ℕ → Judged → Machine
took_batch m batch (Judged.Accepted taken old heartbeats compared) = all_come (count_of batch) (batch_letter batch) (batch_data batch) m
took_batch m batch (Judged.Refused r compared) = m

-- ---- the other calls

-- 01 "What may be asked": "List gaps answers highest and the number of runs, and puts the runs in lent cells"; 6, then 15
pub data ListsGaps (m : Machine) (letter : ℕ) (cells : List ℕ) : Listed → List ℕ → Type 0 where
  no_letter : (LetterListed m.lists.contracts letter → ⊥) → ListsGaps m letter cells (Err (refusal.Code 0)) cells
  too_few : (i : ℕ) → segment_of m.lists.contracts letter ≡ some i → length cells < 2 * standing m i
      → ListsGaps m letter cells (Err (refusal.Memory (2 * standing m i))) cells
  all_runs : (i : ℕ) → segment_of m.lists.contracts letter ≡ some i → (top runs : ℕ) (cells' : List ℕ) → 2 * runs ≤ length cells
      → NamesExactly (m.start i) (highest m i) (is_missing m i) top runs cells' → drop (2 * runs) cells' ≡ drop (2 * runs) cells
      → ListsGaps m letter cells (runs_told top runs) cells'

-- 01 "What may be asked": "a write-off answers the run it removed", the lowest; 6, then 17
pub data WritesOff (m : Machine) (letter : ℕ) : WrittenOff → Machine → Type 0 where
  no_letter : (LetterListed m.lists.contracts letter → ⊥) → WritesOff m letter (Err (refusal.Code 0)) m
  no_gap : (i : ℕ) → segment_of m.lists.contracts letter ≡ some i → ((n : ℕ) → is_missing m i n ≡ false) → WritesOff m letter (Err refusal.NoGap) m
  the_lowest : (i : ℕ) → segment_of m.lists.contracts letter ≡ some i → (first last : ℕ) → LowestRun (is_missing m i) first last
      → WritesOff m letter (run_told first last) (written_off i (first to last) m)

-- 01 "What may be asked", M-100: the slot that is asked for, a contract's or a pair's, by a letter, a key and a level
pub record AsksFor (lists : Lists) (item : Item) (letter : ℕ) (key : List ℕ) (level : Level) (slot : Slot) : Type 0 where
  pub listed : SlotListed lists slot
  pub of_item : item_in slot ≡ item
  pub of_letter : letter_in lists slot ≡ letter
  pub of_key : key_in lists slot ≡ key
  pub of_level : level_in slot ≡ level

-- 01 "What may be asked": what is answered of a slot: "A record holds its update's number and rows"; M-104: and which session wrote it
abbrev pub answer_for : Option Message → Recorded
answer_for none = Recorded.NoRecord
answer_for (some message) = Recorded.Record (sequence_number message) (session_of (form_sent message))

-- 01 "What may be asked": and the quote beside that answer
abbrev pub quote_beside_it : (item : Item) → Option Message → QuoteFor item
quote_beside_it item none = blank_for item
quote_beside_it item (some message) = shown item (form_sent message) message.cells

-- 01 "What may be asked": a record is the newest update of its slot; 6, then 13
pub data Reads (m : Machine) (item : Item) (letter : ℕ) (key : List ℕ) (level : Level) : Recorded → QuoteFor item → Type 0 where
  no_letter : (LetterListed m.lists.contracts letter → ⊥) → Reads m item letter key level (Recorded.Refused (refusal.Code 0)) (blank_for item)
  no_key : LetterListed m.lists.contracts letter → (KeyListed item m.lists letter key → ⊥)
      → Reads m item letter key level (Recorded.Refused (refusal.Contract 0)) (blank_for item)
  the_newest : (slot : Slot) → AsksFor m.lists item letter key level slot
      → Reads m item letter key level (answer_for (m.newest slot)) (quote_beside_it item (m.newest slot))

-- 01 "Sequence and gaps": a start begins anew, with so many cells lent; a refused one changes nothing
pub data Starts (rows records : ℕ) (m : Machine) (lists : Lists) (starts : List ℕ) : Result (Unit {0}) Refusal → Machine → Type 0 where
  anew : GoodStart lists starts rows records → Starts rows records m lists starts (Ok tt) (begun lists starts)
  not_started : (r : Refusal) → Broken (start_rules lists starts rows records) r → Starts rows records m lists starts (Err r) m

-- ---- the machine

-- 01 "What may be asked": a call, lent so many cells for gap rows and records, its answer, and the machine that it leaves
pub data Answers (rows records : ℕ) (m : Machine) : Call → Answer → Machine → Type 0 where
  starts : {lists : Lists} {numbers : List ℕ} {a : Result (Unit {0}) Refusal} {m' : Machine} → Starts rows records m lists numbers a m'
      → Answers rows records m (calls.start lists numbers) (calls.started a) m'
  judges : {batch : List ℕ} {a : Judged} → Judges m batch a → Answers rows records m (calls.judge batch) (calls.judged a) m
  takes : {batch : List ℕ} {a : Judged} → Judges m batch a → Answers rows records m (calls.take batch) (calls.took a) (took_batch m batch a)
  lists_gaps : {letter : ℕ} {cells cells' : List ℕ} {a : Listed} → ListsGaps m letter cells a cells'
      → Answers rows records m (calls.list_gaps letter cells) (calls.listed a cells') m
  writes_off : {letter : ℕ} {a : WrittenOff} {m' : Machine} → WritesOff m letter a m' → Answers rows records m (calls.write_off letter) (calls.wrote_off a) m'
  reads : {item : Item} {letter : ℕ} {key : List ℕ} {level : Level} {a : Recorded} {quote : QuoteFor item} → Reads m item letter key level a quote
      → Answers rows records m (calls.read_record item letter key level) (calls.read item a quote) m
  writes : {code : _} {level : Level} {number : ℕ} {key out out' : List ℕ} {quote : _} {a : _} → WroteMessage code level number key quote out a out'
      → Answers rows records m (calls.write_message code level number key quote out) (calls.wrote a out') m
  writes_spread : {code : _} {level : Level} {number : ℕ} {key out out' : List ℕ} {quote : _} {a : _} → WroteSpread code level number key quote out a out'
      → Answers rows records m (calls.write_spread code level number key quote out) (calls.wrote a out') m
  no_spreads_lem : {list out out' : List ℕ} {a : _} → PutNoSpreads list out a out' → Answers rows records m (calls.no_spreads list out) (calls.wrote a out') m
