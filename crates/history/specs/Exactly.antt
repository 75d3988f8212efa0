-- What the demands say of the answers after a history, in the words of its past.
use Rattle.std.specs.Prelude.{ℕ, zero, suc, ◌*◌, ◌≤◌, ◌<◌, ◌≡◌, true, false, ◌⊎◌, ◌↔◌, length, drop}
use mathlib.Core.List.{List, ◌∷◌, Memᴰ}
use Rattle.std.proofs.Math.Option.{Option, none, some}
use Rattle.files.specs.File.{segments_of}
use Rattle.lookup.specs.Lookup.{segment_of}
use Rattle.pairs.specs.Lists.{Lists}
use Rattle.sequence.specs.Gaps.{most}
use Rattle.quote.specs.Shows.{field_named}
use Rattle.forms.specs.declared.forms.Named.TheVariants as is
use Rattle.forms.specs.declared.forms.Subject.TheVariants.{Of}
use Rattle.forms.specs.Forms.{named_rows, rows_of, subject_of, session_of}
use Rattle.forms.specs.Rows.{message_length}
use Rattle.head.specs.Fields.{length_of, number_of, form_in, data_of as data_in}
use Rattle.message.specs.Good.{GoodMessage}
use Rattle.message.specs.Message.{Message, message_key as bytes_key}
use Rattle.message.specs.Reads.{message_of}
use Rattle.state.specs.declared.answers.Judged.{Judged}
use Rattle.state.specs.declared.answers.Recorded.{Recorded}
use Rattle.turns.specs.Compared.{compared_in, compared_of, reached_in}
use Rattle.slots.specs.Slots.{Slot}
use Rattle.batch.specs.Batch.{batch_letter, count_of, batch_data}
use Rattle.batch.specs.Good.{GoodFront}
use Rattle.starting.specs.Start.{start_of}
use Rattle.history.specs.Past.{Event, came, wrote_off_in, taken_of, batch_messages, highest_in, missing_in, runs_standing, is_taken, is_old, how_many}
use Rattle.reading.specs.Shown.{QuoteFor, shown, blank_for, ShowsEach}
use Rattle.history.specs.Updates.{item_in, level_in, key_in, is_of}
use Rattle.history.specs.Machine.{is_heartbeat, sequence_number, form_sent, NamesExactly, TooMany}

-- demand 3: "the gap list names exactly the missing numbers" of segment i
abbrev pub NamesMissing : ℕ → ℕ → List Event → ℕ → ℕ → List ℕ → Type 0
NamesMissing i start past highest runs cells = NamesExactly start (highest_in i start past) (missing_in i start past) highest runs cells

-- demand 3: the highest-numbered update of a slot's contract or pair and level among the messages taken of its segment
pub record IsNewest (slot : Slot) (taken : List Message) (m : Message) : Type 0 where
  pub was_taken : Memᴰ m taken
  pub of_slot : is_of slot m.what ≡ true
  pub highest : (k : Message) → Memᴰ k taken → is_of slot k.what ≡ true → sequence_number k ≤ sequence_number m

-- 01 "What may be asked": a contract or a pair with no update taken, of that level
abbrev pub NoUpdate : Slot → List Message → Type 0
NoUpdate own taken = (m : Message) → Memᴰ m taken → is_of own m.what ≡ false

-- demand 3: what the highest-numbered update of a slot among the messages taken is, or that there is none
abbrev pub FoundNewest : Slot → List Message → Option Message → Type 0
FoundNewest own taken none = NoUpdate own taken
FoundNewest own taken (some m) = IsNewest own taken m

-- demand 3: "each record is its contract's highest-numbered update taken": its number, (M-104) its session, and its rows as they stand in
-- its message
pub data ReadsNewest (slot : Slot) (taken : List Message) (answer : Recorded) (quote : QuoteFor (item_in slot)) : Type 0 where
  no_record : NoUpdate slot taken → answer ≡ Recorded.NoRecord → quote ≡ blank_for (item_in slot) → ReadsNewest slot taken answer quote
  a_record : (m : Message) → IsNewest slot taken m → answer ≡ Recorded.Record (sequence_number m) (session_of (form_sent m)) → quote ≡ shown (item_in slot) (form_sent m) m.cells
      → ReadsNewest slot taken answer quote

-- demands 2 and 3: what an update of a slot is by its message's bytes: its number, the key of its contract or pair, its form by its code and its
-- length, which tells of the slot's contract or pair and level, and its quote, which shows every field from the field of its name
pub record UpdateSays (lists : Lists) (bytes : List ℕ) (m : Message) (slot : Slot) : Type 0 where
  pub number_is : number_of bytes ≡ sequence_number m
  pub key_is : bytes_key (item_in slot) bytes ≡ key_in lists slot
  pub form_is : form_in bytes ≡ is.Form (form_sent m)
  pub level_is : length_of bytes ≡ message_length (rows_of (form_sent m))
  pub tells : subject_of (form_sent m) ≡ Of (item_in slot) (level_in slot)
  pub shows : ShowsEach (item_in slot) (field_named (named_rows (form_sent m)) (data_in bytes)) (shown (item_in slot) (form_sent m) m.cells)

-- 01 "What the proof settles" (counts defined from the history): the counts of an accepted batch are those of its messages,
-- each by what became of it when it came
pub record CountsCame (lists : Lists) (starts : List ℕ) (past : List Event) (batch : List ℕ) (taken old heartbeats : ℕ) : Type 0 where
  pub segment : ℕ
  pub listed : segment_of lists.contracts (batch_letter batch) ≡ some segment
  pub taken_are : taken ≡ how_many (is_taken segment (start_of starts segment)) segment (batch_messages lists batch) past
  pub old_are : old ≡ how_many (is_old segment (start_of starts segment)) segment (batch_messages lists batch) past
  pub heartbeats_are : heartbeats ≡ how_many (λ before m. is_heartbeat m.what) segment (batch_messages lists batch) past

-- M-102: the keys compared for a batch that was judged: they follow from its bytes and the lists alone, on a refusal from these and its
-- place; at most 13 for each 204 bytes
pub record CountsKeys (lists : Lists) (batch : List ℕ) (answer : Judged) : Type 0 where
  pub follows : compared_of answer ≡ compared_in (reached_in (count_of batch) answer) lists (batch_letter batch) (batch_data batch)
  pub few : 204 * compared_of answer ≤ 13 * length (batch_data batch)

-- 01 "Sequence and gaps": the past when the message that bytes begin with has come, of a letter and its segment i
abbrev pub came_next : Lists → ℕ → ℕ → List ℕ → List Event → List Event
came_next lists letter i bytes past = came i (message_of lists letter bytes) ∷ past

-- demand 3: of so many messages of segment s from message k on, message i is the one at which over 64 runs would stand, counted
-- from the set of missing numbers, and no rule refuses before: it and every message before it is good, 5 to 13
abbrev pub OverAt : ℕ → Lists → ℕ → ℕ → ℕ → List Event → ℕ → List ℕ → ℕ → Type 0
OverAt zero lists letter s start past k bytes i = ⊥
OverAt (suc more) lists letter s start past k bytes i =
    GoodMessage lists letter bytes
    × (((i ≡ k) × TooMany (runs_standing s start (came_next lists letter s bytes past)))
    ⊎ ((runs_standing s start (came_next lists letter s bytes past) ≤ most)
    × OverAt more lists letter s start (came_next lists letter s bytes past) (suc k) (drop (length_of bytes) bytes) i))

-- demand 3: a batch is refused for gaps at message i, no earlier rule refusing it
pub record OverInBatch (lists : Lists) (starts : List ℕ) (past : List Event) (batch : List ℕ) (i : ℕ) : Type 0 where
  -- 1 to 4 before the messages
  pub front : GoodFront batch
  pub segment : ℕ
  pub listed : segment_of lists.contracts (batch_letter batch) ≡ some segment
  pub over : OverAt (count_of batch) lists (batch_letter batch) segment (start_of starts segment) past 0 (batch_data batch) i

-- 01 "Sequence and gaps": nothing was written off
abbrev pub NoneWrittenOff : List Event → Type 0
NoneWrittenOff past = (i n : ℕ) → wrote_off_in i past n ≡ false

-- demand 3: two boxes of one contract list, one spread list and the same start numbers "that took the same messages", in whatever order and
-- however cut into batches, with nothing written off
pub record SameTaken (lists : Lists) (starts : List ℕ) (past : List Event) (lists' : Lists) (starts' : List ℕ) (past' : List Event) : Type 0 where
  pub same_lists : lists ≡ lists'
  pub same_starts : (i : ℕ) → i < segments_of lists.contracts → start_of starts i ≡ start_of starts' i
  pub same_messages : (i : ℕ) → i < segments_of lists.contracts → (m : Message)
      → Memᴰ m (taken_of i (start_of starts i) past) ↔ Memᴰ m (taken_of i (start_of starts' i) past')
  pub none_off : NoneWrittenOff past
  pub none_off' : NoneWrittenOff past'
