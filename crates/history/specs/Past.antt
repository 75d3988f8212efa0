-- What has come in a history, told by the calls' inputs and answers alone, and what by it was taken, written off and is
-- missing: 01 "Sequence and gaps".
use Rattle.std.specs.Prelude.{ℕ, zero, suc, ◌+◌, Bool, false, not, cond, ◌&&◌, ◌||◌, List, [], ◌∷◌, eqb, drop, Ok, Err}
use Rattle.std.proofs.Math.Option.{Option, none, some}
use Rattle.lookup.specs.Lookup.{segment_of}
use Rattle.pairs.specs.Lists.{Lists}
use Rattle.sequence.specs.Runs.{Run, ◌to◌, names}
use Rattle.head.specs.Fields.{length_of}
use Rattle.message.specs.Message.{Message}
use Rattle.message.specs.Reads.{message_of}
use Rattle.state.specs.Answers.{WrittenOff}
use Rattle.state.specs.declared.answers.Judged.{Judged}
use Rattle.state.specs.declared.answers.Judged.TheVariants as judged
use Rattle.batch.specs.Batch.{batch_letter, count_of, batch_data}
use Rattle.slots.specs.Slots.{Slot}
use Rattle.starting.specs.Start.{start_of}
use Rattle.history.specs.Machine.{is_numbered, comes_new, taking, highest_of, missing_by, standing_by}
use Rattle.history.specs.Updates.{segment_in}

-- ---- the past

-- 01 "Sequence and gaps": a message of an accepted batch, with the place of the batch's segment in the list, or the run that a
-- write-off of a segment answered
pub data Event : Type 0 where
  came : ℕ → Message → Event
  off : ℕ → Run → Event

-- 01 "The batch": so many messages, each where the one before it ends, as their bytes say
abbrev pub messages_of : ℕ → Lists → ℕ → List ℕ → List Message
messages_of zero lists letter bytes = []
messages_of (suc more) lists letter bytes = message_of lists letter bytes ∷ messages_of more lists letter (drop (length_of bytes) bytes)

-- 01 "The batch": the messages of a batch, as many as it counts
abbrev pub batch_messages : Lists → List ℕ → List Message
batch_messages lists batch = messages_of (count_of batch) lists (batch_letter batch) (batch_data batch)

-- 01 "Sequence and gaps": "Messages of one batch act in turn": the past, its latest event first, with messages that came in
-- turn
abbrev pub all_came : ℕ → List Message → List Event → List Event
all_came i [] past = past
all_came i (m ∷ ms) past = all_came i ms (came i m ∷ past)

-- 01 "The message": they came in the segment that is listed for the batch's letter; where none is, no batch is accepted
abbrev pub came_in : Option ℕ → List Message → List Event → List Event
came_in none ms past = past
came_in (some i) ms past = all_came i ms past

-- 01 "What may be asked": what taking a batch adds to the past, by its input and its answer: a refused call adds nothing
abbrev pub after_take : Lists → List ℕ → Judged → List Event → List Event
after_take lists batch (judged.Accepted taken old heartbeats compared) past = came_in (segment_of lists.contracts (batch_letter batch)) (batch_messages lists batch) past
after_take lists batch (judged.Refused refusal compared) past = past

-- 01 "Sequence and gaps": a run was written off of the segment that is listed for a letter
abbrev pub off_in : Option ℕ → Run → List Event → List Event
off_in none run past = past
off_in (some i) run past = off i run ∷ past

-- 01 "What may be asked": a write-off adds the run it removed; a refused one nothing
abbrev pub after_write_off : Lists → ℕ → WrittenOff → List Event → List Event
after_write_off lists letter (Ok run) past = off_in (segment_of lists.contracts letter) (run.first to run.last) past
after_write_off lists letter (Err refusal) past = past

-- ---- what was written off, and what was taken

-- 01 "Sequence and gaps": a run that names the number was written off
abbrev pub wrote_off_in : ℕ → List Event → ℕ → Bool
wrote_off_in i [] n = false
wrote_off_in i (came j m ∷ past) n = wrote_off_in i past n
wrote_off_in i (off j r ∷ past) n = eqb j i && names r n || wrote_off_in i past n

-- 01 "Sequence and gaps": the messages of a segment that were taken, the latest first
abbrev pub taken_of : ℕ → ℕ → List Event → List Message
taken_of i start [] = []
taken_of i start (came j m ∷ past) =
    cond (eqb j i) (taking start (wrote_off_in i past) m (taken_of i start past)) (taken_of i start past)
taken_of i start (off j r ∷ past) = taken_of i start past

-- 01 "Sequence and gaps": what becomes of a message that comes after a past: "A number above highest, or missing, is taken. All
-- others are old"
abbrev pub is_taken : ℕ → ℕ → List Event → Message → Bool
is_taken i start past m = comes_new start (taken_of i start past) (wrote_off_in i past) m

-- 01 "Sequence and gaps": old, which are all others that have a number
abbrev pub is_old : ℕ → ℕ → List Event → Message → Bool
is_old i start past m = is_numbered m.what && not (is_taken i start past m)

-- 01 "What may be asked": how many of the messages that come in turn pass a test of the past before them and themselves
abbrev pub how_many : (List Event → Message → Bool) → ℕ → List Message → List Event → ℕ
how_many test i [] past = 0
how_many test i (m ∷ ms) past = cond (test past m) 1 0 + how_many test i ms (came i m ∷ past)

-- ---- highest, and what is missing

-- 01 "Sequence and gaps": the highest of a segment after a past
abbrev pub highest_in : ℕ → ℕ → List Event → ℕ
highest_in i start past = highest_of start (taken_of i start past)

-- 01 "Sequence and gaps": the missing numbers of a segment after a past
abbrev pub missing_in : ℕ → ℕ → List Event → ℕ → Bool
missing_in i start past n = missing_by start (taken_of i start past) (wrote_off_in i past) n

-- 01 "Sequence and gaps": how many runs stand in a segment after a past
abbrev pub runs_standing : ℕ → ℕ → List Event → ℕ
runs_standing i start past = standing_by start (taken_of i start past) (wrote_off_in i past)

-- ---- by slots

-- 01 "Sequence and gaps": the messages taken of a slot's segment
abbrev pub taken_for : List ℕ → Slot → List Event → List Message
taken_for starts own past = taken_of (segment_in own) (start_of starts (segment_in own)) past
