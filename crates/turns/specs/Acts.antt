-- What becomes of a message while a batch is judged, in the terms of what the batch does: the words of the inner contracts.
use Rattle.std.specs.Prelude.{ℕ, suc, ◌+◌, ◌*◌, ◌≤◌, ◌≡◌, Bool, true, false, List, [], ◌∷◌, length, Result, Ok, Err}
use Rattle.std.proofs.Math.Option.{Option, some}
use Rattle.lookup.specs.Lookup.{segment_of}
use Rattle.pairs.specs.Lists.{Lists, Headers}
use Rattle.sequence.specs.RowLaid.{sound_gap_row}
use Rattle.head.specs.Fields.{length_of}
use Rattle.message.specs.Compared.{message_compared, so_far}
use Rattle.message.specs.Reads.{message_of}
use Rattle.taking.specs.declared.Taken.{Taken as NumberTaken}
use Rattle.taking.specs.declared.Taken.TheVariants as number
use Rattle.turns.specs.declared.act.Act.{Act}
use Rattle.turns.specs.declared.act.Act.TheVariants.{Taken, Old, Heartbeat}
use Rattle.turns.specs.declared.act.Counts.{Counts}
use Rattle.turns.specs.declared.act.InTurn.{InTurn}
use Rattle.turns.specs.declared.act.Step.{Step}
use Rattle.state.specs.declared.refusal.Refusal.{Refusal}
use Rattle.state.specs.declared.answers.Judged.{Judged}
use Rattle.state.specs.Answers.{judged_numbers}
use Rattle.state.specs.Refusals.{refusal_numbers}
use Rattle.turns.specs.Compared.{compared_in, reached_by, counted_numbers}
use Rattle.turns.specs.Turns.{Box, Acted, acted, refused, number_acts, message_acts, messages_act, acted_numbers}
use Rattle.slots.specs.Slots.{records_wanted}
use Rattle.slots.specs.declared.records.Fronts.{Fronts}
use Rattle.slots.specs.Places.{FrontsOf}
use Rattle.stores.specs.Stores.{store_cells, made, AllFit, Room, Keeps}

-- 01 "What may be asked": what becomes of a message, as one of those taken, old and heartbeats; or its refusal
abbrev pub act_numbers : Result Act Refusal → List ℕ
act_numbers (Ok Taken) = 0 ∷ 1 ∷ 0 ∷ 0 ∷ []
act_numbers (Ok Old) = 0 ∷ 0 ∷ 1 ∷ 0 ∷ []
act_numbers (Ok Heartbeat) = 0 ∷ 0 ∷ 0 ∷ 1 ∷ []
act_numbers (Err refusal) = refusal_numbers refusal

-- 01 "Sequence and gaps": what becomes of a message whose number was taken, or old
abbrev pub act_of : NumberTaken → Act
act_of number.Taken = Taken
act_of number.Old = Old

-- 01 "What may be asked": how many messages were taken, old and heartbeats, with one message more
abbrev pub counted : Result Act Refusal → Counts → Counts
counted (Ok Taken) counts = record { taken = suc counts.taken; old = counts.old; heartbeats = counts.heartbeats }
counted (Ok Old) counts = record { taken = counts.taken; old = suc counts.old; heartbeats = counts.heartbeats }
counted (Ok Heartbeat) counts = record { taken = counts.taken; old = counts.old; heartbeats = suc counts.heartbeats }
counted (Err refusal) counts = counts

-- 01 "What may be asked": the counts before the first message
abbrev pub none : Counts
none = record { taken = 0; old = 0; heartbeats = 0 }

-- a word of our own: how many messages were counted, of whichever sort
abbrev pub total : Counts → ℕ
total counts = counts.taken + counts.old + counts.heartbeats

-- a word of our own: a box by its parts
abbrev pub box_at : List ℕ → List ℕ → Counts → Box
box_at row records counts =
    record { row = row; records = records; taken = counts.taken; old = counts.old; heartbeats = counts.heartbeats }

-- 01 "Sequence and gaps": only what is taken changes records
abbrev pub changed_by : Result Act Refusal → (List ℕ → List ℕ) → List ℕ → List ℕ
changed_by (Ok Taken) changed records = changed records
changed_by (Ok Old) changed records = records
changed_by (Ok Heartbeat) changed records = records
changed_by (Err refusal) changed records = records

-- 01 "Sequence and gaps": only of an update that is taken a store is kept
abbrev pub is_taken : Result Act Refusal → Bool
is_taken (Ok Taken) = true
is_taken (Ok Old) = false
is_taken (Ok Heartbeat) = false
is_taken (Err refusal) = false

-- a word of our own: a message that is not refused
abbrev pub passed : Result Act Refusal → Bool
passed (Ok _) = true
passed (Err refusal) = false

-- a word of our own: what a message did: the box after it, or its refusal
abbrev pub acted_as : Result Act Refusal → Box → Acted
acted_as (Ok _) box = acted box
acted_as (Err refusal) box = refused refusal

-- a word of our own: a number acts on a row, whatever the records and counts are
pub record NumberActs (row : List ℕ) (i number : ℕ) (act : Result Act Refusal) (row' : List ℕ) : Type 0 where
  pub says : (changed : List ℕ → List ℕ) (records : List ℕ) → act_numbers act ≡ acted_numbers (number_acts (box_at row records none) i number changed)
  pub acts : (changed : List ℕ → List ℕ) (records : List ℕ) (counts : Counts)
      → number_acts (box_at row records counts) i number changed ≡ acted_as act (box_at row' (changed_by act changed records) (counted act counts))
  pub sound : sound_gap_row row' ≡ true

-- a word of our own: where the records of a segment begin, where there is one
abbrev pub InFront : Lists → Option ℕ → Fronts → Type 0
InFront lists segment fronts = (i : ℕ) → segment ≡ some i → FrontsOf lists i fronts

-- a word of our own: the lists, where a letter's records begin, a gap row and scratch memory for stores, of which some are kept
pub record Ready (lists : Lists) (letter : ℕ) (segment : Option ℕ) (fronts : Fronts) (row stores : List ℕ) (kept : ℕ) : Type 0 where
  pub headers : Headers lists
  pub segment_is : segment ≡ segment_of lists.contracts letter
  pub fronts_are : InFront lists (segment_of lists.contracts letter) fronts
  pub sound : sound_gap_row row ≡ true
  pub within : store_cells * kept ≤ length stores

-- a word of our own: message i acts, whatever the records and counts are
pub record MessageActs (lists : Lists) (letter : ℕ) (row stores : List ℕ) (kept i : ℕ) (bytes : List ℕ) (step : Step) (row' stores' : List ℕ) : Type 0 where
  pub says : (records : List ℕ) → act_numbers step.act ≡ acted_numbers (message_acts lists letter (box_at row records none) i bytes)
  pub changes : List ℕ → List ℕ
  pub acts : (records : List ℕ) (counts : Counts)
      → message_acts lists letter (box_at row records counts) i bytes ≡ acted_as step.act (box_at row' (changes records) (counted step.act counts))
  pub sound : sound_gap_row row' ≡ true
  pub length_is : step.length ≡ length_of bytes
  pub inside : passed step.act ≡ true → step.length ≤ length bytes
  pub keeps : Keeps (records_wanted lists) step.length stores kept changes step.kept stores'
  pub steps : step.compared ≡ so_far (message_of lists letter bytes).what (message_compared lists letter bytes)

-- a word of our own: a box that so many messages leave: its row, and its records as the stores make them
pub record Left (lists : Lists) (room : Type 0) (records : List ℕ) (box : Box) (kept : ℕ) (row' stores' : List ℕ) : Type 0 where
  pub row_is : box.row ≡ row'
  pub sound : sound_gap_row row' ≡ true
  pub records_are : room → box.records ≡ made kept stores' records
  pub fit : AllFit (records_wanted lists) kept stores'
  pub within : store_cells * kept ≤ length stores'

-- M-102: so many messages are judged, whatever the records are: what they are answered, and how many keys were compared
pub record JudgedMessages (lists : Lists) (letter : ℕ) (row : List ℕ) (cells : ℕ) (bytes : List ℕ) (count : ℕ) (turn : InTurn) (row' stores' : List ℕ) : Type 0 where
  pub answers : (records : List ℕ)
      → let acts : Acted = messages_act count lists letter 0 (box_at row records none) bytes in
      judged_numbers turn.answer ≡ counted_numbers acts (compared_in (reached_by count acts) lists letter bytes)
  pub leaves : (records : List ℕ) (box : Box) → messages_act count lists letter 0 (box_at row records none) bytes ≡ acted box
      → Left lists (Room cells (length bytes)) records box turn.kept row' stores'

-- a word of our own: what the messages are answered, and how many stores are kept
pub record Turned (answer : Judged) (kept : ℕ) (turn : InTurn) : Type 0 where
  pub says : judged_numbers turn.answer ≡ judged_numbers answer
  pub kept_are : turn.kept ≡ kept
