-- Records beside what the past says.
use Rattle.std.specs.Prelude.{ℕ, ◌<◌, ◌≡◌, cond, List, [], ◌∷◌, get_or, take, drop}
use Rattle.std.proofs.Math.Option.{Option, none, some}
use Rattle.pairs.specs.Lists.{Lists}
use Rattle.forms.specs.declared.forms.Subject.TheVariants.{Of}
use Rattle.forms.specs.Forms.{subject_of}
use Rattle.message.specs.Message.{Message}
use Rattle.slots.specs.Slots.{Slot, SlotListed}
use Rattle.slots.specs.Places.{slot_at, slot_cells, record_of}
use Rattle.history.specs.Past.{Event, taken_for}
use Rattle.reading.specs.Record.{stamp_shown}
use Rattle.reading.specs.Shown.{QuoteFor, cells_for, stamp_in}
use Rattle.history.specs.Updates.{item_in, level_in, letter_in, is_of}
use Rattle.history.specs.Machine.{higher, sequence_number, form_sent}

-- demand 3: the highest-numbered update of a slot's contract or pair and level among messages of its segment, if there is one
abbrev pub newest : Slot → List Message → Option Message
newest own [] = none
newest own (m ∷ ms) = cond (is_of own m.what) (higher m (newest own ms)) (newest own ms)

-- 01 "What may be asked": an update that a slot can hold: it tells of what the slot is for and has a number; its cells are those of a quote, and
-- (M-104) it has a time stamp where one is shown
pub record FitsSlot (lists : Lists) (slot : Slot) (m : Message) : Type 0 where
  pub some_number : 0 < sequence_number m
  pub about : subject_of (form_sent m) ≡ Of (item_in slot) (level_in slot)
  pub stamped : stamp_in (item_in slot) (form_sent m) ≡ stamp_shown (item_in slot) (letter_in lists slot)
  pub quote : QuoteFor (item_in slot)
  pub of_quote : m.cells ≡ cells_for (item_in slot) (form_sent m) quote

-- 01 "What may be asked": a record that holds an update: its number, then its other cells
pub record HoldsUpdate (lists : Lists) (records : List ℕ) (slot : Slot) (m : Message) : Type 0 where
  pub cells_kept_lem : take (slot_cells slot) (drop (slot_at lists slot) records) ≡ sequence_number m ∷ record_of (item_in slot) (form_sent m) m.cells
  pub fits : FitsSlot lists slot m

-- 01 "What may be asked": "A contract with no update taken reads as 'no record'": its number is 0
abbrev pub RecordHolds : Lists → List ℕ → Slot → Option Message → Type 0
RecordHolds lists records own none = get_or records (slot_at lists own) 0 ≡ 0
RecordHolds lists records own (some m) = HoldsUpdate lists records own m

-- demand 3: each listed slot's record holds its highest-numbered update taken
abbrev pub RecordsFit : Lists → List ℕ → List ℕ → List Event → Type 0
RecordsFit lists starts records past =
    (slot : Slot) → SlotListed lists slot → RecordHolds lists records slot (newest slot (taken_for starts slot past))
