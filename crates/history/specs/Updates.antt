-- Updates by their slots: 01 "Sequence and gaps", "What may be asked".
use Rattle.std.specs.Prelude.{ℕ, Bool, false, ◌&&◌, List, eqb, Ok, Err, Result}
use Rattle.std.proofs.Math.Option.{Option, none, some}
use Rattle.forms.specs.declared.rows.Level.{Level}
use Rattle.forms.specs.declared.forms.Item.{Item}
use Rattle.forms.specs.Forms.{same_level, same_item, subject_of}
use Rattle.files.specs.File.{letter_at, key_by}
use Rattle.pairs.specs.Lists.{Lists}
use Rattle.message.specs.declared.body.What.{What}
use Rattle.message.specs.declared.body.What.TheVariants.{Heartbeat, PassedOver, Update}
use Rattle.head.specs.declared.head.Fault.{Fault}
use Rattle.pairs.specs.Items.{file_of, habit_of}
use Rattle.slots.specs.Slots.{Slot, slot as record_slot, slot_for}

-- 01 "What may be asked": one record's slot
abbrev pub same_slot : Slot → Slot → Bool
same_slot (record_slot item i place level) (record_slot other j p l) = eqb i j && eqb place p && same_level level l && same_item item other

-- 01 "Sequence and gaps": an update of segment i replaces "its contract's record at its level": that one's slot, M-100: or its pair's
abbrev pub slot_of : ℕ → Result What Fault → Option Slot
slot_of i (Ok Heartbeat) = none
slot_of i (Ok (PassedOver number)) = none
slot_of i (Ok (Update number form place)) = slot_for (subject_of form) i place
slot_of i (Err fault) = none

-- lent memory: the segment of a slot
abbrev pub segment_in : Slot → ℕ
segment_in (record_slot item i place level) = i

-- lent memory: the level of the updates that a slot holds
abbrev pub level_in : Slot → Level
level_in (record_slot item i place level) = level

-- lent memory, M-100: whether a slot's record is a contract's or a pair's
abbrev pub item_in : Slot → Item
item_in (record_slot item i place level) = item

-- 01 "What may be asked": the letter that a slot's record is asked for by
abbrev pub letter_in : Lists → Slot → ℕ
letter_in lists own = letter_at lists.contracts (segment_in own)

-- 01 "What may be asked": the key that a slot's record is asked for by
abbrev pub key_in : Lists → Slot → List ℕ
key_in lists (record_slot item i place level) = key_by (habit_of item) (file_of item lists) i place

-- 01 "Sequence and gaps": the slot, where there is one, is this one
abbrev pub is_slot : Slot → Option Slot → Bool
is_slot own none = false
is_slot own (some other) = same_slot other own

-- 01 "Sequence and gaps": an update of the slot's contract or pair and level, among messages of the slot's segment
abbrev pub is_of : Slot → Result What Fault → Bool
is_of own what = is_slot own (slot_of (segment_in own) what)
