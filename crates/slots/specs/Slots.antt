-- Slots: the records that there are, one for each listed contract or pair and level, and how many cells they have.
use Rattle.std.specs.Prelude.{ℕ, ◌+◌, ◌*◌, ◌<◌}
use Rattle.std.proofs.Math.Option.{Option, none, some}
use Rattle.pairs.specs.Lists.{Lists}
use Rattle.files.specs.File.{segments_of, count_at, contracts_of}
use Rattle.forms.specs.declared.rows.Level.{Level}
use Rattle.forms.specs.declared.rows.Level.TheVariants.{One, Two}
use Rattle.forms.specs.declared.forms.Subject.{Subject}
use Rattle.forms.specs.declared.forms.Subject.TheVariants.{Nothing, Of}
use Rattle.forms.specs.declared.forms.Item.{Item}
use Rattle.forms.specs.declared.forms.Item.TheVariants.{Contract, Pair}
use Rattle.pairs.specs.Items.{file_of}

-- 01 "What may be asked", M-100: a record's slot: that of a contract or a pair, by its segment and its place there, and of a level
pub data Slot : Type 0 where
  slot : Item → ℕ → ℕ → Level → Slot

-- 01 "What may be asked", M-100: a slot of what is listed
abbrev pub SlotListed : Lists → Slot → Type 0
SlotListed lists (slot item i place level) = (i < segments_of lists.contracts) × (place < count_at (file_of item lists) i)

-- lent memory, M-104: what stands in a record before its rows: its number, and a contract's session
abbrev pub cells_in_front : Item → ℕ
cells_in_front Contract = 2
cells_in_front Pair = 1

-- lent memory, M-104: the cells of a record of a level: those, then a cell for each row of the record's form behind the key
-- (`cells_by_rows`)
abbrev pub level_cells : Item → Level → ℕ
level_cells Contract One = 17
level_cells Contract Two = 35
level_cells Pair One = 10
level_cells Pair Two = 28

-- lent memory: the cells of a contract's records, and of a pair's
abbrev pub item_cells : Item → ℕ
item_cells item = level_cells item One + level_cells item Two

-- 01 "What may be asked": the cells wanted for state, "a number that the lists' counts alone fix": of records
abbrev pub records_wanted : Lists → ℕ
records_wanted lists = item_cells Contract * contracts_of lists.contracts + item_cells Pair * contracts_of lists.pairs

-- 01 "Sequence and gaps": the slot of what a message of segment i tells of, at a place of its file
abbrev pub slot_for : Subject → ℕ → ℕ → Option Slot
slot_for Nothing i place = none
slot_for (Of item level) i place = some (slot item i place level)
