-- Where each slot's cells stand in lent memory: all listed contracts in list order, over all segments, then all pairs; of each the
-- record of level 1, then that of level 2. Laws: `slots_apart`, `slot_inside` (SlotsLaws).
use Rattle.std.specs.Prelude.{ℕ, suc, ◌+◌, ◌-◌, ◌*◌, ◌^◌, ◌<◌, ◌≡◌, List, [], ◌∷◌, ◌++◌, Bool, true, false, length, get_or, take, drop}
use Rattle.std.proofs.Math.Option.{Option, some}
use Rattle.std.proofs.Math.Option as option
use Rattle.files.specs.File.{contracts_of, contracts_before}
use Rattle.pairs.specs.Lists.{Lists}
use Rattle.forms.specs.declared.rows.Level.{Level}
use Rattle.forms.specs.declared.rows.Level.TheVariants.{One, Two}
use Rattle.forms.specs.declared.forms.Form.{Form}
use Rattle.forms.specs.declared.forms.Item.{Item}
use Rattle.forms.specs.declared.forms.Item.TheVariants.{Contract, Pair}
use Rattle.forms.specs.Forms.{rows_of, record_form, session_of, is_stamped, key_rows_of}
use Rattle.forms.specs.Sizes.{key_row_count, pair_row_count}
use Rattle.layout.specs.Cells.{none, session_cell}
use Rattle.pairs.specs.Items.{file_of}
use Rattle.slots.specs.declared.records.Fronts.{Fronts}
use Rattle.slots.specs.Slots.{Slot, slot, item_cells, level_cells}

-- 01 "What may be asked": "A record holds its update's number and rows": which are all rows of the record's form behind the key
unfoldable pub record_rows : Item → Level → ℕ
record_rows item level = length (rows_of (record_form item level)) - key_rows_of item

-- lent memory: where the records of all contracts begin, and those of all pairs
abbrev pub items_at : Item → Lists → ℕ
items_at Contract lists = 0
items_at Pair lists = item_cells Contract * contracts_of lists.contracts

-- lent memory: where the records of a segment's contracts begin, and those of its pairs
abbrev pub front_of : Item → Lists → ℕ → ℕ
front_of item lists i = items_at item lists + item_cells item * contracts_before (file_of item lists) i

-- lent memory: level 1 stands first, level 2 behind it
abbrev pub level_start : Item → Level → ℕ
level_start item One = 0
level_start item Two = level_cells item One

-- lent memory: where a record of a level begins, by the place of its contract or pair in the segment
abbrev pub record_at : Item → ℕ → ℕ → Level → ℕ
record_at item front place level = front + item_cells item * place + level_start item level

-- lent memory: where a slot's cells begin
abbrev pub slot_at : Lists → Slot → ℕ
slot_at lists (slot item i place level) = record_at item (front_of item lists i) place level

-- lent memory: how many cells a slot has
abbrev pub slot_cells : Slot → ℕ
slot_cells (slot item i place level) = level_cells item level

-- lent memory: the slot of a contract or a pair by its place in its segment, where there is one
abbrev pub slot_in : Item → Option ℕ → ℕ → Level → Slot
slot_in item option.none place level = slot item 0 place level
slot_in item (some i) place level = slot item i place level

-- M-104: an update without a time stamp has "none" for it in its record
abbrev pub no_stamp : Bool → List ℕ
no_stamp true = []
no_stamp false = none ∷ []

-- lent memory, M-104: the cells of an update's record behind its number: of a contract the session, the market type, the time stamp and
-- the other rows in turn; of a pair one for each row behind the key
abbrev pub record_of : Item → Form → List ℕ → List ℕ
record_of Contract form cells =
    session_cell (session_of form) ∷ get_or cells key_row_count 0 ∷ (no_stamp (is_stamped form) ++ drop (suc key_row_count) (take (length (rows_of form)) cells))
record_of Pair form cells = drop pair_row_count (take (length (rows_of form)) cells)

-- lent memory: the one of two places that is a contract's, or a pair's
abbrev pub front_in : Fronts → Item → ℕ
front_in fronts Contract = fronts.contracts
front_in fronts Pair = fronts.pairs

-- lent memory: where a segment's records begin; a usize holds what is added to that
pub record FrontsOf (lists : Lists) (i : ℕ) (fronts : Fronts) : Type 0 where
  pub are : (item : Item) → front_in fronts item ≡ front_of item lists i
  pub small : (item : Item) → front_in fronts item < 2 ^ 40
