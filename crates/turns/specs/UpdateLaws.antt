-- Laws of an update in a batch: its contract is listed, so that its record is there, and where it is taken its store is kept.
use Rattle.std.specs.Prelude.{ℕ, suc, ◌+◌, ◌*◌, ◌≤◌, ◌<◌, ◌≡◌, List, length, Ok, Result}
use Rattle.std.proofs.Math.Path.{ap}
use Rattle.std.proofs.Common.{sym, subst, ◌∙◌, arith}
use Rattle.std.proofs.Math.Option.{Option, some}
use Rattle.std.proofs.Math.ListN.{take}
use Rattle.std.proofs.Math.Seq.{sets}
use Rattle.files.specs.File.{count_at}
use Rattle.lookup.specs.Lookup.{segment_of}
use Rattle.lookup.specs.LookupLaws.{segment_has, key_at_place}
use Rattle.pairs.specs.Lists.{Lists, Headers}
use Rattle.forms.specs.declared.rows.Level.{Level}
use Rattle.forms.specs.declared.forms.Form.{Form}
use Rattle.forms.specs.declared.forms.Form.TheVariants.{Heartbeat, LevelOne, LevelTwo, PairOne, PairTwo, FutureOne, FutureTwo, PreOpenOne, PreOpenTwo}
use Rattle.forms.specs.declared.forms.Subject.{Subject}
use Rattle.forms.specs.declared.forms.Subject.TheVariants.{Nothing, Of}
use Rattle.forms.specs.declared.forms.Item.{Item}
use Rattle.forms.specs.Forms.{named_rows, rows_of, subject_of}
use Rattle.forms.specs.Rows.{message_length}
use Rattle.forms.specs.Sizes.{most_rows}
use Rattle.message.specs.declared.body.What.TheVariants as what
use Rattle.message.specs.CallerLaws.{IsUpdate}
use Rattle.message.proofs.CallerLaws.{update_told, head_good, cells_stored}
use Rattle.message.specs.Message.{Message, TellsOf, message_key, place_in}
use Rattle.pairs.specs.Items.{file_of, habit_of}
use Rattle.pairs.specs.ItemsLaws.{habit_few, header_of, segments_of_lem}
use Rattle.message.specs.Reads.{cells_by, cells_read, rows_read, message_of}
use Rattle.message.specs.MessageLaws.{key_found, length_is}
use Rattle.message.specs.Numbers.{verdict_of}
use Rattle.state.specs.declared.refusal.Refusal.{Refusal}
use Rattle.turns.specs.declared.act.Act.{Act}
use Rattle.turns.specs.declared.act.Act.TheVariants.{Taken}
use Rattle.turns.specs.Acts.{InFront, changed_by}
use Rattle.turns.specs.Turns.{updated}
use Rattle.slots.specs.Slots.{Slot, slot, SlotListed, records_wanted}
use Rattle.slots.specs.declared.records.Fronts.{Fronts}
use Rattle.slots.specs.Places.{slot_at, slot_in, record_of, record_at, front_in}
use Rattle.slots.specs.SlotsLaws.{slot_inside, record_long, record_most, record_by_rows, rows_behind, level_most}
use Rattle.stores.specs.Stores.{store_cells, least_update, Near, KeptFor, Keeps}
use Rattle.stores.specs.StoresLaws.{one_kept}

-- an update is as long as the shortest, or longer
abbrev Least : Subject → Form → Type 0
Least Nothing form = Unit {0}
Least (Of item level) form = least_update ≤ message_length (rows_of form)

least_long : (form : Form) → Least (subject_of form) form
unfolding rows_of named_rows
least_long Heartbeat = tt
least_long LevelOne = omega arith
least_long LevelTwo = omega arith
least_long PairOne = omega arith
least_long PairTwo = omega arith
least_long FutureOne = omega arith
least_long FutureTwo = omega arith
least_long PreOpenOne = omega arith
least_long PreOpenTwo = omega arith

-- ---- what an update tells of is listed

module _ (lists : Lists) (headers : Headers lists) (letter : ℕ) (bytes : List ℕ) {number : ℕ} {form : Form} {place : ℕ} (e : (message_of lists letter bytes).what ≡ Ok (what.Update number form place)) where
  pub told : IsUpdate lists letter bytes number form place
  told = update_told lists letter bytes (ap verdict_of e) number form place e

  abbrev pub item_of : Item
  item_of = told.item

  pub tells_of : TellsOf item_of form
  tells_of = told.tells

  abbrev level : Level
  level = tells_of.0

  pub found : (segment : ℕ) × (segment_of lists.contracts letter ≡ some segment) × (place_in item_of lists segment (message_key item_of bytes) ≡ some place)
  found = key_found item_of lists letter (message_key item_of bytes) place told.place_is

  -- an update's slot is one of what is listed
  abbrev slot_here : Slot
  slot_here = slot_in item_of (segment_of lists.contracts letter) place level

  slot_is : slot_here ≡ slot item_of found.0 place level
  slot_is = ap (λ (o : Option ℕ). slot_in item_of o place level) found.1

  place_under : place < count_at (file_of item_of lists) found.0
  place_under = let f = found in (key_at_place (habit_of item_of) (file_of item_of lists) f.0 (message_key item_of bytes) place f.2).0

  pub slot_listed : SlotListed lists (slot item_of found.0 place level)
  slot_listed = ((segment_has lists.contracts letter found.0 found.1).0, place_under)

  -- so its record, number and rows, lies in the cells wanted
  pub record_wanted : (cells : List ℕ) → slot_at lists slot_here + suc (length (record_of item_of form cells)) ≤ records_wanted lists
  record_wanted cells =
      rw slot_is
      (omega (arith, slot_inside lists headers (slot item_of found.0 place level) slot_listed, record_most form item_of level tells_of.1 cells))

-- ---- its store is kept

module _ (lists : Lists) (headers : Headers lists) (letter : ℕ) (fronts : Fronts) (fronts_are : InFront lists (segment_of lists.contracts letter) fronts) (bytes : List ℕ) (message : Message) (is : message ≡ message_of lists letter bytes)
    {number : ℕ} {form : Form} {place : ℕ} (e : message.what ≡ Ok (what.Update number form place)) where
  what_is : (message_of lists letter bytes).what ≡ Ok (what.Update number form place)
  what_is = ap (λ (m : Message). m.what) (sym is) ∙ e

  abbrev item : Item
  item = item_of lists headers letter bytes what_is

  abbrev own : Level
  own = level lists headers letter bytes what_is

  subject_is : subject_of form ≡ Of item own
  subject_is = (tells_of lists headers letter bytes what_is).1

  slot_there_lem : record_at item (front_in fronts item) place own ≡ slot_at lists (slot_in item (segment_of lists.contracts letter) place own)
  slot_there_lem =
      let f = found lists headers letter bytes what_is in
      ap (λ (n : ℕ). record_at item n place own) ((fronts_are f.0 f.1).are item) ∙ sym (ap (slot_at lists) (slot_is lists headers letter bytes what_is))

  pub fronts_near : Near fronts
  fronts_near = let f = found lists headers letter bytes what_is in (fronts_are f.0 f.1).small

  pub place_few : place < 65536
  place_few =
      let f = found lists headers letter bytes what_is in
      let i : ℕ = f.0 in
      let inside = (segment_has lists.contracts letter i f.1).0 in
      omega (arith, place_under lists headers letter bytes what_is, habit_few item ((header_of lists headers item).few_keys i (rw (segments_of_lem lists headers item) inside)))

  least : least_update ≤ message.length
  least = rw (ap (λ (m : Message). m.length) is ∙ length_is lists letter bytes ∙ (told lists headers letter bytes what_is).length_is) (subst (λ (subject : Subject). Least subject form) subject_is (least_long form))

  -- of the lent cells in which its rows are stored its record is kept
  record_there : (cells cells' : List ℕ) → cells' ≡ sets cells 0 (cells_read lists letter bytes) → length cells' ≡ most_rows → record_of item form cells' ≡ record_of item form message.cells
  unfolding cells_read
  record_there cells cells' there wide =
      let good = ap verdict_of what_is in
      let rows : cells' ≡ sets cells 0 (rows_read bytes).cells = there ∙ ap (λ h. sets cells 0 (cells_by h bytes)) (head_good lists letter bytes good) in
      let same = cells_stored lists letter bytes good cells cells' rows wide number form place what_is in
      record_by_rows form item (rows_behind form item own subject_is) cells' message.cells (same ∙ ap (λ (m : Message). take (length (rows_of form)) m.cells) (sym is))

  -- where it is taken
  pub update_kept : (a : Result Act Refusal) → a ≡ Ok Taken → (stores : List ℕ) (kept : ℕ) → store_cells * kept ≤ length stores
      → (cells cells' : List ℕ) → cells' ≡ sets cells 0 (cells_read lists letter bytes) → length cells' ≡ most_rows
      → (kept' : ℕ) (stores' : List ℕ) → KeptFor (subject_of form) form stores kept fronts place number cells' kept' stores'
      → Keeps (records_wanted lists) message.length stores kept (changed_by a (updated lists (segment_of lists.contracts letter) place (subject_of form) form number message.cells)) kept' stores'
  update_kept a taken stores kept within cells cells' there wide kept' stores' k =
      let long = record_long form item own subject_is cells' wide in
      let wanted = record_wanted lists headers letter bytes what_is cells' in
      rw (taken, subject_is, ← slot_there_lem, ← record_there cells cells' there wide)
      (one_kept (records_wanted lists) message.length stores kept within (record_at item (front_in fronts item) place own) number (record_of item form cells')
      (omega (arith, long, level_most item own)) least (omega (arith, wanted, slot_there_lem)) kept' stores' (rw subject_is at k))
