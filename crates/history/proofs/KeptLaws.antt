-- Storing an update keeps the records beside what the past says.
use Rattle.std.specs.Prelude.{ℕ, suc, ◌+◌, ◌≤◌, ◌≡◌, refl, true, false, cond, List, ◌∷◌, ◌⊎◌, ltb, eqb, length, get_or, take, drop, Ok, Err, Result}
use Rattle.std.proofs.Common.{sym, ap, subst, ◌∙◌, true≢false, inl, inr, ⊎_elim, arith, lt-ltb, eq-eqb, ne_eqb, eqb-true}
use Rattle.std.proofs.Math.Option.{Option, none, some}
use Rattle.std.proofs.lemmas.List.Edits.{sets}
use Rattle.pairs.specs.Lists.{Lists}
use Rattle.laws.specs.Choice.{either}
use Rattle.laws.specs.Tests.{all_four}
use Rattle.forms.specs.declared.rows.Level.{Level}
use Rattle.forms.specs.declared.rows.Level.TheVariants.{One, Two}
use Rattle.forms.specs.declared.forms.Item.{Item}
use Rattle.forms.specs.declared.forms.Item.TheVariants.{Contract, Pair}
use Rattle.forms.specs.declared.forms.Subject.{Subject}
use Rattle.forms.specs.declared.forms.Subject.TheVariants.{Nothing, Of}
use Rattle.pairs.specs.Lists.{Headers}
use Rattle.forms.specs.Forms.{same_level, same_item, subject_of}
use Rattle.message.specs.declared.body.What.{What}
use Rattle.message.specs.declared.body.What.TheVariants as what
use Rattle.head.specs.declared.head.Fault.{Fault}
use Rattle.message.specs.Message.{Message}
use Rattle.stores.specs.Stored.{stored}
use Rattle.slots.specs.Slots.{Slot, slot as record_slot, slot_for, SlotListed, records_wanted, cells_in_front, level_cells}
use Rattle.slots.specs.Places.{slot_at, slot_cells, record_of, record_rows}
use Rattle.slots.specs.SlotsLaws.{cells_by_rows, record_long, slot_inside, slot_some, slots_apart}
use Rattle.reading.specs.KeptLaws.{cells_wide}
use Rattle.history.specs.Updates.{same_slot, slot_of, is_slot, segment_in, item_in, level_in}
use Rattle.history.specs.Kept.{FitsSlot, RecordHolds, HoldsUpdate}
use Rattle.history.proofs.StoresLaws.{part_first, stored_here, stored_apart}
use Rattle.history.specs.Machine.{sequence_number, form_sent, higher}

-- ---- one slot or another

same_level_lem : (a b : Level) → same_level a b ≡ true → a ≡ b
same_level_lem One One e = refl
same_level_lem One Two e = cc
same_level_lem Two One e = cc
same_level_lem Two Two e = refl

same_item_lem : (a b : Item) → same_item a b ≡ true → a ≡ b
same_item_lem Contract Contract e = refl
same_item_lem Contract Pair e = cc
same_item_lem Pair Contract e = cc
same_item_lem Pair Pair e = refl

pub same_slot_lem : (a b : Slot) → same_slot a b ≡ true → a ≡ b
same_slot_lem (record_slot a i p x) (record_slot b j q y) e =
    let parts = all_four (eqb i j) (eqb p q) (same_level x y) (same_item a b) e in
    let segments = eqb-true i j parts.0 in
    let places = eqb-true p q parts.1 in
    let levels = same_level_lem x y parts.2 in
    let items = same_item_lem a b parts.3 in
    λ k. record_slot (items k) (segments k) (places k) (levels k)

pub slot_itself : (a : Slot) → same_slot a a ≡ true
slot_itself (record_slot Contract i p One) = simp (eq-eqb i i refl, eq-eqb p p refl)
slot_itself (record_slot Contract i p Two) = simp (eq-eqb i i refl, eq-eqb p p refl)
slot_itself (record_slot Pair i p One) = simp (eq-eqb i i refl, eq-eqb p p refl)
slot_itself (record_slot Pair i p Two) = simp (eq-eqb i i refl, eq-eqb p p refl)

-- a message of another segment is no update of a slot
pub not_its : (slot : Slot) (i : ℕ) (w : Result What Fault) → (i ≡ segment_in slot → ⊥) → is_slot slot (slot_of i w) ≡ false
not_its (record_slot a j p x) i (Ok what.Heartbeat) n = refl
not_its (record_slot a j p x) i (Ok (what.PassedOver number)) n = refl
not_its (record_slot a j p x) i (Err fault) n = refl
not_its (record_slot a j p x) i (Ok (what.Update number form place)) n = go (subject_of form)
  where
    go : (s : Subject) → is_slot (record_slot a j p x) (slot_for s i place) ≡ false
    go Nothing = refl
    go (Of item level) = simp (ne_eqb i j n)

-- a slot's cells: those in front, then one a row
pub slot_rows : (slot : Slot) → slot_cells slot ≡ cells_in_front (item_in slot) + record_rows (item_in slot) (level_in slot)
slot_rows (record_slot item i p level) = cells_by_rows item level

slot_level : (slot : Slot) → slot_cells slot ≡ level_cells (item_in slot) (level_in slot)
slot_level (record_slot item i p level) = refl

-- ---- an update stored

-- the number that a record holds
abbrev pub held_number : Option Message → ℕ
held_number none = 0
held_number (some m) = sequence_number m

module _ (lists : Lists) (records : List ℕ) (slot : Slot) where
  abbrev at : ℕ
  at = slot_at lists slot

  pub kept_number : (o : Option Message) → RecordHolds lists records slot o → get_or records at 0 ≡ held_number o
  kept_number none k = k
  kept_number (some m) k = sym (part_first records at (slot_cells slot) (slot_some slot)) ∙ ap (λ (l : List ℕ). get_or l 0 0) k.cells_kept_lem

  module _ (m : Message) (f : FitsSlot lists slot m) (room : at + slot_cells slot ≤ length records) where
    abbrev own : List ℕ
    own = sequence_number m ∷ record_of (item_in slot) (form_sent m) m.cells

    own_long : length own ≡ slot_cells slot
    own_long =
        record_long (form_sent m) (item_in slot) (level_in slot) f.about m.cells (ap length f.of_quote ∙ cells_wide (item_in slot) (form_sent m) f.quote)
        ∙ sym (slot_level slot)

    put : HoldsUpdate lists (sets records at own) slot m
    put =
        let long = own_long in
        record {
          cells_kept_lem = ap (λ (n : ℕ). take n (drop at (sets records at own))) (sym long) ∙ stored_here records own at (omega arith);
          fits = f;
        }

    -- "replaces its contract's record at its level only if its number is greater than the record's"
    pub kept_stored : (o : Option Message) → RecordHolds lists records slot o → RecordHolds lists (stored at (sequence_number m) (record_of (item_in slot) (form_sent m) m.cells) records) slot (higher m o)
    kept_stored none k = rw (k, lt-ltb 0 (sequence_number m) f.some_number) put
    kept_stored (some other) k =
        rw (kept_number (some other) k)
        (⊎_elim (λ (e : ltb (sequence_number other) (sequence_number m) ≡ true). rw e put) (λ (e : ltb (sequence_number other) (sequence_number m) ≡ false). rw e k) (either (ltb (sequence_number other) (sequence_number m))))

  -- what is stored apart changes nothing
  kept_apart : (at' number : ℕ) (cells : List ℕ) → at' + suc (length cells) ≤ length records
      → (at + slot_cells slot ≤ at') ⊎ (at' + suc (length cells) ≤ at)
      → (o : Option Message) → RecordHolds lists records slot o → RecordHolds lists (stored at' number cells records) slot o
  kept_apart at' number cells room apart o k =
      ⊎_elim (λ (e : ltb (get_or records at' 0) number ≡ true). rw e (moved o k)) (λ (e : ltb (get_or records at' 0) number ≡ false). rw e k) (either (ltb (get_or records at' 0) number))
    where
      new : List ℕ
      new = sets records at' (number ∷ cells)

      part : take (slot_cells slot) (drop at new) ≡ take (slot_cells slot) (drop at records)
      part = stored_apart records (number ∷ cells) at' room at (slot_cells slot) apart

      moved : (o : Option Message) → RecordHolds lists records slot o → RecordHolds lists new slot o
      moved none k =
          sym (part_first new at (slot_cells slot) (slot_some slot)) ∙ ap (λ (l : List ℕ). get_or l 0 0) part
          ∙ part_first records at (slot_cells slot) (slot_some slot) ∙ k
      moved (some m) k = record { cells_kept_lem = part ∙ k.cells_kept_lem; fits = k.fits }

-- an update stored in its slot changes that one's record alone
module _ (lists : Lists) (headers : Headers lists) (records : List ℕ) (long : records_wanted lists ≤ length records) (own : Slot) (there : SlotListed lists own)
    (m : Message) (f : FitsSlot lists own m) where
  abbrev cells : List ℕ
  cells = record_of (item_in own) (form_sent m) m.cells

  abbrev new : List ℕ
  new = stored (slot_at lists own) (sequence_number m) cells records

  room : slot_at lists own + slot_cells own ≤ length records
  room = omega (arith, slot_inside lists headers own there)

  cells_long : suc (length cells) ≡ slot_cells own
  cells_long = own_long lists records own m f room

  pub update_changes : (slot : Slot) → SlotListed lists slot → (o : Option Message) → RecordHolds lists records slot o → RecordHolds lists new slot (cond (same_slot own slot) (higher m o) o)
  update_changes slot listed o k =
      ⊎_elim (λ (e : same_slot own slot ≡ true). rw e (here (same_slot_lem own slot e)))
      (λ (e : same_slot own slot ≡ false).
      rw e
      (kept_apart lists records slot (slot_at lists own) (sequence_number m) cells (subst (λ (n : ℕ). slot_at lists own + n ≤ length records) (sym cells_long) room)
      (⊎_elim (λ (b : slot_at lists own + slot_cells own ≤ slot_at lists slot). inr (subst (λ (n : ℕ). slot_at lists own + n ≤ slot_at lists slot) (sym cells_long) b))
      (λ (b : slot_at lists slot + slot_cells slot ≤ slot_at lists own). inl b)
      (slots_apart lists headers own slot there listed (λ same. true≢false (sym (slot_itself own) ∙ ap (same_slot own) same ∙ e))))
      o k))
      (either (same_slot own slot))
    where
      here : own ≡ slot → RecordHolds lists new slot (higher m o)
      here same =
          subst (λ (s : Slot). RecordHolds lists new s (higher m o)) same
          (kept_stored lists records own m f room o (subst (λ (s : Slot). RecordHolds lists records s o) (sym same) k))
