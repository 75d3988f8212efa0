-- Demand 3, "each record is its contract's highest-numbered update taken".
use Rattle.std.specs.Prelude.{ℕ, ◌+◌, ◌-◌, ◌≤◌, ◌≡◌, refl, false, List, ◌∷◌, ◌↔◌, eqb, length, take, drop}
use Rattle.std.proofs.Common.{sym, ap, ap₂, subst, ◌∙◌, true≢false, arith, ne_eqb, length-drop, drop-drop}
use Rattle.std.proofs.Math.Option.{Option, none, some}
use Rattle.laws.specs.Choice.{clash}
use Rattle.laws.specs.Lists.{middle}
use Rattle.files.specs.File.{letter_at, key_by}
use Rattle.lookup.specs.Lookup.{segment_of}
use Rattle.lookup.specs.LookupLaws.{segment_has, segment_exact, key_exact, key_at_place}
use Rattle.pairs.specs.Lists.{Lists}
use Rattle.forms.specs.declared.rows.Level.{Level}
use Rattle.forms.specs.declared.forms.Item.{Item}
use Rattle.forms.specs.declared.forms.Session.{Session}
use Rattle.forms.specs.Forms.{record_form, session_of}
use Rattle.pairs.specs.Items.{file_of, habit_of}
use Rattle.pairs.specs.ItemsLaws.{segments_of_lem, sound_of}
use Rattle.message.specs.Message.{Message, place_in}
use Rattle.message.specs.Reads.{message_of}
use Rattle.state.specs.declared.refusal.Refusal.{Refusal}
use Rattle.state.specs.declared.answers.Recorded.{Recorded}
use Rattle.state.specs.Answers.{recorded_numbers, answered}
use Rattle.state.specs.Memory.{Lent}
use Rattle.slots.specs.Slots.{Slot, slot as record_slot, SlotListed}
use Rattle.slots.specs.Places.{slot_at, slot_cells, record_of}
use Rattle.slots.specs.SlotsLaws.{slot_inside}
use Rattle.state.specs.AnswersLaws.{recorded_told}
use Rattle.reading.specs.Record.{record_of_key, record_number, record_session, record_values, stamp_shown, cells_at, quote_at, quote_beside}
use Rattle.reading.specs.KeptLaws.{session_kept, shown_kept}
use Rattle.reading.specs.RecordLaws.{key_holds, record_found}
use Rattle.starting.specs.Start.{start_of}
use Rattle.history.specs.Past.{Event, taken_of, taken_for}
use Rattle.reading.specs.Shown.{QuoteFor, shown, blank_for, ReadsItem}
use Rattle.history.specs.Updates.{slot_of, item_in, level_in, letter_in, key_in}
use Rattle.history.specs.Kept.{newest, RecordHolds, HoldsUpdate}
use Rattle.history.proofs.KeptLaws.{kept_number}
use Rattle.history.specs.Histories.{Reached}
use Rattle.history.proofs.HoldsLaws.{reached_holds}
use Rattle.history.proofs.ListingLaws.{segment_good}
use Rattle.history.proofs.DoesLaws.{Does, is_bad, beats, passes, updates, does}
use Rattle.history.specs.Exactly.{NoUpdate, FoundNewest, ReadsNewest, no_record, a_record, UpdateSays}
use Rattle.history.proofs.NewestLaws.{newest_found}
use Rattle.history.specs.Machine.{sequence_number, form_sent, answer_for, quote_beside_it}

-- ---- a record that holds an update gives its rows back

-- a slot's cells behind its number are the update's other cells
behind_number : (lists : Lists) (records : List ℕ) (slot : Slot) (m : Message) → slot_at lists slot + slot_cells slot ≤ length records → HoldsUpdate lists records slot m
    → take (slot_cells slot - 1) (drop (slot_at lists slot + 1) records) ≡ record_of (item_in slot) (form_sent m) m.cells
behind_number lists records slot m room k =
    let at : ℕ = slot_at lists slot in
    ap (take (slot_cells slot - 1)) (sym (drop-drop 1 at records))
    ∙ middle (drop at records) 1 (slot_cells slot) (omega (arith, length-drop at records))
    ∙ ap (drop 1) k.cells_kept_lem

module _ (lists : Lists) (records : List ℕ) (m : Message) where
  -- its session is the update's
  session_back : (slot : Slot) → slot_at lists slot + slot_cells slot ≤ length records → HoldsUpdate lists records slot m
      → record_session (item_in slot) records (slot_at lists slot) ≡ session_of (form_sent m)
  session_back (record_slot item i place level) room k =
      let slot : Slot = record_slot item i place level in
      session_kept item level (form_sent m) k.fits.about records (slot_at lists slot) m.cells (behind_number lists records slot m room k)

  -- and it shows what the update holds
  shown_back : (slot : Slot) → slot_at lists slot + slot_cells slot ≤ length records → HoldsUpdate lists records slot m
      → shown (item_in slot) (record_form (item_in slot) (level_in slot)) (cells_at (item_in slot) (stamp_shown (item_in slot) (letter_in lists slot)) records (slot_at lists slot) (level_in slot))
      ≡ shown (item_in slot) (form_sent m) m.cells
  shown_back (record_slot item i place level) room k =
      let slot : Slot = record_slot item i place level in
      shown_kept item level (form_sent m) k.fits.about records (slot_at lists slot) m.cells (behind_number lists records slot m room k)
      room k.fits.quote k.fits.of_quote (stamp_shown item (letter_in lists slot)) (sym k.fits.stamped)

module _ (lists : Lists) (records : List ℕ) (slot : Slot) (room : slot_at lists slot + slot_cells slot ≤ length records) (answer : Recorded) (quote : QuoteFor (item_in slot))
    (says : recorded_numbers answer ≡ 0 ∷ record_values (record_number records (slot_at lists slot)) (record_session (item_in slot) records (slot_at lists slot)))
    (shows : quote ≡ quote_at (shown (item_in slot)) (blank_for (item_in slot)) (item_in slot) (stamp_shown (item_in slot) (letter_in lists slot)) records (slot_at lists slot) (level_in slot)) where
  abbrev Read : Option Message → Type 0
  Read o = (answer ≡ answer_for o) × (quote ≡ quote_beside_it (item_in slot) o)

  reads : (o : Option Message) → RecordHolds lists records slot o → Read o
  reads none kept = (recorded_told answer Recorded.NoRecord (says ∙ ap (λ (n : ℕ). 0 ∷ record_values n (record_session (item_in slot) records (slot_at lists slot))) kept), shows ∙ rw kept)
  reads (some m) kept =
      let number = kept_number lists records slot (some m) kept in
      let some_number : eqb (sequence_number m) 0 ≡ false = ne_eqb (sequence_number m) 0 (λ e. absurd (omega (arith, kept.fits.some_number))) in (
        recorded_told answer (Recorded.Record (sequence_number m) (session_of (form_sent m))) (says ∙ ap₂ (λ (n : ℕ) (s : Session). 0 ∷ record_values n s) number (session_back lists records m slot room kept) ∙ rw some_number),
        shows ∙ rw (number, some_number) (shown_back lists records m slot room kept),
      )

-- what is read of the newest update is that update
is_newest : (slot : Slot) (taken : List Message) (answer : Recorded) (quote : QuoteFor (item_in slot)) (o : Option Message) → FoundNewest slot taken o
    → answer ≡ answer_for o → quote ≡ quote_beside_it (item_in slot) o → ReadsNewest slot taken answer quote
is_newest slot taken answer quote none found e f = no_record found e f
is_newest slot taken answer quote (some m) found e f = a_record m found e f

-- ---- the theorem

module _ {starts : List ℕ} {lent : Lent} {past : List Event} (r : Reached starts lent past) (item : Item) where
  -- the record of a key that is listed in the segment of a letter
  pub read_newest : (letter i : ℕ) → segment_of lent.lists.contracts letter ≡ some i → (key : List ℕ) (place : ℕ) → place_in item lent.lists i key ≡ some place
      → (level : Level) (answer : Recorded) (quote : QuoteFor item) → ReadsItem item lent letter key level answer quote
      → (answer ≡ answer_for (newest (record_slot item i place level) (taken_of i (start_of starts i) past)))
      × (quote ≡ quote_beside_it item (newest (record_slot item i place level) (taken_of i (start_of starts i) past)))
  read_newest letter i s key place found level answer quote p =
      let lists : Lists = lent.lists in
      let own : Slot = record_slot item i place level in
      let there : SlotListed lists own = ((segment_has lists.contracts letter i s).0, (key_at_place (habit_of item) (file_of item lists) i key place found).0) in
      let good = segment_good r letter i s in
      let holds = key_holds item lent letter key good i s place found in
      let here : slot_at lists own ≡ record_of_key item lists letter key level = record_found item lent letter key good i s place found level in
      let taken : List Message = taken_of i (start_of starts i) past in
      let wide = (reached_holds r).state.records_lent in
      reads lists lent.records own (omega (arith, slot_inside lists (reached_holds r).state.headers own there)) answer quote
      (p.answers ∙ ap (λ (o : Option Refusal). answered o (record_values (record_number lent.records (record_of_key item lists letter key level)) (record_session item lent.records (record_of_key item lists letter key level)))) holds
      ∙ ap (λ (k : ℕ). 0 ∷ record_values (record_number lent.records k) (record_session item lent.records k)) (sym here))
      (p.quotes ∙ ap (λ (o : Option Refusal). quote_beside (blank_for item) o (quote_at (shown item) (blank_for item) item (stamp_shown item letter) lent.records (record_of_key item lists letter key level) level)) holds
      ∙ ap₂ (λ (l k : ℕ). quote_at (shown item) (blank_for item) item (stamp_shown item l) lent.records k level) (sym (segment_has lists.contracts letter i s).1) (sym here))
      (newest own taken)
      ((reached_holds r).records_fit own there)

  pub reads_key : (letter i : ℕ) → segment_of lent.lists.contracts letter ≡ some i → (key : List ℕ) (place : ℕ) → place_in item lent.lists i key ≡ some place
      → (level : Level) (answer : Recorded) (quote : QuoteFor item) → ReadsItem item lent letter key level answer quote
      → ReadsNewest (record_slot item i place level) (taken_of i (start_of starts i) past) answer quote
  reads_key letter i s key place found level answer quote p =
      let own : Slot = record_slot item i place level in
      let taken : List Message = taken_of i (start_of starts i) past in
      let is = read_newest letter i s key place found level answer quote p in
      is_newest own taken answer quote (newest own taken) (newest_found own taken) is.0 is.1

-- of a slot, asked for by its letter and key
pub reads_slot : {starts : List ℕ} {lent : Lent} {past : List Event} (r : Reached starts lent past) (slot : Slot) → SlotListed lent.lists slot
    → (answer : Recorded) (quote : QuoteFor (item_in slot)) → ReadsItem (item_in slot) lent (letter_in lent.lists slot) (key_in lent.lists slot) (level_in slot) answer quote
    → ReadsNewest slot (taken_for starts slot past) answer quote
reads_slot {lent = lent} r (record_slot item i place level) there =
    let lists : Lists = lent.lists in
    let sound = (reached_holds r).lists_sound in
    let headers = (reached_holds r).state.headers in
    let letter : ℕ = letter_at lists.contracts i in
    let key : List ℕ = key_by (habit_of item) (file_of item lists) i place in
    reads_key r item letter i ((segment_exact lists.contracts headers.contracts_header letter i).1 (there.0, refl)) key place
    ((key_exact (file_of item lists) i key (sound_of lists sound item) (rw (segments_of_lem lists headers item) there.0) place).1 (there.1, refl)) level

-- "A contract with no update taken reads as 'no record'", and no other does
pub no_record_exactly : {slot : Slot} {taken : List Message} {answer : Recorded} {quote : QuoteFor (item_in slot)} → ReadsNewest slot taken answer quote
    → answer ≡ Recorded.NoRecord ↔ NoUpdate slot taken
no_record_exactly (no_record none_taken says quote) = ((λ e. none_taken), (λ n. says))
no_record_exactly (a_record m is says quote) = (
  (λ e. let clashes : Recorded.Record (sequence_number m) (session_of (form_sent m)) ≡ Recorded.NoRecord = sym says ∙ e in absurd (clash (cc))),
  (λ none_taken. absurd (true≢false (sym is.of_slot ∙ none_taken m is.was_taken))),
)

-- what has a slot is an update of it
pub update_says : (lists : Lists) (letter i : ℕ) → segment_of lists.contracts letter ≡ some i → (bytes : List ℕ) (slot : Slot)
    → slot_of i (message_of lists letter bytes).what ≡ some slot → UpdateSays lists bytes (message_of lists letter bytes) slot
update_says lists letter i s bytes slot is = go (does lists letter i bytes s)
  where
    none_there : none ≡ some slot → ⊥
    none_there e = clash (cc)

    go : Does lists letter i bytes → UpdateSays lists bytes (message_of lists letter bytes) slot
    go (is_bad fault e) = absurd (none_there (ap (slot_of i) (sym e) ∙ is))
    go (beats e) = absurd (none_there (ap (slot_of i) (sym e) ∙ is))
    go (passes numbered none_of acts) = absurd (none_there (sym none_of ∙ is))
    go (updates own numbered of_own acts u) =
        let both : some own ≡ some slot = sym of_own ∙ is in
        let same : own ≡ slot = cc in
        subst (UpdateSays lists bytes (message_of lists letter bytes)) same u.says
