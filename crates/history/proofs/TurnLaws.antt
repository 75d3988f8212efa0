-- A message that acts keeps the box beside what the past says, and so do messages that act in turn.
use Rattle.std.specs.Prelude.{ℕ, zero, suc, ◌≡◌, refl, Bool, true, false, cond, List, [], ◌∷◌, ◌⊎◌, ltb, length, get_or, drop, Ok, Err, Result}
use Rattle.std.proofs.Common.{sym, ap, subst, ◌∙◌, true≢false, inl, inr, ⊎_elim, arith, eq-eqb, ne_eqb}
use Rattle.std.proofs.Math.Option.{Option, some}
use Rattle.std.proofs.lemmas.List.Edits.{sets}
use Rattle.std.proofs.Math.Seq.{length-sets}
use Rattle.laws.specs.Choice.{either}
use Rattle.laws.specs.Order.{same}
use Rattle.lookup.specs.Lookup.{segment_of}
use Rattle.pairs.specs.Lists.{Lists}
use Rattle.sequence.specs.Gaps.{Gaps, takes}
use Rattle.sequence.specs.Changes.{full, after}
use Rattle.sequence.specs.GapsLaws.{after_sound}
use Rattle.sequence.specs.Row.{gaps_of}
use Rattle.sequence.specs.RowLaid.{laid}
use Rattle.sequence.specs.RowLaws.{laid_gaps, laid_sound, sound_row_exactly}
use Rattle.message.specs.declared.body.What.{What}
use Rattle.message.specs.declared.body.What.TheVariants as what
use Rattle.head.specs.declared.head.Fault.{Fault}
use Rattle.head.specs.Fields.{length_of}
use Rattle.message.specs.Message.{Message}
use Rattle.message.specs.Reads.{message_of}
use Rattle.turns.specs.ActsLaws.{acts_as_lem}
use Rattle.turns.specs.Turns.{Box, Acted, acted, refused, number_acts, message_acts, messages_act}
use Rattle.stores.specs.Stored.{stored}
use Rattle.slots.specs.Slots.{Slot, SlotListed}
use Rattle.slots.specs.Places.{slot_at, record_of}
use Rattle.batch.specs.LeftLaws.{last_box}
use Rattle.turns.specs.ComparedLaws.{not_both}
use Rattle.turns.proofs.MessagesLaws.{messages_next, messages_refused}
use Rattle.starting.specs.Start.{start_of}
use Rattle.history.specs.Past.{Event, came, wrote_off_in, taken_of, messages_of, taken_for}
use Rattle.history.specs.Updates.{slot_of, is_slot, segment_in, item_in}
use Rattle.history.proofs.SegmentLaws.{takes_new, fits_taken}
use Rattle.history.specs.Kept.{newest, RecordsFit, RecordHolds}
use Rattle.history.proofs.KeptLaws.{not_its, update_changes}
use Rattle.history.proofs.DoesLaws.{stored_in, Does, is_bad, beats, passes, updates, does}
use Rattle.history.specs.Turn.{BoxFits, Turned}
use Rattle.history.specs.Machine.{is_numbered, comes_new, taking, is_heartbeat, sequence_number, form_sent, higher}

-- ---- what was taken when one more message has come

pub taken_here : (i start : ℕ) (m : Message) (past : List Event)
    → taken_of i start (came i m ∷ past) ≡ taking start (wrote_off_in i past) m (taken_of i start past)
taken_here i start m past = rw (eq-eqb i i refl)

pub taken_elsewhere : (i start j : ℕ) (m : Message) (past : List Event) → (j ≡ i → ⊥) → taken_of i start (came j m ∷ past) ≡ taken_of i start past
taken_elsewhere i start j m past n = rw (ne_eqb j i n)

-- ---- a number acts

abbrev pub took_box : Box → ℕ → (List ℕ → List ℕ) → Box
took_box box number changed =
    record {
      row = laid box.row (after (gaps_of box.row) number);
      records = changed box.records;
      taken = suc box.taken;
      old = box.old;
      heartbeats = box.heartbeats;
    }

abbrev pub old_box : Box → Box
old_box box = record { row = box.row; records = box.records; taken = box.taken; old = suc box.old; heartbeats = box.heartbeats }

abbrev beat_box : Box → Box
beat_box box = record { row = box.row; records = box.records; taken = box.taken; old = box.old; heartbeats = suc box.heartbeats }

same_box : {a b : Box} → acted a ≡ acted b → b ≡ a
same_box e = cc

number_went : (box : Box) (i number : ℕ) (changed : List ℕ → List ℕ) (box' : Box) → number_acts box i number changed ≡ acted box'
    → ((takes (gaps_of box.row) number ≡ true) × (full (gaps_of box.row) number ≡ false) × (box' ≡ took_box box number changed))
    ⊎ ((takes (gaps_of box.row) number ≡ false) × (box' ≡ old_box box))
number_went box i number changed box' e =
    ⊎_elim (λ (t : takes (gaps_of box.row) number ≡ true).
    ⊎_elim (λ (f : full (gaps_of box.row) number ≡ true). absurd (not_both (rw (t, f) at e)))
    (λ (f : full (gaps_of box.row) number ≡ false). inl (t, f, same_box (rw (t, f) at e)))
    (either (full (gaps_of box.row) number)))
    (λ (t : takes (gaps_of box.row) number ≡ false). inr (t, same_box (rw t at e)))
    (either (takes (gaps_of box.row) number))

-- ---- the records

-- a message that isn't taken changes no record
module _ (lists : Lists) (starts records : List ℕ) (i : ℕ) (past : List Event) (m : Message) (fit : RecordsFit lists starts records past) where
  abbrev start : ℕ
  start = start_of starts i

  abbrev before : List Message
  before = taken_of i start past

  abbrev Here : List ℕ → List Event → Slot → Type 0
  Here records then slot = RecordHolds lists records slot (newest slot (taken_for starts slot then))

  pub records_kept : comes_new start before (wrote_off_in i past) m ≡ false → RecordsFit lists starts records (came i m ∷ past)
  records_kept not_new slot there =
      ⊎_elim (λ (e : i ≡ segment_in slot). subst (λ (ms : List Message). RecordHolds lists records slot (newest slot ms)) (sym (still e)) (fit slot there))
      (λ (n : i ≡ segment_in slot → ⊥). rw (taken_elsewhere (segment_in slot) (start_of starts (segment_in slot)) i m past n) (fit slot there))
      (same i (segment_in slot))
    where
      still : i ≡ segment_in slot → taken_for starts slot (came i m ∷ past) ≡ taken_for starts slot past
      still e =
          subst (λ (j : ℕ). taken_of j (start_of starts j) (came i m ∷ past) ≡ taken_of j (start_of starts j) past) e
          (taken_here i start m past ∙ ap (λ (t : Bool). cond t (m ∷ before) before) not_new)

  -- one that is taken changes its slot's alone
  pub records_changed : (records' : List ℕ) → comes_new start before (wrote_off_in i past) m ≡ true
      → ((slot : Slot) → SlotListed lists slot → (o : Option Message) → RecordHolds lists records slot o
      → RecordHolds lists records' slot (cond (is_slot slot (slot_of i m.what)) (higher m o) o))
      → RecordsFit lists starts records' (came i m ∷ past)
  records_changed records' new change slot there =
      let o : Option Message = newest slot (taken_for starts slot past) in
      let now = change slot there o (fit slot there) in
      ⊎_elim (λ (e : i ≡ segment_in slot).
      subst (λ (ms : List Message). RecordHolds lists records' slot (newest slot ms)) (sym (more e))
      (subst (λ (j : ℕ). RecordHolds lists records' slot (cond (is_slot slot (slot_of j m.what)) (higher m o) o)) e now))
      (λ (n : i ≡ segment_in slot → ⊥).
      rw (taken_elsewhere (segment_in slot) (start_of starts (segment_in slot)) i m past n)
      (subst (λ (t : Bool). RecordHolds lists records' slot (cond t (higher m o) o)) (not_its slot i m.what n) now))
      (same i (segment_in slot))
    where
      more : i ≡ segment_in slot → taken_for starts slot (came i m ∷ past) ≡ m ∷ taken_for starts slot past
      more e =
          subst (λ (j : ℕ). taken_of j (start_of starts j) (came i m ∷ past) ≡ m ∷ taken_of j (start_of starts j) past) e
          (taken_here i start m past ∙ ap (λ (t : Bool). cond t (m ∷ before) before) new)

-- ---- one message

stored_long : (at number : ℕ) (cells records : List ℕ) → length (stored at number cells records) ≡ length records
stored_long at number cells records = go (ltb (get_or records at 0) number)
  where
    go : (t : Bool) → length (cond t (sets records at (number ∷ cells)) records) ≡ length records
    go true = length-sets records at (number ∷ cells)
    go false = refl

no_beat : (w : Result What Fault) → is_numbered w ≡ true → is_heartbeat w ≡ false
no_beat (Ok what.Heartbeat) e = absurd (true≢false (sym e))
no_beat (Ok (what.PassedOver number)) e = refl
no_beat (Ok (what.Update number level place)) e = refl
no_beat (Err fault) e = refl

module _ (lists : Lists) (starts : List ℕ) (letter i : ℕ) (listed : segment_of lists.contracts letter ≡ some i) (past : List Event) (box : Box) (f : BoxFits lists starts i past box) where
  abbrev begin : ℕ
  begin = start_of starts i

  abbrev earlier : List Message
  earlier = taken_of i begin past

  abbrev g : Gaps
  g = gaps_of box.row

  -- where a message is not taken the box stays, its counts apart
  stays : (m : Message) → comes_new begin earlier (wrote_off_in i past) m ≡ false → (taken old heartbeats : ℕ)
      → BoxFits lists starts i (came i m ∷ past) (record { row = box.row; records = box.records; taken = taken; old = old; heartbeats = heartbeats })
  stays m none_new taken old heartbeats =
      record {
        headers = f.headers;
        row_sound = f.row_sound;
        gaps_fit = rw (taken_here i begin m past, none_new) f.gaps_fit;
        records_fit = records_kept lists starts box.records i past m f.records_fit none_new;
        records_long = f.records_long;
      }

  -- a heartbeat
  beat_turns : (m : Message) → m.what ≡ Ok what.Heartbeat → Turned lists starts i past box (m ∷ []) (beat_box box)
  beat_turns m e =
      let none_new : comes_new begin earlier (wrote_off_in i past) m ≡ false = simp e in
      record {
        fits = stays m none_new _ _ _;
        taken_are = simp e (omega arith);
        old_are = simp e (omega arith);
        heartbeats_are = simp e (omega arith);
      }

  -- a message that is numbered
  module _ (m : Message) (numbered : is_numbered m.what ≡ true) (changed : List ℕ → List ℕ) (keeps : length (changed box.records) ≡ length box.records)
      (changes : comes_new begin earlier (wrote_off_in i past) m ≡ true → RecordsFit lists starts (changed box.records) (came i m ∷ past)) where
    abbrev n : ℕ
    n = sequence_number m

    new_is : takes g n ≡ comes_new begin earlier (wrote_off_in i past) m
    new_is = rw numbered (takes_new begin earlier (wrote_off_in i past) g f.gaps_fit n)

    taken_turns : takes g n ≡ true → full g n ≡ false → Turned lists starts i past box (m ∷ []) (took_box box n changed)
    taken_turns t few =
        let new : comes_new begin earlier (wrote_off_in i past) m ≡ true = sym new_is ∙ t in
        let all = (sound_row_exactly box.row).0 f.row_sound in
        let long = f.records_long in
        record {
          fits = record {
            headers = f.headers;
            row_sound = laid_sound box.row (after g n) all.0 (after_sound g all.2 n few);
            gaps_fit = rw (taken_here i begin m past, new, laid_gaps box.row (after g n)) (fits_taken begin earlier (wrote_off_in i past) g f.gaps_fit m few);
            records_fit = changes new;
            records_long = rw keeps long;
          };
          taken_are = rw new (omega arith);
          old_are = rw (new, numbered) (omega arith);
          heartbeats_are = rw (no_beat m.what numbered) (omega arith);
        }

    old_turns : takes g n ≡ false → Turned lists starts i past box (m ∷ []) (old_box box)
    old_turns t =
        let not_new : comes_new begin earlier (wrote_off_in i past) m ≡ false = sym new_is ∙ t in
        record {
          fits = stays m not_new _ _ _;
          taken_are = rw not_new (omega arith);
          old_are = rw (not_new, numbered) (omega arith);
          heartbeats_are = rw (no_beat m.what numbered) (omega arith);
        }

    number_turns : (k : ℕ) (box' : Box) → number_acts box k n changed ≡ acted box' → Turned lists starts i past box (m ∷ []) box'
    number_turns k box' e =
        ⊎_elim (λ (w : (takes g n ≡ true) × (full g n ≡ false) × (box' ≡ took_box box n changed)). rw w.2 (taken_turns w.0 w.1))
        (λ (w : (takes g n ≡ false) × (box' ≡ old_box box)). rw w.1 (old_turns w.0))
        (number_went box k n changed box' e)

  -- message k has acted
  module _ (k : ℕ) (bytes : List ℕ) (box' : Box) (acts : message_acts lists letter box k bytes ≡ acted box') where
    abbrev m : Message
    m = message_of lists letter bytes

    abbrev Turns : Type 0
    Turns = Turned lists starts i past box (m ∷ []) box'

    pub message_turns : Turns
    message_turns = go (does lists letter i bytes listed)
      where
        go : Does lists letter i bytes → Turns
        go (is_bad fault e) = absurd (not_both (sym (acts_as_lem lists letter bytes m refl e box k) ∙ acts))
        go (beats e) = rw (same_box (sym (acts_as_lem lists letter bytes m refl e box k) ∙ acts)) (beat_turns m e)
        go (passes numbered none_of is) =
            number_turns m numbered.0 (λ records. records) refl
            (λ new.
            records_changed lists starts box.records i past m f.records_fit box.records new
            (λ slot there o kept. subst (λ (s : Option Slot). RecordHolds lists box.records slot (cond (is_slot slot s) (higher m o) o)) (sym none_of) kept))
            k box' (sym (is box k) ∙ acts)
        go (updates own numbered of_own is u) =
            number_turns m numbered.0 (stored_in lists own m) (stored_long (slot_at lists own) (sequence_number m) (record_of (item_in own) (form_sent m) m.cells) box.records)
            (λ new.
            records_changed lists starts box.records i past m f.records_fit (stored_in lists own m box.records) new
            (λ slot there o kept.
            subst (λ (s : Option Slot). RecordHolds lists (stored_in lists own m box.records) slot (cond (is_slot slot s) (higher m o) o)) (sym of_own)
            (update_changes lists f.headers box.records f.records_long own u.listed m u.fits slot there o kept)))
            k box' (sym (is box k) ∙ acts)

-- ---- messages in turn

module _ (lists : Lists) (starts : List ℕ) (letter i : ℕ) (listed : segment_of lists.contracts letter ≡ some i) where
  none_turned : (past : List Event) (box : Box) → BoxFits lists starts i past box → Turned lists starts i past box [] box
  none_turned past box f = record { fits = f; taken_are = omega arith; old_are = omega arith; heartbeats_are = omega arith }

  next_turned : (past : List Event) (box : Box) (m : Message) (box' : Box) (ms : List Message) (box'' : Box)
      → Turned lists starts i past box (m ∷ []) box' → Turned lists starts i (came i m ∷ past) box' ms box''
      → Turned lists starts i past box (m ∷ ms) box''
  next_turned past box m box' ms box'' t u =
      record {
        fits = u.fits;
        taken_are = omega (arith, t.taken_are, u.taken_are);
        old_are = omega (arith, t.old_are, u.old_are);
        heartbeats_are = omega (arith, t.heartbeats_are, u.heartbeats_are);
      }

  pub messages_turn : (count k : ℕ) (past : List Event) (box : Box) (bytes : List ℕ) (box' : Box) → BoxFits lists starts i past box
      → messages_act count lists letter k box bytes ≡ acted box' → Turned lists starts i past box (messages_of count lists letter bytes) box'
  messages_turn zero k past box bytes box' f e = rw (← last_box lists letter k box bytes box' e) (none_turned past box f)
  messages_turn (suc more) k past box bytes box' f e =
      let m : Message = message_of lists letter bytes in
      go (message_acts lists letter box k bytes) refl (λ b fit acts. messages_turn more (suc k) (came i m ∷ past) b (drop (length_of bytes) bytes) box' fit acts)
    where
      go : (a : Acted) → message_acts lists letter box k bytes ≡ a
          → ((b : Box) → BoxFits lists starts i (came i (message_of lists letter bytes) ∷ past) b → messages_act more lists letter (suc k) b (drop (length_of bytes) bytes) ≡ acted box'
          → Turned lists starts i (came i (message_of lists letter bytes) ∷ past) b (messages_of more lists letter (drop (length_of bytes) bytes)) box')
          → Turned lists starts i past box (messages_of (suc more) lists letter bytes) box'
      go (refused refusal) h rest = absurd (not_both (sym (messages_refused lists letter more k box bytes refusal h) ∙ e))
      go (acted b) h rest =
          let t = message_turns lists starts letter i listed past box f k bytes b h in
          next_turned past box (message_of lists letter bytes) b (messages_of more lists letter (drop (length_of bytes) bytes)) box' t
          (rest b t.fits (sym (messages_next lists letter more k box bytes b h) ∙ e))
