-- What a message of a segment does, by what it is. Of the laws on histories this one alone looks into an update.
use Rattle.std.specs.Prelude.{ℕ, ◌<◌, ◌≡◌, refl, true, List, eqb, Ok, Err, Result}
use Rattle.std.proofs.Common.{sym, ap, ap₂, subst, ◌∙◌}
use Rattle.std.proofs.Math.Option.{Option, none, some}
use Rattle.lookup.specs.Lookup.{segment_of}
use Rattle.lookup.specs.LookupLaws.{segment_has, key_at_place}
use Rattle.files.specs.File.{letter_at}
use Rattle.pairs.specs.Lists.{Lists}
use Rattle.forms.specs.declared.rows.Level.{Level}
use Rattle.forms.specs.declared.forms.Form.{Form}
use Rattle.forms.specs.declared.forms.Named.TheVariants as is
use Rattle.forms.specs.declared.forms.Subject.{Subject}
use Rattle.forms.specs.declared.forms.Subject.TheVariants.{Of}
use Rattle.forms.specs.declared.forms.Item.{Item}
use Rattle.forms.specs.declared.forms.Item.TheVariants.{Contract, Pair}
use Rattle.layout.specs.Cells.{zeros_behind}
use Rattle.forms.specs.Forms.{named_rows, rows_of, subject_of}
use Rattle.layout.specs.Read.{read_rows}
use Rattle.forms.specs.Rows.{message_length}
use Rattle.quote.specs.Quote.{of_pair}
use Rattle.quote.proofs.QuoteTrip.{read_kept}
use Rattle.spread.proofs.SpreadTrip.{spread_read_kept}
use Rattle.quote.specs.Shows.{field_named}
use Rattle.quote.proofs.ShowsLaws.{shows_fields}
use Rattle.spread.proofs.ShowsLaws.{shows_spread_fields}
use Rattle.pairs.specs.Items.{habit_of, file_of}
use Rattle.message.specs.declared.body.What.{What}
use Rattle.message.specs.declared.body.What.TheVariants as what
use Rattle.head.specs.declared.head.Fault.{Fault}
use Rattle.message.proofs.CallerLaws.{update_told}
use Rattle.head.specs.Fields.{form_in, segment_letter_of, data_of}
use Rattle.head.specs.HeadLaws.{stamped_by}
use Rattle.message.proofs.GoodLaws.{good_exact}
use Rattle.message.specs.Message.{Message, message_key}
use Rattle.message.specs.Reads.{message_of}
use Rattle.message.specs.MessageLaws.{key_in}
use Rattle.message.specs.Numbers.{verdict_of, number_in}
use Rattle.slots.specs.Slots.{Slot, slot as record_slot, SlotListed, slot_for}
use Rattle.slots.specs.Places.{slot_at, record_of}
use Rattle.turns.specs.ActsLaws.{acts_as_lem}
use Rattle.turns.specs.Turns.{Box, number_acts, updated, message_acts}
use Rattle.stores.specs.Stored.{stored}
use Rattle.history.specs.Exactly.{UpdateSays}
use Rattle.reading.specs.Record.{stamp_shown}
use Rattle.reading.specs.Shown.{QuoteFor, shown, cells_for, stamp_in, ShowsEach}
use Rattle.history.specs.Kept.{FitsSlot}
use Rattle.history.specs.Updates.{slot_of, item_in}
use Rattle.history.specs.Machine.{is_numbered, sequence_number, what_form, form_sent}

-- what storing an update in its slot does to records
abbrev pub stored_in : Lists → Slot → Message → List ℕ → List ℕ
stored_in lists slot m = stored (slot_at lists slot) (sequence_number m) (record_of (item_in slot) (form_sent m) m.cells)

-- an update of a slot
pub record Updates (lists : Lists) (bytes : List ℕ) (m : Message) (slot : Slot) : Type 0 where
  pub listed : SlotListed lists slot
  pub fits : FitsSlot lists slot m
  pub says : UpdateSays lists bytes m slot

-- what is read of a form's rows are the cells of the quote that they hold
quote_kept : (item : Item) (level : Level) (form : Form) → subject_of form ≡ Of item level → (bytes : List ℕ) → (read_rows 0 (rows_of form) bytes).verdict ≡ Ok tt
    → cells_for item form (shown item form (zeros_behind (read_rows 0 (rows_of form) bytes).cells)) ≡ zeros_behind (read_rows 0 (rows_of form) bytes).cells
quote_kept Contract level form s bytes good = read_kept form bytes good (ap of_pair s)
quote_kept Pair level form s bytes good = spread_read_kept form bytes good (ap of_pair s)

-- and that quote shows every field
quote_shows : (item : Item) (level : Level) (form : Form) → subject_of form ≡ Of item level → (bytes : List ℕ) → (read_rows 0 (rows_of form) bytes).verdict ≡ Ok tt
    → ShowsEach item (field_named (named_rows form) bytes) (shown item form (zeros_behind (read_rows 0 (rows_of form) bytes).cells))
quote_shows Contract level form s bytes good = shows_fields form (ap of_pair s) bytes good
quote_shows Pair level form s bytes good = shows_spread_fields form (ap of_pair s) bytes good

-- an update has a time stamp where its segment's letter shows one
stamp_is : (item : Item) (level : Level) (form : Form) → subject_of form ≡ Of item level → (bytes : List ℕ) → form_in bytes ≡ is.Form form → {letter : ℕ} → segment_letter_of bytes ≡ letter
    → stamp_in item form ≡ stamp_shown item letter
stamp_is Contract level form s bytes named e = stamped_by bytes form level named s ∙ ap (λ (l : ℕ). eqb l 0x46) e
stamp_is Pair level form s bytes named e = refl

module _ (lists : Lists) (letter i : ℕ) (bytes : List ℕ) where
  abbrev m : Message
  m = message_of lists letter bytes

  abbrev Acts : (List ℕ → List ℕ) → Type 0
  Acts changed = (box : Box) (k : ℕ) → message_acts lists letter box k bytes ≡ number_acts box k (sequence_number m) changed

  -- a message that is good and has a number
  abbrev Numbered : Type 0
  Numbered = (is_numbered m.what ≡ true) × (verdict_of m.what ≡ Ok tt)

  pub data Does : Type 0 where
    is_bad : (fault : Fault) → m.what ≡ Err fault → Does
    beats : m.what ≡ Ok what.Heartbeat → Does
    passes : Numbered → slot_of i m.what ≡ none → Acts (λ records. records) → Does
    updates : (slot : Slot) → Numbered → slot_of i m.what ≡ some slot → Acts (stored_in lists slot m) → Updates lists bytes m slot → Does

  module _ (listed : segment_of lists.contracts letter ≡ some i) where
    pub does : Does
    does = go m.what refl
      where
        go : (w : Result What Fault) → m.what ≡ w → Does
        go (Err fault) e = is_bad fault e
        go (Ok what.Heartbeat) e = beats e
        go (Ok (what.PassedOver number)) e =
            passes (ap is_numbered e, ap verdict_of e) (ap (slot_of i) e)
            (λ box k. acts_as_lem lists letter bytes m refl e box k ∙ ap (λ (n : ℕ). number_acts box k n (λ records. records)) (sym (ap number_in e)))
        go (Ok (what.Update number form place)) e =
            let u = update_told lists letter bytes (ap verdict_of e) number form place e in
            let item : Item = u.item in
            let level : Level = u.tells.0 in
            let subject : subject_of form ≡ Of item level = u.tells.1 in
            let form_is : form ≡ form_sent m = sym (ap what_form e) in
            let letter_is : letter_at lists.contracts i ≡ letter = (segment_has lists.contracts letter i listed).1 in
            let key = key_at_place (habit_of item) (file_of item lists) i (message_key item bytes) place (sym (key_in item lists letter (message_key item bytes) listed) ∙ u.place_is) in
            let number_is : number ≡ sequence_number m = sym (ap number_in e) in
            let some_number : 0 < number = rw (u.form_is, subject, u.number_is) at ((good_exact lists letter bytes).0 (ap verdict_of e)).numbering in
            let quote : QuoteFor item = shown item form (zeros_behind (read_rows 0 (rows_of form) (data_of bytes)).cells) in
            updates (record_slot item i place level) (ap is_numbered e, ap verdict_of e) (ap (slot_of i) e ∙ ap (λ (s : Subject). slot_for s i place) subject)
            (λ box k.
            acts_as_lem lists letter bytes m refl e box k
            ∙ ap (λ (s : Subject). number_acts box k number (updated lists (segment_of lists.contracts letter) place s form number m.cells)) subject
            ∙ ap (λ (o : Option ℕ). number_acts box k number (updated lists o place (Of item level) form number m.cells)) listed
            ∙ ap₂ (λ (n : ℕ) (f : Form). number_acts box k n (stored (slot_at lists (record_slot item i place level)) n (record_of item f m.cells))) number_is form_is)
            (record {
              listed = ((segment_has lists.contracts letter i listed).0, key.0);
              fits =
                  record {
                    some_number = rw (← number_is) some_number;
                    about = ap subject_of (sym form_is) ∙ subject;
                    stamped = ap (stamp_in item) (sym form_is) ∙ stamp_is item level form subject bytes u.form_is u.segment_is ∙ ap (stamp_shown item) (sym letter_is);
                    quote = quote;
                    of_quote = u.cells_are ∙ sym (quote_kept item level form subject (data_of bytes) u.rows_good) ∙ ap (λ (f : Form). cells_for item f quote) form_is;
                  };
              says =
                  record {
                    number_is = u.number_is ∙ number_is;
                    key_is = sym key.1;
                    form_is = u.form_is ∙ ap is.Form form_is;
                    level_is = u.length_is ∙ ap (λ (f : Form). message_length (rows_of f)) form_is;
                    tells = ap subject_of (sym form_is) ∙ subject;
                    shows =
                        subst (λ (f : Form). ShowsEach item (field_named (named_rows f) (data_of bytes)) (shown item f m.cells)) form_is
                        (rw u.cells_are (quote_shows item level form subject (data_of bytes) u.rows_good));
                  };
            })
