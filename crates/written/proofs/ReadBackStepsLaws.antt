-- What a batch that holds just a written message does, and what stands in an update's record then.
use Rattle.std.specs.Prelude.{ℕ, suc, ◌+◌, ◌-◌, ◌≤◌, ◌<◌, ◌≡◌, Bool, true, false, List, [], ◌∷◌, ◌++◌, length, get_or, take, drop, Some, Ok}
use Rattle.std.proofs.Math.Path.{refl}
use Rattle.std.proofs.Common.{ap, sym, ◌∙◌, ⊎_elim, append_assoc, arith, lt-ltb, length-append, length-drop, take_at, drop_at, length-take-le}
use Rattle.std.proofs.Math.Nat.{mod-eq_of_lt}
use Rattle.std.proofs.lemmas.List.Edits.{sets-eq}
use Rattle.std.proofs.Math.Seq.{length-sets, append_snoc}
use Rattle.std.proofs.lemmas.List.{get_or_at}
use Rattle.laws.specs.Choice.{either}
use Rattle.wire.specs.NumberLaws.{read_back}
use Rattle.forms.specs.declared.rows.Level.{Level}
use Rattle.forms.specs.declared.forms.Form.{Form}
use Rattle.forms.specs.declared.forms.Item.{Item}
use Rattle.forms.specs.declared.forms.Subject.TheVariants.{Of}
use Rattle.forms.specs.Forms.{subject_of}
use Rattle.forms.specs.Sizes.{most_rows}
use Rattle.head.specs.Fields.{segment_letter, segment_letter_of, length_of}
use Rattle.sequence.specs.Gaps.{takes}
use Rattle.sequence.specs.Changes.{full, after}
use Rattle.sequence.specs.Row.{gaps_of}
use Rattle.sequence.specs.RowLaid.{laid}
use Rattle.state.specs.declared.answers.Judged.{Judged}
use Rattle.state.specs.Answers.{judged_numbers}
use Rattle.state.specs.AnswersLaws.{judged_told}
use Rattle.state.specs.GoodState.{GoodState}
use Rattle.state.specs.Memory.{Lent}
use Rattle.state.specs.StateLaws.{state_exact}
use Rattle.turns.proofs.MessagesLaws.{messages_next, messages_end}
use Rattle.pairs.specs.Lists.{Lists}
use Rattle.message.specs.Compared.{message_compared}
use Rattle.turns.specs.Turns.{Box, acted, message_acts, number_acts}
use Rattle.batch.specs.Batch.{flag_of, size_of, count_of, batch_data, batch_letter}
use Rattle.batch.specs.Acts.{box_of, batch_acts, batch_compared, batch_numbers, lent_after}
use Rattle.batch.specs.BatchLaws.{messages_decide}
use Rattle.batch.specs.GoodLaws.{front_exact}
use Rattle.batch.specs.Promises.{TookBatch}
use Rattle.listing.specs.ListRules.{gaps_of_letter}
use Rattle.stores.specs.Stored.{stored}
use Rattle.slots.specs.Slots.{level_cells}
use Rattle.slots.specs.Places.{record_of}
use Rattle.slots.specs.SlotsLaws.{record_long}
use Rattle.batch.specs.Good.{GoodFront}
use Rattle.reading.specs.Record.{record_number}
use Rattle.writer.specs.declared.writing.Code.{Code}
use Rattle.writer.specs.Chosen.{form_written}
use Rattle.writer.specs.WriterPromises.{WroteValues}
use Rattle.written.specs.ReadBack.{batch_of, counted_as, Counts}
use Rattle.written.specs.WrittenFieldsLaws.{segment_written}
use Rattle.written.proofs.WrittenUpdateLaws.{written, message_there, all_of_it, written_short}

-- ---- the batch

module _ (message : List ℕ) (short : length message ≤ 32767) where
  size_is : size_of (batch_of message) ≡ length message
  unfolding batch_of size_of
  size_is = read_back 2 (length message) (batch_of message) 1 (omega arith) ∙ mod-eq_of_lt (omega arith)

  pub count_one : count_of (batch_of message) ≡ 1
  unfolding batch_of count_of
  count_one = refl

  pub data_is : batch_data (batch_of message) ≡ message
  unfolding batch_of
  data_is = refl

  pub batch_front : GoodFront (batch_of message)
  unfolding batch_of flag_of
  batch_front =
      let n = size_is in
      record { begun = omega arith; small = omega arith; whole = omega arith; plain = omega arith; some_messages = omega (arith, count_one) }

-- what a written message does where it stands alone, the batch does
module _ (item : Item) (code : Code) (level : Level) (number : ℕ) (key : List ℕ) (values : Form → List ℕ) (out out' : List ℕ) (n : ℕ)
    (form : Form) (chose : form_written item code level ≡ Some form) (wrote : WroteValues item code level number key values out (Ok n) out')
  where
    abbrev alone : List ℕ
    alone = written item code level number key values out out' n form chose wrote

    abbrev letter : ℕ
    letter = segment_letter code.0

    abbrev batch : List ℕ
    batch = batch_of (take n out')

    alone_short : length alone ≤ 32767
    alone_short = omega (arith, written_short item code level number key values out out' n form chose wrote)

    alone_letter : segment_letter_of alone ≡ letter
    alone_letter = segment_written code number _

    pub batch_is : batch ≡ batch_of alone
    batch_is = ap batch_of (message_there item code level number key values out out' n form chose wrote)

    pub letter_is : batch_letter batch ≡ letter
    letter_is = ap batch_letter batch_is ∙ ap segment_letter_of (data_is alone alone_short) ∙ alone_letter

    pub batch_acts_lem : (lent : Lent) → GoodState lent → (box' : Box) → message_acts lent.lists letter (box_of lent letter) 0 alone ≡ acted box'
        → batch_acts lent batch ≡ acted box'
    batch_acts_lem lent state box' acts =
        let none_left : length (drop (length_of alone) alone) ≡ 0 = omega (arith, length-drop (length_of alone) alone, all_of_it item code level number key values out out' n form chose wrote) in
        ap (batch_acts lent) batch_is
        ∙ messages_decide lent (batch_of alone) ((state_exact lent).1 state) ((front_exact (batch_of alone)).1 (batch_front alone alone_short))
        ∙ rw (count_one alone alone_short, data_is alone alone_short, alone_letter)
        (messages_next lent.lists letter 0 0 (box_of lent letter) alone box' acts ∙ messages_end lent.lists letter 1 box' (drop (length_of alone) alone) none_left)

    -- and its message's lookup is the batch's
    pub batch_keys : (lists : Lists) (box' : Box) → batch_compared lists batch (acted box') ≡ message_compared lists letter alone
    batch_keys lists box' =
        ap (λ (b : List ℕ). batch_compared lists b (acted box')) batch_is ∙ rw (count_one alone alone_short, data_is alone alone_short, alone_letter) (omega arith)

    -- one with a number for which there is room, by what it changes of the records, and by the keys compared
    module _ (lent : Lent) (state : GoodState lent) (room : takes (gaps_of_letter lent letter) number ≡ true → full (gaps_of_letter lent letter) number ≡ false)
        (changed : List ℕ → List ℕ) (acts : message_acts lent.lists letter (box_of lent letter) 0 alone ≡ number_acts (box_of lent letter) 0 number changed)
        (keys : ℕ) (keys_are : message_compared lent.lists letter alone ≡ keys)
      where
        abbrev box : Box
        box = box_of lent letter

        abbrev new : Bool
        new = takes (gaps_of_letter lent letter) number

        abbrev after_taken : Box
        after_taken = record { row = laid box.row (after (gaps_of box.row) number); records = changed lent.records; taken = 1; old = 0; heartbeats = 0 }

        abbrev after_old : Box
        after_old = record { row = box.row; records = lent.records; taken = 0; old = 1; heartbeats = 0 }

        does_taken : new ≡ true → batch_acts lent batch ≡ acted after_taken
        unfolding gaps_of_letter
        does_taken t = batch_acts_lem lent state after_taken (acts ∙ rw (t, room t))

        does_old : new ≡ false → batch_acts lent batch ≡ acted after_old
        unfolding gaps_of_letter
        does_old t = batch_acts_lem lent state after_old (acts ∙ rw t)

        keys_are_those : (box' : Box) → batch_compared lent.lists batch (acted box') ≡ keys
        keys_are_those box' = batch_keys lent.lists box' ∙ keys_are

        answer_is : (answer : Judged) → judged_numbers answer ≡ batch_numbers lent batch → answer ≡ counted_as new keys
        answer_is answer e =
            judged_told answer (counted_as new keys)
            (e ∙ ⊎_elim (λ (t : new ≡ true). rw (does_taken t, t, keys_are_those after_taken))
            (λ (t : new ≡ false). rw (does_old t, t, keys_are_those after_old))
            (either new))

        -- it is accepted, and its number counted
        pub counted : Counts letter number keys lent batch
        counted = record { judged = λ answer p. answer_is answer p.answers; taken = λ answer lent' p. answer_is answer p.answers }

        module _ (answer : Judged) (lent' : Lent) (took : TookBatch lent batch answer lent') where
          left_by : {box' : Box} → batch_acts lent batch ≡ acted box' → lent' ≡ lent_after lent (batch_letter batch) (acted box')
          left_by does = took.left ∙ ap (lent_after lent (batch_letter batch)) does

          -- what is left of the lists and the records where its number is taken, and where it is old
          pub left_taken : new ≡ true → (lent'.lists ≡ lent.lists) × (lent'.records ≡ changed lent.records)
          left_taken t = let l = left_by (does_taken t) in (ap (λ (m : Lent). m.lists) l, ap (λ (m : Lent). m.records) l)

          pub left_old : new ≡ false → lent'.records ≡ lent.records
          left_old t = ap (λ (m : Lent). m.records) (left_by (does_old t))

-- ---- the record

-- an update that is stored over an older one
module _ (item : Item) (level : Level) (form : Form) (tells : subject_of form ≡ Of item level) (records : List ℕ) (at number : ℕ) (cells : List ℕ)
    (wide : length cells ≡ most_rows) (room : at + level_cells item level ≤ length records) (newer : record_number records at < number)
  where
    abbrev kept : List ℕ
    kept = record_of item form cells

    abbrev then : List ℕ
    then = stored at number kept records

    long : suc (length kept) ≡ level_cells item level
    long = record_long form item level tells cells wide

    is : then ≡ take at records ++ (number ∷ (kept ++ drop (at + suc (length kept)) records))
    is =
        rw (lt-ltb (get_or records at 0) number newer)
        (sets-eq (number ∷ kept) records at (omega (arith, long)) ∙ append_assoc (take at records) (number ∷ kept) (drop (at + suc (length kept)) records))

    front : length (take at records) ≡ at
    front = length-take-le at records (omega arith)

    -- its number is the update's
    pub number_stored : record_number then at ≡ number
    number_stored = ap (λ (r : List ℕ). get_or r at 0) is ∙ get_or_at (take at records) number _ 0 at front

    -- and so are its other cells
    pub cells_stored : take (level_cells item level - 1) (drop (at + 1) then) ≡ kept
    cells_stored =
        let more : length (take at records ++ (number ∷ [])) ≡ at + 1 = length-append (take at records) (number ∷ []) ∙ ap (λ (n : ℕ). n + 1) front in
        let rest : List ℕ = kept ++ drop (at + suc (length kept)) records in
        ap (λ (l : List ℕ). take (level_cells item level - 1) (drop (at + 1) l)) (is ∙ sym (append_snoc (take at records) number rest))
        ∙ ap (take (level_cells item level - 1)) (drop_at (take at records ++ (number ∷ [])) rest (at + 1) more)
        ∙ take_at kept _ (level_cells item level - 1) (omega (arith, long))

    pub length_stored : length then ≡ length records
    length_stored = rw (lt-ltb (get_or records at 0) number newer) (length-sets records at (number ∷ kept))
