-- What a call answers, and what it leaves of the wanted front, depends on the wanted front of the memory alone: it is what it
-- answers and leaves where no cell more is lent.
use Prim.Native.Nat.{ℕ, zero, suc, ◌+◌, ◌*◌, ◌≤◌, ◌<◌}
use Rattle.std.specs.Prelude.{◌≡◌, Bool, eqb, get_or, take, drop, set, replicate, Ok, Err, Result}
use Rattle.std.proofs.Math.Path.{refl, sym, ap, ap₂, subst}
use Rattle.std.proofs.Common.{◌∙◌, arith, le-leb, get_or-take, length-take-le}
use Rattle.std.proofs.Math.Bool.{true, false, cond}
use mathlib.Core.List.{List, [], ◌∷◌, ◌++◌}
use Rattle.std.proofs.Math.Option.{Option, none, some}
use Rattle.std.proofs.Math.Dec.{leb, ltb}
use Rattle.std.proofs.Math.ListN.{length}
use Rattle.std.proofs.lemmas.List.{length-replicate}
use Rattle.std.proofs.lemmas.List.Edits.{sets, sets-eq}
use Rattle.std.proofs.Math.Seq.{take_at, take-take, take-set-lt}
use Rattle.laws.specs.Rules.{first_broken}
use Rattle.laws.specs.RulesLaws.{last_held, none_hold, hold_append}
use Rattle.laws.specs.Lists.{part_of_front}
use Rattle.files.specs.BelowLaws.{all_same}
use Rattle.files.specs.File.{segments_of}
use Rattle.lookup.specs.Lookup.{segment_of}
use Rattle.lookup.specs.LookupLaws.{segment_has, key_at_place}
use Rattle.contracts.specs.SoundTests.{header_sound, sound}
use Rattle.pairs.specs.SpreadTests.{spread_header_sound, spreads_sound}
use Rattle.pairs.specs.Lists.{Lists, Headers}
use Rattle.forms.specs.declared.rows.Level.{Level}
use Rattle.layout.specs.Cells.{zeros_behind, session_in}
use Rattle.forms.specs.declared.forms.Subject.{Subject}
use Rattle.forms.specs.declared.forms.Subject.TheVariants.{Of}
use Rattle.forms.specs.declared.forms.Item.{Item}
use Rattle.forms.specs.declared.forms.Item.TheVariants as items
use Rattle.forms.specs.declared.forms.Session.{Session}
use Rattle.forms.specs.Forms.{record_form, subject_of, key_rows_of}
use Rattle.pairs.specs.Items.{file_of, habit_of}
use Rattle.sequence.specs.Gaps.{Gaps, takes, wanted}
use Rattle.sequence.specs.Changes.{full, wrote_off}
use Rattle.sequence.specs.GapsLaws.{wrote_off_sound}
use Rattle.sequence.specs.Row.{gaps_of}
use Rattle.sequence.specs.RowLaid.{laid, sound_gap_row}
use Rattle.sequence.specs.RowLaws.{laid_sound, sound_row_exactly}
use Rattle.message.specs.declared.body.What.{What}
use Rattle.message.specs.declared.body.What.TheVariants as what
use Rattle.head.specs.declared.head.Fault.{Fault}
use Rattle.head.specs.Fields.{length_of}
use Rattle.head.specs.Tests.{is_some}
use Rattle.message.specs.Message.{key_place}
use Rattle.message.specs.Reads.{message_of}
use Rattle.message.specs.MessageLaws.{key_found}
use Rattle.state.specs.declared.refusal.Refusal.{Refusal}
use Rattle.state.specs.declared.refusal.Refusal.TheVariants.{Code, Count, Memory, Numbering, List as ListOf, State, NoGap, Contract, Gaps as GapsOver}
use Rattle.state.specs.Answers.{left_by}
use Rattle.state.specs.Refusals.{Rule}
use Rattle.state.specs.Memory.{Lent, lends, gap_row_cells, gap_rows_wanted, gap_row_of, gap_row_in}
use Rattle.state.specs.MemoryRows.{with_gap_row, with_gap_row_in}
use Rattle.slots.specs.Slots.{Slot, slot as record_slot, SlotListed, records_wanted, cells_in_front}
use Rattle.slots.specs.Places.{slot_at, slot_in, record_of, record_rows}
use Rattle.slots.specs.SlotsLaws.{cells_by_rows, slot_inside, some_front}
use Rattle.state.specs.State.{memory_rules, state_rules, segment_rules}
use Rattle.state.specs.StateLaws.{is_some_lem, state_exact, state_held, letter_listed, row_sound}
use Rattle.turns.specs.ActsLaws.{acts_as_lem}
use Rattle.turns.specs.Turns.{Box, Acted, acted, refused, number_acts, updated, message_acts, messages_act, next}
use Rattle.batch.specs.Batch.{batch_rules, batch_letter, count_of, batch_data}
use Rattle.batch.specs.Acts.{batch_acts, batch_compared, box_of, unless_broken, answer_of, lent_after}
use Rattle.stores.specs.Stored.{stored}
use Rattle.batch.specs.BatchLaws.{good_state, messages_accepted}
use Rattle.batch.specs.LeftLaws.{is_listed, messages_leave}
use Rattle.turns.specs.UpdateLaws.{item_of, tells_of, record_wanted}
use Rattle.listing.specs.ListActs.{runs_put, lowest_run, lent_written_off}
use Rattle.listing.specs.ListRules.{gaps_of_letter, list_rules, write_off_rules}
use Rattle.reading.specs.ReadRules.{record_rules}
use Rattle.listing.specs.ListActsLaws.{off_left}
use Rattle.reading.specs.Record.{record_of_key, record_number, record_session, stamp_shown, stamp_seen, cells_at, quote_at, quote_beside}
use Rattle.reading.specs.RecordLaws.{record_found}
use Rattle.starting.specs.Start.{start_rules, each_starts}
use Rattle.starting.specs.StartActs.{start_broken, started_rows, rows_started, records_cleared, lent_started}
use Rattle.starting.specs.StartLaws.{started_lengths}
use Rattle.reading.specs.Shown.{QuoteFor, shown, blank_for}
use Rattle.history.specs.Calls.{started, judged, took, listed, wrote_off as off_told, read, Answer, Call, start, judge, take as taking, list_gaps, write_off, read_record, write_message, write_spread, no_spreads, with_lists}
use Rattle.history.specs.Step.{start_answer, batch_answer, list_refusal, list_answer, off_refusal, removed, read_refusal, record_answer, read_answer, read_quote, step}
use Rattle.history.proofs.TurnLaws.{took_box, old_box}
use Rattle.history.specs.Front.{front_of, Enough, handed, SameFront, SameOutcome}

-- ---- numbers stored in a front

sets_front : (w : ℕ) (vs l : List ℕ) (at : ℕ) → at + length vs ≤ w → take w (sets l at vs) ≡ sets (take w l) at vs
sets_front w [] l at h = refl
sets_front w (v ∷ vs) l at h =
    sets_front w vs (set l at v) (suc at) (omega arith) ∙ ap (λ (k : List ℕ). sets k (suc at) vs) (take-set-lt w l at v (omega arith))

stored_front : (w at number : ℕ) (cells records : List ℕ) → at + suc (length cells) ≤ w → stored at number cells (take w records) ≡ take w (stored at number cells records)
stored_front w at number cells records h =
    ap (λ (n : ℕ). cond (ltb n number) (sets (take w records) at (number ∷ cells)) (take w records)) (get_or-take w records at 0 (omega arith))
    ∙ go (ltb (get_or records at 0) number)
  where
    go : (t : Bool) → cond t (sets (take w records) at (number ∷ cells)) (take w records) ≡ take w (cond t (sets records at (number ∷ cells)) records)
    go true = sym (sets_front w (number ∷ cells) records at h)
    go false = refl

-- ---- messages that act on a front

abbrev front_box : ℕ → Box → Box
front_box w box = record { row = box.row; records = take w box.records; taken = box.taken; old = box.old; heartbeats = box.heartbeats }

abbrev front_acts : ℕ → Acted → Acted
front_acts w (acted box) = acted (front_box w box)
front_acts w (refused refusal) = refused refusal

number_front : (w : ℕ) (box : Box) (i number : ℕ) (changed : List ℕ → List ℕ) → changed (take w box.records) ≡ take w (changed box.records)
    → number_acts (front_box w box) i number changed ≡ front_acts w (number_acts box i number changed)
number_front w box i number changed e = go (takes (gaps_of box.row) number) (full (gaps_of box.row) number)
  where
    go : (t f : Bool)
        → cond t (cond f (refused (GapsOver i)) (acted (took_box (front_box w box) number changed))) (acted (old_box (front_box w box)))
        ≡ front_acts w (cond t (cond f (refused (GapsOver i)) (acted (took_box box number changed))) (acted (old_box box)))
    go false f = refl
    go true true = refl
    go true false = ap (λ (records : List ℕ). acted (took_box box number (λ before. records))) e

module _ (lists : Lists) (headers : Headers lists) (letter : ℕ) where
  abbrev v : ℕ
  v = records_wanted lists

  message_front : (box : Box) (i : ℕ) (bytes : List ℕ) → message_acts lists letter (front_box v box) i bytes ≡ front_acts v (message_acts lists letter box i bytes)
  message_front box i bytes = go (message_of lists letter bytes).what refl
    where
      go : (w : Result What Fault) → (message_of lists letter bytes).what ≡ w → message_acts lists letter (front_box v box) i bytes ≡ front_acts v (message_acts lists letter box i bytes)
      go (Err fault) e = acts_as_lem lists letter bytes (message_of lists letter bytes) refl e (front_box v box) i ∙ sym (ap (front_acts v) (acts_as_lem lists letter bytes (message_of lists letter bytes) refl e box i))
      go (Ok what.Heartbeat) e = acts_as_lem lists letter bytes (message_of lists letter bytes) refl e (front_box v box) i ∙ sym (ap (front_acts v) (acts_as_lem lists letter bytes (message_of lists letter bytes) refl e box i))
      go (Ok (what.PassedOver number)) e =
          acts_as_lem lists letter bytes (message_of lists letter bytes) refl e (front_box v box) i ∙ number_front v box i number (λ records. records) refl ∙ sym (ap (front_acts v) (acts_as_lem lists letter bytes (message_of lists letter bytes) refl e box i))
      go (Ok (what.Update number form place)) e =
          let item : Item = item_of lists headers letter bytes e in
          let level = tells_of lists headers letter bytes e in
          let cells : List ℕ = (message_of lists letter bytes).cells in
          let at : ℕ = slot_at lists (slot_in item (segment_of lists.contracts letter) place level.0) in
          let changed : List ℕ → List ℕ = updated lists (segment_of lists.contracts letter) place (subject_of form) form number cells in
          let same : updated lists (segment_of lists.contracts letter) place (Of item level.0) form number cells ≡ changed =
          ap (λ (s : Subject). updated lists (segment_of lists.contracts letter) place s form number cells) (sym level.1) in
          acts_as_lem lists letter bytes (message_of lists letter bytes) refl e (front_box v box) i
          ∙ number_front v box i number changed
          (subst (λ (by : List ℕ → List ℕ). by (take v box.records) ≡ take v (by box.records)) same (stored_front v at number (record_of item form cells) box.records (record_wanted lists headers letter bytes e cells)))
          ∙ sym (ap (front_acts v) (acts_as_lem lists letter bytes (message_of lists letter bytes) refl e box i))

  messages_front : (count i : ℕ) (box : Box) (bytes : List ℕ) → messages_act count lists letter i (front_box v box) bytes ≡ front_acts v (messages_act count lists letter i box bytes)
  unfolding messages_act
  messages_front zero i box bytes = go (eqb (length bytes) 0)
    where
      go : (t : Bool) → cond t (acted (front_box v box)) (refused Count) ≡ front_acts v (cond t (acted box) (refused Count))
      go true = refl
      go false = refl
  messages_front (suc more) i box bytes =
      let rest : (box' : Box) → messages_act more lists letter (suc i) (front_box v box') (drop (length_of bytes) bytes) ≡ front_acts v (messages_act more lists letter (suc i) box' (drop (length_of bytes) bytes)) =
      λ box'. messages_front more (suc i) box' (drop (length_of bytes) bytes)
      in
      ap (λ (a : Acted). next a (λ box'. messages_act more lists letter (suc i) box' (drop (length_of bytes) bytes))) (message_front box i bytes)
      ∙ go rest (message_acts lists letter box i bytes)
    where
      go : ((box' : Box) → messages_act more lists letter (suc i) (front_box v box') (drop (length_of bytes) bytes) ≡ front_acts v (messages_act more lists letter (suc i) box' (drop (length_of bytes) bytes)))
          → (a : Acted) → next (front_acts v a) (λ box'. messages_act more lists letter (suc i) box' (drop (length_of bytes) bytes))
          ≡ front_acts v (next a (λ box'. messages_act more lists letter (suc i) box' (drop (length_of bytes) bytes)))
      go rest (acted box') = rest box'
      go rest (refused refusal) = refl

-- ---- one memory and its front

module _ (lent : Lent) (enough : Enough lent) where
  abbrev lists : Lists
  lists = lent.lists

  abbrev w : ℕ
  w = gap_rows_wanted lists

  abbrev v' : ℕ
  v' = records_wanted lists

  abbrev front : Lent
  front = front_of lent

  rows_long : length front.rows ≡ w
  rows_long = length-take-le w lent.rows enough.rows_lent

  records_long : length front.records ≡ v'
  records_long = length-take-le v' lent.records enough.records_lent

  front_again : front_of front ≡ front
  front_again =
      let rows = take-take w w lent.rows (omega arith) in
      let records = take-take v' v' lent.records (omega arith) in
      λ k. lends lists (rows k) (records k)

  -- ---- the rules

  enough_rules : (a b : ℕ) → w ≤ a → v' ≤ b → memory_rules lists a b ≡ record { holds = true; refusal = Memory w } ∷ record { holds = true; refusal = Memory v' } ∷ []
  enough_rules a b h k =
      let first = le-leb w a h in
      let second = le-leb v' b k in
      λ j. record { holds = first j; refusal = Memory w } ∷ record { holds = second j; refusal = Memory v' } ∷ []

  memory_same : memory_rules lists (length front.rows) (length front.records) ≡ memory_rules lists (length lent.rows) (length lent.records)
  memory_same =
      let long = rows_long in
      let wide = records_long in
      enough_rules (length front.rows) (length front.records) (omega arith) (omega arith)
      ∙ sym (enough_rules (length lent.rows) (length lent.records) enough.rows_lent enough.records_lent)

  row_same : (i : ℕ) → i < segments_of lists.contracts → gap_row_of front.rows i ≡ gap_row_of lent.rows i
  row_same i h = part_of_front (gap_row_cells * i) gap_row_cells w lent.rows (omega arith)

  state_same : state_rules front ≡ state_rules lent
  state_same =
      ap₂ (λ (m : List Rule) (t : Bool). record { holds = header_sound lists.contracts; refusal = ListOf } ∷ record { holds = spread_header_sound lists.contracts lists.pairs; refusal = ListOf } ∷ m ++ (record { holds = t; refusal = State } ∷ []))
      memory_same
      (all_same (λ i. sound_gap_row (gap_row_of front.rows i)) (λ i. sound_gap_row (gap_row_of lent.rows i)) (segments_of lists.contracts) (λ i h. ap sound_gap_row (row_same i h)))

  start_same : (starts : List ℕ) → start_broken front starts ≡ start_broken lent starts
  unfolding start_rules
  start_same starts =
      ap (λ (m : List Rule). first_broken (record { holds = sound lists.contracts; refusal = ListOf } ∷ record { holds = spreads_sound lists.contracts lists.pairs; refusal = ListOf } ∷ record { holds = each_starts (segments_of lists.contracts) starts; refusal = Numbering 0 } ∷ m)) memory_same

  module _ (letter : ℕ) where
    segment_same : segment_rules front letter ≡ segment_rules lent letter
    unfolding segment_rules
    segment_same = ap (λ (rules : List Rule). rules ++ (record { holds = is_some (segment_of lists.contracts letter); refusal = Code 0 } ∷ [])) state_same

    row_of_same : (o : Option ℕ) → segment_of lists.contracts letter ≡ o → gap_row_in front.rows o ≡ gap_row_in lent.rows o
    row_of_same none e = refl
    row_of_same (some i) e = row_same i (segment_has lists.contracts letter i e).0

    gaps_same : gaps_of_letter front letter ≡ gaps_of_letter lent letter
    unfolding gaps_of_letter
    gaps_same = ap gaps_of (row_of_same (segment_of lists.contracts letter) refl)

    listing_same : (cells : List ℕ) → list_refusal front letter cells ≡ list_refusal lent letter cells
    unfolding list_rules
    listing_same cells =
        ap₂ (λ (rules : List Rule) (g : Gaps). first_broken (rules ++ (record { holds = leb (wanted g.runs) (length cells); refusal = Memory (wanted g.runs) } ∷ []))) segment_same gaps_same

    off_same : off_refusal front letter ≡ off_refusal lent letter
    unfolding write_off_rules
    off_same =
        ap₂ (λ (rules : List Rule) (g : Gaps). first_broken (rules ++ (record { holds = ltb 0 (length g.runs); refusal = NoGap } ∷ []))) segment_same gaps_same

    reading_same : (item : Item) (key : List ℕ) → read_refusal item front letter key ≡ read_refusal item lent letter key
    unfolding record_rules
    reading_same item key = ap (λ (rules : List Rule). first_broken (rules ++ (record { holds = is_some (key_place item lists letter key); refusal = Contract 0 } ∷ []))) segment_same

  -- ---- a row put

  as_sets : (i : ℕ) (row l : List ℕ) → length row ≡ gap_row_cells → gap_row_cells * i + gap_row_cells ≤ length l → with_gap_row l i row ≡ sets l (gap_row_cells * i) row
  as_sets i row l wide room =
      ap (λ (n : ℕ). take (gap_row_cells * i) l ++ row ++ drop (gap_row_cells * i + n) l) (sym wide) ∙ sym (sets-eq row l (gap_row_cells * i) (omega arith))

  row_put_front : (i : ℕ) (row : List ℕ) → i < segments_of lists.contracts → length row ≡ gap_row_cells → take w (with_gap_row front.rows i row) ≡ take w (with_gap_row lent.rows i row)
  row_put_front i row h wide =
      let long = rows_long in
      let rows_lent = enough.rows_lent in
      ap (take w) (as_sets i row front.rows wide (omega arith))
      ∙ sets_front w row front.rows (gap_row_cells * i) (omega arith)
      ∙ ap (λ (l : List ℕ). sets l (gap_row_cells * i) row) (take-take w w lent.rows (omega arith))
      ∙ sym (sets_front w row lent.rows (gap_row_cells * i) (omega arith))
      ∙ ap (take w) (sym (as_sets i row lent.rows wide (omega arith)))

  -- ---- a start

  started_front : (starts : List ℕ) (l : Lent) → l.lists ≡ lists → front_of (lent_started l starts) ≡ lends lists (started_rows (segments_of lists.contracts) starts) (replicate v' 0)
  unfolding rows_started records_cleared
  started_front starts l e =
      subst (λ (k : Lists). front_of (lent_started l starts) ≡ lends k (started_rows (segments_of k.contracts) starts) (replicate (records_wanted k) 0)) e
      (let rows = take_at (started_rows (segments_of l.lists.contracts) starts) (drop (gap_rows_wanted l.lists) l.rows) (gap_rows_wanted l.lists) (started_lengths starts (segments_of l.lists.contracts)) in
      let records = take_at (replicate (records_wanted l.lists) 0) (drop (records_wanted l.lists) l.records) (records_wanted l.lists) (length-replicate (records_wanted l.lists) 0) in
      λ k. lends l.lists (rows k) (records k))

  -- ---- a batch taken

  box_front : (letter : ℕ) → box_of front letter ≡ front_box v' (box_of lent letter)
  box_front letter =
      let row = row_of_same letter (segment_of lists.contracts letter) refl in
      λ k. record { row = row k; records = take v' lent.records; taken = 0; old = 0; heartbeats = 0 }

  answer_front : (batch : List ℕ) (a : Acted) → answer_of (batch_compared lists batch (front_acts v' a)) (front_acts v' a) ≡ answer_of (batch_compared lists batch a) a
  answer_front batch (acted box) = refl
  answer_front batch (refused refusal) = refl

  module _ (batch : List ℕ) where
    abbrev letter : ℕ
    letter = batch_letter batch

    acts_front : batch_acts front batch ≡ front_acts v' (batch_acts lent batch)
    unfolding batch_acts
    acts_front =
        ap₂ (λ (rules : List Rule) (box : Box). unless_broken (first_broken (rules ++ batch_rules batch)) (messages_act (count_of batch) lists letter 0 box (batch_data batch))) state_same (box_front letter)
        ∙ go (first_broken (state_rules lent ++ batch_rules batch)) refl
      where
        go : (o : Option Refusal) → first_broken (state_rules lent ++ batch_rules batch) ≡ o
            → unless_broken (first_broken (state_rules lent ++ batch_rules batch)) (messages_act (count_of batch) lists letter 0 (front_box v' (box_of lent letter)) (batch_data batch))
            ≡ front_acts v' (unless_broken (first_broken (state_rules lent ++ batch_rules batch)) (messages_act (count_of batch) lists letter 0 (box_of lent letter) (batch_data batch)))
        go none e =
            let state = (state_exact lent).0 ((hold_append (state_rules lent) (batch_rules batch)).0 (none_hold (state_rules lent ++ batch_rules batch) e)).0 in
            rw e (messages_front lists state.headers letter (count_of batch) 0 (box_of lent letter) (batch_data batch))
        go (some refusal) e = rw e

    batch_same : batch_answer front batch ≡ batch_answer lent batch
    batch_same = ap (λ (a : Acted). answer_of (batch_compared lists batch a) a) acts_front ∙ answer_front batch (batch_acts lent batch)

    module _ (box : Box) (accepted : batch_acts lent batch ≡ acted box) where
      abbrev i : ℕ
      i = (is_listed lent batch box accepted).0

      s : segment_of lists.contracts letter ≡ some i
      s = (is_listed lent batch box accepted).1

      there : i < segments_of lists.contracts
      there = (segment_has lists.contracts letter i s).0

      row_wide : length box.row ≡ gap_row_cells
      row_wide =
          ((sound_row_exactly box.row).0
          (messages_leave lists letter (good_state lent batch box accepted).headers (count_of batch) 0 (box_of lent letter) (batch_data batch) box
          (ap (λ (o : Option ℕ). sound_gap_row (gap_row_in lent.rows o)) s ∙ (good_state lent batch box accepted).rows_sound i there)
          (messages_accepted lent batch box accepted)).sound).0

      accepted_left : front_of (lent_after front letter (acted (front_box v' box))) ≡ front_of (lent_after lent letter (acted box))
      accepted_left =
          let rows : take w (with_gap_row_in front.rows box.row (segment_of lists.contracts letter)) ≡ take w (with_gap_row_in lent.rows box.row (segment_of lists.contracts letter)) =
          ap (λ (o : Option ℕ). take w (with_gap_row_in front.rows box.row o)) s ∙ row_put_front i box.row there row_wide ∙ sym (ap (λ (o : Option ℕ). take w (with_gap_row_in lent.rows box.row o)) s)
          in
          let records = take-take v' v' box.records (omega arith) in
          λ k. lends lists (rows k) (records k)

    take_left : front_of (lent_after front letter (batch_acts front batch)) ≡ front_of (lent_after lent letter (batch_acts lent batch))
    take_left = ap (λ (a : Acted). front_of (lent_after front letter a)) acts_front ∙ go (batch_acts lent batch) refl
      where
        go : (a : Acted) → batch_acts lent batch ≡ a → front_of (lent_after front letter (front_acts v' a)) ≡ front_of (lent_after lent letter a)
        go (refused refusal) e = front_again
        go (acted box) e = accepted_left box e

  -- ---- a write-off

  module _ (letter : ℕ) where
    removed_left : off_refusal lent letter ≡ none → front_of (lent_written_off front letter) ≡ front_of (lent_written_off lent letter)
    unfolding write_off_rules
    removed_left e =
        let held = (last_held (segment_rules lent letter) (record { holds = ltb 0 (length (gaps_of_letter lent letter).runs); refusal = NoGap }) e).0 in
        let l = is_some_lem (segment_of lists.contracts letter) (letter_listed lent letter held) in
        let there = (segment_has lists.contracts letter l.0 l.1).0 in
        let own : List ℕ = gap_row_of lent.rows l.0 in
        let row : List ℕ = laid own (wrote_off (gaps_of own)) in
        let all = (sound_row_exactly own).0 (row_sound lent letter held l.0 l.1) in
        let wide : length row ≡ gap_row_cells = ((sound_row_exactly row).0 (laid_sound own (wrote_off (gaps_of own)) all.0 (wrote_off_sound all.2))).0 in
        let rows = row_put_front l.0 row there wide in
        let records = take-take v' v' lent.records (omega arith) in
        ap front_of (off_left front letter (ap first_broken (segment_same letter) ∙ held) l.0 l.1)
        ∙ ap (λ (r : List ℕ). front_of (lends lists (with_gap_row front.rows l.0 (laid r (wrote_off (gaps_of r)))) front.records)) (row_same l.0 there)
        ∙ (λ k. lends lists (rows k) (records k))
        ∙ sym (ap front_of (off_left lent letter held l.0 l.1))

    off_left_front : front_of (left_by (off_refusal front letter) front (lent_written_off front letter)) ≡ front_of (left_by (off_refusal lent letter) lent (lent_written_off lent letter))
    off_left_front = ap (λ (o : Option Refusal). front_of (left_by o front (lent_written_off front letter))) (off_same letter) ∙ go (off_refusal lent letter) refl
      where
        go : (o : Option Refusal) → off_refusal lent letter ≡ o → front_of (left_by o front (lent_written_off front letter)) ≡ front_of (left_by o lent (lent_written_off lent letter))
        go (some refusal) e = front_again
        go none e = removed_left e

  -- ---- a reading

  module _ (item : Item) (letter : ℕ) (key : List ℕ) (level : Level) where
    abbrev at : ℕ
    at = record_of_key item lists letter key level

    inside : read_refusal item lent letter key ≡ none → at + cells_in_front item + record_rows item level ≤ v'
    unfolding record_rules
    inside e =
        let held = last_held (segment_rules lent letter) (record { holds = is_some (key_place item lists letter key); refusal = Contract 0 }) e in
        let place = is_some_lem (key_place item lists letter key) held.1 in
        let f = key_found item lists letter key place.0 place.1 in
        let own : Slot = record_slot item f.0 place.0 level in
        let there : SlotListed lists own = ((segment_has lists.contracts letter f.0 f.1).0, (key_at_place (habit_of item) (file_of item lists) f.0 key place.0 f.2).0) in
        omega (arith, slot_inside lists (state_held lent letter held.0).headers own there, cells_by_rows item level, record_found item lent letter key held.0 f.0 f.1 place.0 f.2 level)

    cells_same : read_refusal item lent letter key ≡ none → cells_at item (stamp_shown item letter) front.records at level ≡ cells_at item (stamp_shown item letter) lent.records at level
    unfolding cells_at
    cells_same e =
        let room = inside e in
        ap (λ (cells : List ℕ). stamp_seen (stamp_shown item letter) (zeros_behind (replicate (key_rows_of item) 0 ++ cells))) (part_of_front (at + cells_in_front item) (record_rows item level) v' lent.records (omega arith))

    abbrev reads : Option Refusal → ℕ → Session → QuoteFor item → Answer
    reads o number session quote = read item (record_answer o number session) (quote_beside (blank_for item) o quote)

    session_same : (item' : Item) → at + cells_in_front item' ≤ v' → record_session item' front.records at ≡ record_session item' lent.records at
    session_same items.Contract room = ap session_in (get_or-take v' lent.records (at + 1) 0 (omega arith))
    session_same items.Pair room = refl

    abbrev quote_there : List ℕ → QuoteFor item
    quote_there records = quote_at (shown item) (blank_for item) item (stamp_shown item letter) records at level

    read_same : read item (read_answer item front letter key level) (read_quote item front letter key level) ≡ read item (read_answer item lent letter key level) (read_quote item lent letter key level)
    read_same =
        ap (λ (o : Option Refusal). reads o (record_number front.records at) (record_session item front.records at) (quote_there front.records)) (reading_same letter item key)
        ∙ go (read_refusal item lent letter key) refl
      where
        go : (o : Option Refusal) → read_refusal item lent letter key ≡ o
            → reads o (record_number front.records at) (record_session item front.records at) (quote_there front.records) ≡ reads o (record_number lent.records at) (record_session item lent.records at) (quote_there lent.records)
        go (some refusal) e = refl
        go none e =
            let room = inside e in
            let number = get_or-take v' lent.records at 0 (omega (arith, some_front item)) in
            let session = session_same item (omega arith) in
            let cells = cells_same e in
            λ k. reads none (number k) (session k) (cond (eqb (number k) 0) (blank_for item) (shown item (record_form item level) (cells k)))

-- ---- every call

-- what is answered and left where no cell more than the wanted ones is lent
pub front_decides : (lent : Lent) (c : Call) → Enough (handed lent c) → SameOutcome (front_of (handed lent c)) lent c
front_decides lent (start lists starts) enough =
    let m : Lent = with_lists lists lent in
    record {
      same_answer = ap (λ (o : Option Refusal). started (start_answer o)) (start_same m enough starts);
      same_left = ap (λ (o : Option Refusal). front_of (with_lists lists (left_by o (front_of m) (lent_started (front_of m) starts)))) (start_same m enough starts) ∙ go (start_broken m starts);
    }
  where
    go : (o : Option Refusal)
        → front_of (with_lists lists (left_by o (front_of (with_lists lists lent)) (lent_started (front_of (with_lists lists lent)) starts)))
        ≡ front_of (with_lists lists (left_by o lent (lent_started (with_lists lists lent) starts)))
    go none = started_front (with_lists lists lent) enough starts (front_of (with_lists lists lent)) refl ∙ sym (started_front (with_lists lists lent) enough starts (with_lists lists lent) refl)
    go (some refusal) = front_again (with_lists lists lent) enough
front_decides lent (judge batch) enough = record { same_answer = ap judged (batch_same lent enough batch); same_left = front_again lent enough }
front_decides lent (taking batch) enough = record { same_answer = ap took (batch_same lent enough batch); same_left = take_left lent enough batch }
front_decides lent (list_gaps letter cells) enough =
    record {
      same_answer = ap₂ (λ (o : Option Refusal) (g : Gaps). listed (list_answer o g) (left_by o cells (runs_put g cells))) (listing_same lent enough letter cells) (gaps_same lent enough letter);
      same_left = front_again lent enough;
    }
front_decides lent (write_off letter) enough =
    record {
      same_answer = ap₂ (λ (o : Option Refusal) (g : Gaps). off_told (removed o (lowest_run g))) (off_same lent enough letter) (gaps_same lent enough letter);
      same_left = off_left_front lent enough letter;
    }
front_decides lent (read_record item letter key level) enough = record { same_answer = read_same lent enough item letter key level; same_left = front_again lent enough }
front_decides lent (write_message code level number key quote out) enough = record { same_answer = refl; same_left = front_again lent enough }
front_decides lent (write_spread code level number key quote out) enough = record { same_answer = refl; same_left = front_again lent enough }
front_decides lent (no_spreads list out) enough = record { same_answer = refl; same_left = front_again lent enough }

-- and so of two memories with the same front
pub same_outcome : (lent lent' : Lent) (c : Call) → SameFront (handed lent c) (handed lent' c) → SameOutcome lent lent' c
same_outcome lent lent' c same =
    let a = front_decides lent c same.enough in
    let b = front_decides lent' c same.enough' in
    record {
      same_answer = sym a.same_answer ∙ ap (λ (l : Lent). (step l c).answer) same.same_front ∙ b.same_answer;
      same_left = sym a.same_left ∙ ap (λ (l : Lent). front_of (handed (step l c).left c)) same.same_front ∙ b.same_left;
    }
