-- After every history a record shows what a message of an accepted batch says.
use Rattle.std.specs.Prelude.{ℕ, zero, suc, ◌≡◌, refl, Bool, true, false, cond, ◌⊎◌, eqb, drop, Result, Ok, Err}
use Rattle.std.proofs.Common.{sym, ap, subst, ◌∙◌, true≢false, inl, inr, ⊎_elim}
use mathlib.Core.List.Memᴰ
use mathlib.Core.List.{List, [], ◌∷◌, Memᴰ}
use Rattle.std.proofs.Math.Option.{Option, none, some}
use Rattle.laws.specs.Choice.{clash}
use Rattle.laws.specs.Tests.{eqb_is}
use Rattle.laws.specs.Rules.{first_broken}
use Rattle.laws.specs.RulesLaws.{last_held}
use Rattle.files.specs.File.{key_by}
use Rattle.lookup.specs.Lookup.{segment_of}
use Rattle.lookup.specs.LookupLaws.{segment_has, key_at_place}
use Rattle.pairs.specs.Lists.{Lists}
use Rattle.forms.specs.declared.rows.Level.{Level}
use Rattle.forms.specs.declared.forms.Session.{Session}
use Rattle.forms.specs.Forms.{session_of}
use Rattle.layout.specs.Cells.{session_cell}
use Rattle.head.specs.HeadLaws.{session_by}
use Rattle.forms.specs.declared.forms.Item.{Item}
use Rattle.pairs.specs.Items.{file_of, habit_of}
use Rattle.message.specs.declared.body.What.{What}
use Rattle.head.specs.declared.head.Fault.{Fault}
use Rattle.head.specs.Fields.{length_of}
use Rattle.message.specs.Message.{Message, key_place, place_in}
use Rattle.message.specs.Reads.{message_of}
use Rattle.message.specs.MessageLaws.{key_found}
use Rattle.state.specs.declared.refusal.Refusal.{Refusal}
use Rattle.state.specs.declared.answers.Judged.{Judged}
use Rattle.state.specs.declared.answers.Judged.TheVariants as judged
use Rattle.state.specs.declared.answers.Recorded.{Recorded}
use Rattle.state.specs.Answers.{recorded_numbers, left_by, WrittenOff}
use Rattle.state.specs.AnswersLaws.{accepted_by}
use Rattle.state.specs.Memory.{Lent}
use Rattle.slots.specs.Slots.{Slot, slot as record_slot}
use Rattle.state.specs.State.{segment_rules}
use Rattle.state.specs.StateLaws.{is_some_lem}
use Rattle.batch.specs.Batch.{batch_letter, count_of, batch_data}
use Rattle.batch.specs.Acts.{batch_acts}
use Rattle.reading.specs.ReadRules.{record_rules}
use Rattle.starting.specs.Start.{start_of}
use Rattle.starting.specs.StartActs.{lent_started}
use Rattle.sequence.specs.Runs.{Run}
use Rattle.history.specs.Past.{Event, came, off, messages_of, batch_messages, all_came, came_in, after_take, off_in, after_write_off, wrote_off_in, taken_of}
use Rattle.reading.specs.Shown.{QuoteFor, shown, ReadsItem}
use Rattle.history.specs.Calls.{start, judge, take, list_gaps, write_off, read_record, write_message, write_spread, no_spreads, with_lists}
use Rattle.history.specs.Step.{start_refusal, batch_answer, off_refusal, off_answer}
use Rattle.history.proofs.CallsLaws.{took_list, off_list}
use Rattle.history.specs.Histories.{Made, own, elsewhere, Since, past_in, BoxNow, unstarted, comes, after_call, all_after, accepting, batches_after, all_batches, Reached, batches_of}
use Rattle.history.specs.Updates.{slot_of, segment_in, is_slot, is_of}
use Rattle.history.specs.Exactly.{ReadsNewest, no_record, a_record, UpdateSays}
use Rattle.history.proofs.KeptLaws.{same_slot_lem}
use Rattle.history.proofs.RecordLaws.{reads_key, update_says}
use Rattle.history.specs.Sent.{message_starts, Source, ShownAsSent}
use Rattle.history.specs.Machine.{comes_new, taking, sequence_number, form_sent}

-- ---- where a message that came is from

-- every message of the past is one
abbrev Sourced : Lists → List (List ℕ) → List Event → Type 0
Sourced lists batches past = (i : ℕ) (m : Message) → Memᴰ (came i m) past → Source lists batches i m

none_came : (lists : Lists) (batches : List (List ℕ)) → Sourced lists batches []
none_came lists batches i m among = absurd (Memᴰ.not-nil among)

module _ (lists : Lists) where
  -- more batches are accepted
  more_accepted : (batch : List ℕ) (batches : List (List ℕ)) (past : List Event) → Sourced lists batches past → Sourced lists (batch ∷ batches) past
  more_accepted batch batches past h i m among =
      let s = h i m among in
      record { batch = s.batch; accepted = Memᴰ.tail s.accepted; listed = s.listed; bytes = s.bytes; in_batch = s.in_batch; is = s.is }

  by_bytes : (letter : ℕ) (m : Message) (count : ℕ) (bytes : List ℕ) → Memᴰ m (messages_of count lists letter bytes)
      → (b : List ℕ) × Memᴰ b (message_starts count bytes) × (m ≡ message_of lists letter b)
  by_bytes letter m zero bytes among = absurd (Memᴰ.not-nil among)
  by_bytes letter m (suc more) bytes among =
      ⊎_elim (λ (e : m ≡ message_of lists letter bytes). (bytes, Memᴰ.head refl, e))
      (λ (later : Memᴰ m (messages_of more lists letter (drop (length_of bytes) bytes))).
      let s = by_bytes letter m more (drop (length_of bytes) bytes) later in
      (s.0, Memᴰ.tail s.1, s.2))
      (Memᴰ.cases_cons among)

  -- what is among the past when messages have come
  came_from : (i j : ℕ) (m : Message) (ms : List Message) (past : List Event) → Memᴰ (came j m) (all_came i ms past)
      → ((j ≡ i) × Memᴰ m ms) ⊎ Memᴰ (came j m) past
  came_from i j m [] past among = inr among
  came_from i j m (k ∷ ms) past among = go (came_from i j m ms (came i k ∷ past) among)
    where
      first : (came j m ≡ came i k) ⊎ Memᴰ (came j m) past → ((j ≡ i) × Memᴰ m (k ∷ ms)) ⊎ Memᴰ (came j m) past
      first (inl e) = let at : j ≡ i = cc in let is : m ≡ k = cc in inl (at, Memᴰ.head is)
      first (inr before) = inr before

      go : ((j ≡ i) × Memᴰ m ms) ⊎ Memᴰ (came j m) (came i k ∷ past) → ((j ≡ i) × Memᴰ m (k ∷ ms)) ⊎ Memᴰ (came j m) past
      go (inl h) = inl (h.0, Memᴰ.tail h.1)
      go (inr later) = first (Memᴰ.cases_cons later)

  batch_sourced : (batch : List ℕ) (batches : List (List ℕ)) (past : List Event) → Sourced lists batches past
      → (o : Option ℕ) → segment_of lists.contracts (batch_letter batch) ≡ o → Sourced lists (batch ∷ batches) (came_in o (batch_messages lists batch) past)
  batch_sourced batch batches past h none e j m among = more_accepted batch batches past h j m among
  batch_sourced batch batches past h (some i) e j m among =
      ⊎_elim (λ (here : (j ≡ i) × Memᴰ m (batch_messages lists batch)).
      let s = by_bytes (batch_letter batch) m (count_of batch) (batch_data batch) here.1 in
      record { batch = batch; accepted = Memᴰ.head refl; listed = e ∙ ap some (sym here.0); bytes = s.0; in_batch = s.1; is = s.2 })
      (λ (before : Memᴰ (came j m) past). more_accepted batch batches past h j m before)
      (came_from i j m (batch_messages lists batch) past among)

  take_sourced : (batch : List ℕ) (batches : List (List ℕ)) (past : List Event) → Sourced lists batches past
      → (a : Judged) → Sourced lists (accepting a batch batches) (after_take lists batch a past)
  take_sourced batch batches past h (judged.Accepted taken old heartbeats compared) = batch_sourced batch batches past h (segment_of lists.contracts (batch_letter batch)) refl
  take_sourced batch batches past h (judged.Refused refusal compared) = h

  off_sourced : (batches : List (List ℕ)) (past : List Event) → Sourced lists batches past → (o : Option ℕ) (r : Run) → Sourced lists batches (off_in o r past)
  off_sourced batches past h none r j m among = h j m among
  off_sourced batches past h (some i) r j m among =
      ⊎_elim (λ (e : came j m ≡ off i r). absurd (clash (cc))) (λ (before : Memᴰ (came j m) past). h j m before) (Memᴰ.cases_cons among)

  write_off_sourced : (letter : ℕ) (batches : List (List ℕ)) (past : List Event) → Sourced lists batches past
      → (a : WrittenOff) → Sourced lists batches (after_write_off lists letter a past)
  write_off_sourced letter batches past h (Ok run) = off_sourced batches past h (segment_of lists.contracts letter) _
  write_off_sourced letter batches past h (Err refusal) = h

-- ---- every history

abbrev Told : BoxNow → List (List ℕ) → Type 0
Told now batches = Sourced now.lent.lists batches (past_in now.since)

call_told : (now : BoxNow) (batches : List (List ℕ)) (c : Made) → Told now batches → Told (after_call now c) (batches_after now c batches)
call_told now batches (own (start lists starts)) h = go (start_refusal now.lent lists starts) refl
  where
    go : (o : Option Refusal) → start_refusal now.lent lists starts ≡ o
        → Sourced (left_by (start_refusal now.lent lists starts) now.lent (lent_started (with_lists lists now.lent) starts)).lists
        (left_by (start_refusal now.lent lists starts) batches [])
        (past_in (left_by (start_refusal now.lent lists starts) now.since (some (record { starts = starts; past = [] }))))
    go none e = rw e (none_came lists [])
    go (some refusal) e = rw e h
call_told now batches (own (judge batch)) h = h
call_told now batches (own (take batch)) h =
    rw (took_list now.lent (batch_letter batch) (batch_acts now.lent batch)) (go now.since h)
  where
    go : (since : Option Since) → Sourced now.lent.lists batches (past_in since)
        → Sourced now.lent.lists (accepting (batch_answer now.lent batch) batch batches) (past_in (comes (after_take now.lent.lists batch (batch_answer now.lent batch)) since))
    go none h = none_came now.lent.lists (accepting (batch_answer now.lent batch) batch batches)
    go (some since) h = take_sourced now.lent.lists batch batches since.past h (batch_answer now.lent batch)
call_told now batches (own (list_gaps letter cells)) h = h
call_told now batches (own (write_off letter)) h = rw (off_list now.lent letter (off_refusal now.lent letter)) (go now.since h)
  where
    go : (since : Option Since) → Sourced now.lent.lists batches (past_in since)
        → Sourced now.lent.lists batches (past_in (comes (after_write_off now.lent.lists letter (off_answer now.lent letter)) since))
    go none h = none_came now.lent.lists batches
    go (some since) h = write_off_sourced now.lent.lists letter batches since.past h (off_answer now.lent letter)
call_told now batches (own (read_record item letter key level)) h = h
call_told now batches (own (write_message code level number key quote out)) h = h
call_told now batches (own (write_spread code level number key quote out)) h = h
call_told now batches (own (no_spreads list out)) h = h
call_told now batches (elsewhere lent c) h = h

all_told : (now : BoxNow) (batches : List (List ℕ)) (calls : List Made) → Told now batches → Told (all_after now calls) (all_batches now calls batches)
all_told now batches [] h = h
all_told now batches (c ∷ calls) h = all_told (after_call now c) (batches_after now c batches) calls (call_told now batches c h)

-- a message that was taken came
taken_came : (i first : ℕ) (past : List Event) (m : Message) → Memᴰ m (taken_of i first past) → Memᴰ (came i m) past
taken_came i first [] m among = absurd (Memᴰ.not-nil among)
taken_came i first (off j run ∷ past) m among = Memᴰ.tail (taken_came i first past m among)
taken_came i first (came j k ∷ past) m among = go (eqb j i) refl among (λ before. Memᴰ.tail (taken_came i first past m before))
  where
    new : j ≡ i → (Memᴰ m (taken_of i first past) → Memᴰ (came i m) (came j k ∷ past))
        → (t : Bool) → Memᴰ m (cond t (k ∷ taken_of i first past) (taken_of i first past)) → Memᴰ (came i m) (came j k ∷ past)
    new e rest true among = ⊎_elim (λ (f : m ≡ k). Memᴰ.head (λ x. came (sym e x) (f x))) rest (Memᴰ.cases_cons among)
    new e rest false among = rest among

    go : (t : Bool) → eqb j i ≡ t → Memᴰ m (cond t (taking first (wrote_off_in i past) k (taken_of i first past)) (taken_of i first past))
        → (Memᴰ m (taken_of i first past) → Memᴰ (came i m) (came j k ∷ past)) → Memᴰ (came i m) (came j k ∷ past)
    go false e among rest = rest among
    go true e among rest = new ((eqb_is j i).0 e) rest (comes_new first (taken_of i first past) (wrote_off_in i past) k) among

-- ---- the theorem

-- a record that is answered is that of a listed key
record_listed : {item : Item} {lent : Lent} {letter number : ℕ} {session : Session} {key : List ℕ} {level : Level} {answer : Recorded} {quote : QuoteFor item} → ReadsItem item lent letter key level answer quote
    → answer ≡ Recorded.Record number session
    → (i : ℕ) × (place : ℕ) × (segment_of lent.lists.contracts letter ≡ some i) × (place_in item lent.lists i key ≡ some place)
unfolding record_rules
record_listed {item} {lent} {letter} {number} {session} {key} {level} p e =
    let held : first_broken (record_rules item lent letter key) ≡ none = (accepted_by (first_broken (record_rules item lent letter key)) _ (1 ∷ number ∷ session_cell session ∷ []) (ap recorded_numbers (sym e) ∙ p.answers)).0 in
    let there = is_some_lem (key_place item lent.lists letter key) (last_held (segment_rules lent letter) _ held).1 in
    let found = key_found item lent.lists letter key there.0 there.1 in
    (found.0, there.0, found.1, found.2)

-- an update of a slot has that slot
pub own_slot : (slot : Slot) (what : Result What Fault) → is_of slot what ≡ true → slot_of (segment_in slot) what ≡ some slot
own_slot slot what is = go (slot_of (segment_in slot) what) refl is
  where
    go : (o : Option Slot) → slot_of (segment_in slot) what ≡ o → is_slot slot o ≡ true → slot_of (segment_in slot) what ≡ some slot
    go none e h = absurd (true≢false (sym h))
    go (some other) e h = e ∙ ap some (same_slot_lem other slot h)

module _ {starts : List ℕ} {lent : Lent} {past : List Event} (r : Reached starts lent past) where
  abbrev lists : Lists
  lists = lent.lists

  reached_told_lem : Sourced lists (batches_of r) past
  reached_told_lem =
      subst (λ (now : BoxNow). Told now (batches_of r)) r.reaches (all_told (unstarted r.memory) [] r.calls (none_came r.memory.lists []))

  -- a message that was taken is one of an accepted batch
  pub taken_from : (i : ℕ) (m : Message) → Memᴰ m (taken_of i (start_of starts i) past) → Source lists (batches_of r) i m
  taken_from i m taken = reached_told_lem i m (taken_came i (start_of starts i) past m taken)

  module _ (letter i : ℕ) (s : segment_of lists.contracts letter ≡ some i) (item : Item) (place : ℕ) (level : Level) where
    abbrev slot : Slot
    slot = record_slot item i place level

    sent : (key : List ℕ) → key_by (habit_of item) (file_of item lists) i place ≡ key → (m : Message) → Memᴰ m (taken_of i (start_of starts i) past) → is_of slot m.what ≡ true
        → ShownAsSent (batches_of r) item letter key level (sequence_number m) (session_of (form_sent m)) (shown item (form_sent m) m.cells)
    sent key key_is m taken of_slot =
        let source = taken_from i m taken in
        let from : ℕ = batch_letter source.batch in
        let bytes : List ℕ = source.bytes in
        let is : m ≡ message_of lists from bytes = source.is in
        let says : UpdateSays lists bytes m slot =
        subst (λ (k : Message). UpdateSays lists bytes k slot) (sym is)
        (update_says lists from i source.listed bytes slot (ap (λ (k : Message). slot_of i k.what) (sym is) ∙ own_slot slot m.what of_slot))
        in
        record {
          batch = source.batch;
          accepted = source.accepted;
          of_letter = sym (segment_has lists.contracts from i source.listed).1 ∙ (segment_has lists.contracts letter i s).1;
          bytes = bytes;
          in_batch = source.in_batch;
          number_is = says.number_is;
          key_is = says.key_is ∙ key_is;
          session_is = sym (session_by bytes (form_sent m) says.form_is);
          form = form_sent m;
          form_is = says.form_is;
          level_is = says.level_is;
          tells = says.tells;
          shows = says.shows;
        }

  -- what is answered of a record is what was sent
  pub shown_as_sent : (item : Item) (letter : ℕ) (key : List ℕ) (level : Level) (answer : Recorded) (quote : QuoteFor item) (number : ℕ) (session : Session) → ReadsItem item lent letter key level answer quote
      → answer ≡ Recorded.Record number session → ShownAsSent (batches_of r) item letter key level number session quote
  shown_as_sent item letter key level answer quote number session p e =
      let found = record_listed {item = item} {lent = lent} {key = key} {level = level} {quote = quote} p e in
      let i : ℕ = found.0 in
      let place : ℕ = found.1 in
      go i found.2 place (key_at_place (habit_of item) (file_of item lists) i key place found.3).1 (reads_key r item letter i found.2 key place found.3 level answer quote p)
    where
      go : (i : ℕ) → segment_of lists.contracts letter ≡ some i → (place : ℕ) → key_by (habit_of item) (file_of item lists) i place ≡ key
          → ReadsNewest (record_slot item i place level) (taken_of i (start_of starts i) past) answer quote → ShownAsSent (batches_of r) item letter key level number session quote
      go i s place key_is (no_record none_taken says shows) = let both : Recorded.NoRecord ≡ Recorded.Record number session = sym says ∙ e in absurd (clash (cc))
      go i s place key_is (a_record m newest says shows) =
          let both : Recorded.Record (sequence_number m) (session_of (form_sent m)) ≡ Recorded.Record number session = sym says ∙ e in
          let same : sequence_number m ≡ number = cc in
          let sent_in : session_of (form_sent m) ≡ session = cc in
          rw (← same, ← sent_in, shows) (sent letter i s item place level key key_is m newest.was_taken newest.of_slot)
