-- Every call keeps what holds, and so it holds after every history.
use Rattle.std.specs.Prelude.{ℕ, ◌+◌, ◌*◌, ◌≤◌, ◌<◌, ◌≡◌, refl, true, ◌||◌, List, [], ◌∷◌, length, Ok, Err}
use Rattle.std.proofs.Common.{sym, ap, subst, ◌∙◌, ⊎_elim, arith, eq-eqb, ne_eqb, ltb-true}
use Rattle.std.proofs.Math.Path.{fun_ext}
use Rattle.std.proofs.Math.Option.{Option, none, some}
use Rattle.std.proofs.Math.Dec.{ltb}
use Rattle.laws.specs.Rules.{first_broken}
use Rattle.laws.specs.RulesLaws.{last_held}
use Rattle.laws.specs.Order.{same}
use Rattle.files.specs.File.{segments_of}
use Rattle.lookup.specs.Lookup.{segment_of}
use Rattle.lookup.specs.LookupLaws.{segment_has}
use Rattle.pairs.specs.Lists.{Lists}
use Rattle.sequence.specs.Runs.{Run, ◌to◌, run, names}
use Rattle.sequence.specs.Answers.{write_off_answer, lowest, written_off}
use Rattle.sequence.specs.Row.{gaps_of}
use Rattle.sequence.specs.RowLaws.{sound_row_exactly}
use Rattle.message.specs.Message.{Message}
use Rattle.state.specs.Answers.{WrittenOff, run_told}
use Rattle.state.specs.declared.refusal.Refusal.TheVariants.{NoGap}
use Rattle.state.specs.declared.answers.Judged.{Judged}
use Rattle.state.specs.declared.answers.Judged.TheVariants as judged
use Rattle.turns.specs.Turns.{Box, acted}
use Rattle.batch.specs.Batch.{batch_letter, count_of, batch_data}
use Rattle.batch.specs.Acts.{batch_acts, box_of, lent_after}
use Rattle.state.specs.Memory.{Lent, lends, gap_row_in, gap_row_cells, gap_row_of}
use Rattle.state.specs.MemoryRows.{with_gap_row_in, with_gap_row}
use Rattle.batch.specs.BatchLaws.{accepted_box, messages_accepted}
use Rattle.batch.specs.LeftLaws.{is_listed}
use Rattle.state.specs.AnswersLaws.{accepted_by}
use Rattle.starting.specs.StartPromises.{StartedBox}
use Rattle.listing.specs.ListPromises.{WroteOffRun}
use Rattle.listing.specs.ListPromisesLaws.{off_refusal_lem, answers_lowest, gaps_written_off, others_kept, off_all, off_leaves}
use Rattle.starting.specs.StartPromisesLaws.{start_good, start_left, gaps_started, start_leaves, no_records}
use Rattle.listing.specs.ListActsLaws.{gaps_are}
use Rattle.listing.specs.ListActs.{run_values, lowest_run}
use Rattle.listing.specs.ListRules.{gaps_of_letter, write_off_rules}
use Rattle.state.specs.GoodState.{GoodState}
use Rattle.batch.specs.Promises.{TookBatch}
use Rattle.state.specs.RowsLaws.{row_put, row_kept}
use Rattle.starting.specs.Start.{start_of}
use Rattle.state.specs.State.{segment_rules}
use Rattle.state.specs.StateLaws.{is_some_lem, letter_listed}
use Rattle.batch.proofs.TookLaws.{refused_keeps, state_good}
use Rattle.history.specs.Past.{Event, came, off, all_came, came_in, off_in, batch_messages, taken_of, wrote_off_in, after_take, after_write_off}
use Rattle.history.specs.Segment.{Fits}
use Rattle.history.proofs.SegmentLaws.{fits_begun, fits_off}
use Rattle.history.specs.Turn.{BoxFits, Turned}
use Rattle.history.proofs.TurnLaws.{messages_turn}
use Rattle.history.specs.Histories.{Reached}
use Rattle.history.proofs.HistoriesLaws.{by_steps}
use Rattle.history.specs.Holds.{Holds}

-- ---- a start

pub start_holds : {lent lent' : Lent} {starts : List ℕ} → StartedBox lent starts (Ok tt) lent' → Holds starts lent' []
start_holds {lent} {lent'} {starts} p =
    let same_lists : lent'.lists ≡ lent.lists = ap (λ (l : Lent). l.lists) (start_left p) in
    record {
      lists_sound = rw same_lists (start_good p).lists_sound;
      state = start_leaves p;
      gaps_fit = rw same_lists λ i there. rw (gaps_started p i there) (fits_begun (start_of starts i) ((start_good p).started i there));
      records_fit = rw same_lists λ slot there. no_records p slot there;
    }

-- ---- what messages of one segment leave of another's past

taken_others : (i j start : ℕ) → (j ≡ i → ⊥) → (ms : List Message) (past : List Event) → taken_of i start (all_came j ms past) ≡ taken_of i start past
taken_others i j start n [] past = refl
taken_others i j start n (m ∷ ms) past = taken_others i j start n ms (came j m ∷ past) ∙ rw (ne_eqb j i n)

off_same : (i j : ℕ) (ms : List Message) (past : List Event) → wrote_off_in i (all_came j ms past) ≡ wrote_off_in i past
off_same i j [] past = refl
off_same i j (m ∷ ms) past = off_same i j ms (came j m ∷ past)

-- ---- a batch that is accepted

module _ {lent : Lent} {starts : List ℕ} {past : List Event} (h : Holds starts lent past) (batch : List ℕ) where
  abbrev letter : ℕ
  letter = batch_letter batch

  abbrev lists : Lists
  lists = lent.lists

  abbrev ms : List Message
  ms = batch_messages lists batch

  module _ (i : ℕ) (s : segment_of lists.contracts letter ≡ some i) where
    pub box_before : BoxFits lists starts i past (box_of lent letter)
    box_before =
        let there = (segment_has lists.contracts letter i s).0 in
        let row : gap_row_in lent.rows (segment_of lists.contracts letter) ≡ gap_row_of lent.rows i = ap (gap_row_in lent.rows) s in
        record {
          headers = h.state.headers;
          row_sound = rw row (h.state.rows_sound i there);
          gaps_fit = rw row (h.gaps_fit i there);
          records_fit = h.records_fit;
          records_long = h.state.records_lent;
        }

  module _ (box : Box) (acts : batch_acts lent batch ≡ acted box) where
    module _ (i : ℕ) (s : segment_of lists.contracts letter ≡ some i) where
      pub batch_turned : Turned lists starts i past (box_of lent letter) ms box
      batch_turned =
          messages_turn lists starts letter i s (count_of batch) 0 past (box_of lent letter) (batch_data batch) box (box_before i s)
          (messages_accepted lent batch box acts)

      left_is : lent_after lent letter (acted box) ≡ lends lists (with_gap_row lent.rows i box.row) box.records
      left_is = ap (λ (o : Option ℕ). lends lists (with_gap_row_in lent.rows box.row o) box.records) s

      pub batch_holds : {lent' : Lent} → lent' ≡ lends lists (with_gap_row lent.rows i box.row) box.records → GoodState lent' → Holds starts lent' (all_came i ms past)
      batch_holds {lent'} e state =
          let same_lists : lent'.lists ≡ lists = ap (λ (l : Lent). l.lists) e in
          record {
            lists_sound = rw same_lists h.lists_sound;
            state = state;
            gaps_fit = rw same_lists gaps;
            records_fit = rw (same_lists, ap (λ (l : Lent). l.records) e) batch_turned.fits.records_fit;
          }
        where
          rows_are : lent'.rows ≡ with_gap_row lent.rows i box.row
          rows_are = ap (λ (l : Lent). l.rows) e

          wide : length box.row ≡ gap_row_cells
          wide = ((sound_row_exactly box.row).0 batch_turned.fits.row_sound).0

          room : gap_row_cells * i + gap_row_cells ≤ length lent.rows
          room = omega (arith, (segment_has lists.contracts letter i s).0, h.state.rows_lent)

          gaps : (j : ℕ) → j < segments_of lists.contracts
              → Fits (start_of starts j) (taken_of j (start_of starts j) (all_came i ms past)) (wrote_off_in j (all_came i ms past)) (gaps_of (gap_row_of lent'.rows j))
          gaps j there =
              ⊎_elim (λ (f : i ≡ j). rw (rows_are, ← f, row_put lent.rows i box.row room wide) batch_turned.fits.gaps_fit)
              (λ (n : i ≡ j → ⊥).
              rw (rows_are, row_kept lent.rows i box.row room wide j (λ f. n (sym f)), taken_others j i (start_of starts j) n ms past, off_same j i ms past)
              (h.gaps_fit j there))
              (same i j)

  -- whatever a batch is answered
  pub take_holds : (answer : Judged) {lent' : Lent} → TookBatch lent batch answer lent' → Holds starts lent' (after_take lists batch answer past)
  take_holds (judged.Accepted taken old heartbeats compared) {lent'} t =
      let did = accepted_box (batch_acts lent batch) _ t.answers in
      let l = is_listed lent batch did.0 did.1 in
      subst (λ (o : Option ℕ). Holds starts lent' (came_in o ms past)) (sym l.1)
      (batch_holds did.0 did.1 l.0 l.1
      (t.left ∙ ap (lent_after lent letter) did.1 ∙ left_is did.0 did.1 l.0 l.1)
      (state_good lent batch taken old heartbeats compared lent' t))
  take_holds (judged.Refused refusal compared) {lent'} t = rw (refused_keeps lent batch refusal lent' t) h

-- ---- a write-off

lowest_there : (runs : List Run) (a b : ℕ) → 0 < length runs → a ≡ (run runs 0).first → b ≡ (run runs 0).last → lowest runs ≡ written_off a b
lowest_there [] a b l first last = absurd (omega arith)
lowest_there (r ∷ rs) a b l first last = rw (first, last)

pub off_here : (i : ℕ) (r : Run) (past : List Event) → wrote_off_in i (off i r ∷ past) ≡ (λ n. names r n || wrote_off_in i past n)
off_here i r past = fun_ext (λ n. rw (eq-eqb i i refl))

pub off_elsewhere : (i j : ℕ) (r : Run) (past : List Event) → (j ≡ i → ⊥) → wrote_off_in i (off j r ∷ past) ≡ wrote_off_in i past
off_elsewhere i j r past n = fun_ext (λ k. rw (ne_eqb j i n))

module _ {lent lent' : Lent} {letter : ℕ} (first last : ℕ) (p : WroteOffRun lent letter (run_told first last) lent') where
  held : first_broken (write_off_rules lent letter) ≡ none
  held =
      (accepted_by (first_broken (write_off_rules lent letter)) (run_values (lowest_run (gaps_of_letter lent letter))) (first ∷ last ∷ []) p.answers).0

  both_held : (first_broken (segment_rules lent letter) ≡ none) × (ltb 0 (length (gaps_of_letter lent letter).runs) ≡ true)
  unfolding write_off_rules
  both_held = last_held (segment_rules lent letter) (record { holds = ltb 0 (length (gaps_of_letter lent letter).runs); refusal = NoGap }) held

  pub off_listed : (i : ℕ) × (segment_of lent.lists.contracts letter ≡ some i)
  off_listed = is_some_lem (segment_of lent.lists.contracts letter) (letter_listed lent letter both_held.0)

  pub off_answer_lem : (i : ℕ) → segment_of lent.lists.contracts letter ≡ some i → write_off_answer (gaps_of (gap_row_of lent.rows i)) ≡ written_off first last
  unfolding write_off_answer
  off_answer_lem i s =
      let low = answers_lowest first last p in
      rw (← gaps_are lent letter both_held.0 i s)
      (lowest_there (gaps_of_letter lent letter).runs first last (ltb-true 0 _ both_held.1) low.0 low.1)

  module _ {starts : List ℕ} {past : List Event} (h : Holds starts lent past) (i : ℕ) (s : segment_of lent.lists.contracts letter ≡ some i) where
    off_gaps : (j : ℕ) → j < segments_of lent.lists.contracts
        → Fits (start_of starts j) (taken_of j (start_of starts j) past) (wrote_off_in j (off i (first to last) ∷ past)) (gaps_of (gap_row_of lent'.rows j))
    off_gaps j there =
        ⊎_elim (λ (e : i ≡ j).
        rw (← e, gaps_written_off first last p i s, off_here i (first to last) past)
        (fits_off (start_of starts i) (taken_of i (start_of starts i) past) (wrote_off_in i past) (gaps_of (gap_row_of lent.rows i)) (rw e (h.gaps_fit j there)) first last (off_answer_lem i s)))
        (λ (n : i ≡ j → ⊥).
        rw (off_elsewhere j i (first to last) past n, others_kept first last p i s j (λ e. n (sym e)))
        (h.gaps_fit j there))
        (same i j)

    removed_holds : Holds starts lent' (off i (first to last) ∷ past)
    removed_holds =
        let all = off_all first last p i s in
        let same_lists : lent'.lists ≡ lent.lists = ap (λ (l : Lent). l.lists) all in
        record {
          lists_sound = rw same_lists h.lists_sound;
          state = off_leaves first last p i s;
          gaps_fit = rw same_lists off_gaps;
          records_fit = rw (same_lists, ap (λ (l : Lent). l.records) all) h.records_fit;
        }

-- whatever a write-off is answered
pub off_holds : {lent lent' : Lent} {starts : List ℕ} {past : List Event} → Holds starts lent past → (letter : ℕ) (a : WrittenOff)
    → WroteOffRun lent letter a lent' → Holds starts lent' (after_write_off lent.lists letter a past)
off_holds {lent} {lent'} {starts} {past} h letter (Ok run) p =
    let l = off_listed run.first run.last p in
    subst (λ (o : Option ℕ). Holds starts lent' (off_in o (run.first to run.last) past)) (sym l.1) (removed_holds run.first run.last p h l.0 l.1)
off_holds h letter (Err refusal) p = rw (off_refusal_lem refusal p).1 h

-- ---- every history

pub reached_holds : {starts : List ℕ} {lent : Lent} {past : List Event} → Reached starts lent past → Holds starts lent past
reached_holds =
    by_steps Holds
    (record {
      begins = λ starts lent lent' p. start_holds p;
      takes = λ starts lent lent' past h batch answer p. take_holds h batch answer p;
      writes_off = λ starts lent lent' past h letter answer p. off_holds h letter answer p;
    })
