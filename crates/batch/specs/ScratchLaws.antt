-- Laws of scratch rows: what is copied or started is one, and on one the messages of a batch do what they do.
use Rattle.std.specs.Prelude.{ℕ, zero, suc, ◌<◌, ◌≡◌, refl, List, length, Ok, Err, Result}
use Rattle.std.proofs.Common.{ap, ap₂, sym, ◌∙◌, arith}
use Rattle.std.proofs.lemmas.Bool.{false≢true}
use Rattle.std.proofs.Math.Option.{Option, none, some}
use Rattle.laws.specs.Choice.{never}
use Rattle.files.specs.BelowLaws.{each_passes}
use Rattle.files.specs.File.{segments_of}
use Rattle.lookup.specs.Lookup.{segment_of}
use Rattle.lookup.specs.LookupLaws.{segment_has}
use Rattle.pairs.specs.Lists.{Lists, Headers}
use Rattle.slots.specs.declared.records.Fronts.{Fronts}
use Rattle.message.specs.declared.body.What.{What}
use Rattle.message.specs.declared.body.What.TheVariants as what
use Rattle.head.specs.declared.head.Fault.{Fault}
use Rattle.head.specs.Fields.{segment_letter_of}
use Rattle.head.specs.HeadLaws.{listed_exact}
use Rattle.message.specs.Reads.{message_of}
use Rattle.message.specs.Numbers.{verdict_of}
use Rattle.message.proofs.GoodLaws.{good_exact}
use Rattle.sequence.specs.Promises.{Began}
use Rattle.sequence.specs.PromisesLaws.{began_row}
use Rattle.sequence.specs.RowLaid.{sound_gap_row}
use Rattle.turns.specs.declared.act.InTurn.{InTurn}
use Rattle.state.specs.declared.answers.Judged.{Judged}
use Rattle.state.specs.declared.answers.Judged.TheVariants.{Accepted, Refused}
use Rattle.state.specs.declared.refusal.Refusal.{Refusal}
use Rattle.turns.specs.Acts.{box_at, InFront, Ready, Left, JudgedMessages, none as no_counts}
use Rattle.turns.specs.ActsLaws.{acts_as_lem}
use Rattle.state.specs.Answers.{judged_numbers}
use Rattle.turns.specs.Compared.{compared_in, reached_by, counted_numbers}
use Rattle.turns.specs.Turns.{Box, Acted, acted, refused, message_acts, messages_act}
use Rattle.batch.specs.Acts.{box_of, lent_after}
use Rattle.state.specs.Memory.{lends, gap_row_in, gap_row_of}
use Rattle.state.specs.MemoryRows.{with_gap_row_of_letter}
use Rattle.turns.specs.ComparedLaws.{not_both}
use Rattle.turns.proofs.MessagesLaws.{messages_refused}
use Rattle.state.specs.Refusals.{of_fault}
use Rattle.batch.specs.BatchLaws.{accepted_box, refused_is}
use Rattle.batch.specs.Scratch.{RowsReady, RowReady, ScratchRow, data_acts, data_numbers, JudgedData, TookData}
use Rattle.stores.specs.Stores.{made, Room}

module _ (lists : Lists) (letter : ℕ) (unlisted : segment_of lists.contracts letter ≡ none) where
  -- 5 or 6: where no segment has the letter no message is good
  pub never_good : (bytes : List ℕ) → verdict_of (message_of lists letter bytes).what ≡ Ok tt → ⊥
  never_good bytes g =
      let l = (listed_exact lists.contracts letter).1 ((good_exact lists letter bytes).0 g).code.listed in
      false≢true (rw unlisted at l)

  refuses : (bytes : List ℕ) (i : ℕ) → (refusal : Refusal) × ((box : Box) → message_acts lists letter box i bytes ≡ refused refusal)
  refuses bytes i = go (message_of lists letter bytes).what refl
    where
      go : (w : Result What Fault) → (message_of lists letter bytes).what ≡ w → (refusal : Refusal) × ((box : Box) → message_acts lists letter box i bytes ≡ refused refusal)
      go (Err fault) e = (of_fault fault i, λ box. acts_as_lem lists letter bytes (message_of lists letter bytes) refl e box i)
      go (Ok _) e = absurd (never_good bytes (ap verdict_of e))

  -- so that the box doesn't matter
  any_box : (count : ℕ) (bytes : List ℕ) (box box' : Box) → 0 < count → messages_act count lists letter 0 box bytes ≡ messages_act count lists letter 0 box' bytes
  any_box zero bytes box box' h = absurd (omega arith)
  any_box (suc more) bytes box box' h =
      let r = refuses bytes 0 in
      messages_refused lists letter more 0 box bytes r.0 (r.1 box) ∙ sym (messages_refused lists letter more 0 box' bytes r.0 (r.1 box'))

  -- and no batch is accepted
  pub none_accepted : (count : ℕ) (bytes : List ℕ) (box final : Box) → 0 < count → messages_act count lists letter 0 box bytes ≡ acted final → ⊥
  none_accepted zero bytes box final h e = omega arith
  none_accepted (suc more) bytes box final h e =
      let r = refuses bytes 0 in
      not_both (sym (messages_refused lists letter more 0 box bytes r.0 (r.1 box)) ∙ e)

pub row_ready : (lists : Lists) (rows : List ℕ) (letter : ℕ) → RowsReady lists rows → RowReady rows (segment_of lists.contracts letter)
row_ready lists rows letter ready i listed =
    let inside = (segment_has lists.contracts letter i listed).0 in
    (omega (arith, inside, ready.enough), each_passes (λ i. sound_gap_row (gap_row_of rows i)) (segments_of lists.contracts) ready.sound i inside)

-- where a segment's records begin and its row are what the messages of its letter are judged with
pub front_ready : (lists : Lists) (letter : ℕ) (fronts : Fronts) (rows row stores : List ℕ) (segment : Option ℕ) → segment ≡ segment_of lists.contracts letter
    → Headers lists → InFront lists segment fronts → ScratchRow rows segment row → Ready lists letter segment fronts row stores 0
front_ready lists letter fronts rows row stores segment is headers front scratch =
    record { headers = headers; segment_is = is; fronts_are = rw is at front; sound = scratch.sound; within = omega arith }

module _ (rows : List ℕ) (segment : Option ℕ) where
  pub row_copied : RowReady rows segment → (i : ℕ) → segment ≡ some i → (row : List ℕ) → row ≡ gap_row_of rows i → ScratchRow rows segment row
  row_copied ready i listed row e =
      record { sound = rw e (ready i listed).1; is = λ other f. let same : i ≡ other = cc in e ∙ ap (gap_row_of rows) same }

  pub row_started : segment ≡ none → (row : List ℕ) → Began 1 row → ScratchRow rows segment row
  row_started unlisted row b = record { sound = began_row (omega arith) b; is = λ i e. absurd (never (sym unlisted ∙ e)) }

module _ (lists : Lists) (rows : List ℕ) (letter : ℕ) where
  -- on scratch the messages do what they do to the box
  module _ (row bytes : List ℕ) (count : ℕ) (s : ScratchRow rows (segment_of lists.contracts letter) row) (h : 0 < count) (e : letter ≡ segment_letter_of bytes) where
    scratch_acts : (records : List ℕ) → messages_act count lists letter 0 (box_at row records no_counts) bytes ≡ data_acts (lends lists rows records) bytes count
    scratch_acts records = go (segment_of lists.contracts letter) refl ∙ ap (λ (l : ℕ). messages_act count lists l 0 (box_of (lends lists rows records) l) bytes) e
      where
        go : (o : Option ℕ) → segment_of lists.contracts letter ≡ o → messages_act count lists letter 0 (box_at row records no_counts) bytes ≡ messages_act count lists letter 0 (box_of (lends lists rows records) letter) bytes
        go none f = any_box lists letter f count bytes (box_at row records no_counts) (box_of (lends lists rows records) letter) h
        go (some segment) f = ap (λ (r : List ℕ). messages_act count lists letter 0 (box_at r records no_counts) bytes) (s.is segment f ∙ sym (ap (gap_row_in rows) f))

    module _ (cells : ℕ) (turn : InTurn) (row' stores' : List ℕ) (j : JudgedMessages lists letter row cells bytes count turn row' stores') where
      pub scratch_judged : JudgedData lists rows bytes count turn.answer
      scratch_judged =
          record {
            answers = λ records.
                j.answers records
                ∙ ap₂ (λ (a : Acted) (l : ℕ). counted_numbers a (compared_in (reached_by count a) lists l bytes)) (scratch_acts records) e;
          }

      module _ (records : List ℕ) where
        answered : {answer : Judged} → turn.answer ≡ answer → judged_numbers answer ≡ data_numbers (lends lists rows records) bytes count
        answered f = ap judged_numbers (sym f) ∙ scratch_judged.answers records

        -- a refusal leaves everything
        pub scratch_refused : (refusal : Refusal) {compared : ℕ} → turn.answer ≡ Refused refusal compared → TookData (lends lists rows records) bytes count turn.answer (lends lists rows records)
        scratch_refused refusal f =
            let r = refused_is (data_acts (lends lists rows records) bytes count) _ refusal _ (answered f) in
            record {
              answers = scratch_judged.answers records;
              left = ap (lent_after (lends lists rows records) (segment_letter_of bytes)) (sym r.1);
            }

        module _ {taken old heartbeats compared : ℕ} (f : turn.answer ≡ Accepted taken old heartbeats compared) where
          pub scratch_left : (box : Box) × (data_acts (lends lists rows records) bytes count ≡ acted box) × Left lists (Room cells (length bytes)) records box turn.kept row' stores'
          scratch_left = let d = accepted_box (data_acts (lends lists rows records) bytes count) _ (answered f) in (d.0, d.1, j.leaves records d.0 (scratch_acts records ∙ d.1))

          -- the row put back and the stores made are what the messages do
          pub scratch_taken : Room cells (length bytes)
              → TookData (lends lists rows records) bytes count turn.answer (lends lists (with_gap_row_of_letter lists letter rows row') (made turn.kept stores' records))
          scratch_taken room =
              let l = scratch_left in
              let put : with_gap_row_of_letter lists letter rows row' ≡ with_gap_row_of_letter lists (segment_letter_of bytes) rows l.0.row =
              ap (with_gap_row_of_letter lists letter rows) (sym l.2.row_is) ∙ ap (λ (n : ℕ). with_gap_row_of_letter lists n rows l.0.row) e in
              record {
                answers = scratch_judged.answers records;
                left = ap₂ (lends lists) put (sym (l.2.records_are room)) ∙ ap (lent_after (lends lists rows records) (segment_letter_of bytes)) (sym l.1);
              }
