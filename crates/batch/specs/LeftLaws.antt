-- What an accepted batch leaves: as many messages counted as it has, and a state that is good again.
use Rattle.std.specs.Prelude.{ℕ, zero, suc, ◌+◌, ◌*◌, ◌≤◌, ◌<◌, ◌≡◌, refl, true, List, length, drop, Ok, Err, Result}
use Rattle.std.proofs.Common.{ap, sym, ◌∙◌, ⊎_elim, arith}
use Rattle.std.proofs.Math.Option.{Option, none, some}
use Rattle.files.specs.File.{segments_of}
use Rattle.lookup.specs.Lookup.{segment_of}
use Rattle.lookup.specs.LookupLaws.{segment_has}
use Rattle.pairs.specs.Lists.{Lists, Headers}
use Rattle.laws.specs.Order.{order}
use Rattle.message.specs.declared.body.What.{What}
use Rattle.message.specs.declared.body.What.TheVariants as what
use Rattle.head.specs.declared.head.Fault.{Fault}
use Rattle.head.specs.Fields.{length_of}
use Rattle.message.specs.Reads.{message_of}
use Rattle.message.specs.Numbers.{verdict_of}
use Rattle.sequence.specs.Row.{gaps_of}
use Rattle.sequence.specs.RowLaid.{sound_gap_row}
use Rattle.sequence.specs.RowLaws.{sound_row_exactly}
use Rattle.turns.specs.ActsLaws.{acts_as_lem}
use Rattle.turns.specs.Turns.{Box, acted, message_acts, messages_act}
use Rattle.batch.specs.Batch.{batch_letter, count_of, batch_data}
use Rattle.batch.specs.Acts.{batch_acts, box_of, lent_after}
use Rattle.state.specs.Memory.{Lent, gap_row_in, gap_row_cells, gap_rows_wanted, SameBehind}
use Rattle.state.specs.MemoryRows.{with_gap_row_in}
use Rattle.slots.specs.Slots.{records_wanted}
use Rattle.batch.specs.BatchLaws.{good_state, good_front, messages_accepted}
use Rattle.batch.specs.Good.{gaps_after}
use Rattle.state.specs.GoodState.{GoodState}
use Rattle.state.specs.RowsLaws.{length_with, behind_kept, sound_with}
use Rattle.turns.specs.ComparedLaws.{not_both}
use Rattle.turns.proofs.MessagesLaws.{messages_next, messages_refused, messages_end, messages_over}
use Rattle.batch.specs.ScratchLaws.{none_accepted}
use Rattle.batch.specs.StepLaws.{messages_in, KeptBehind, all_kept, Went, Fell, good_goes}

-- ---- the box

pub record Leaves (wanted count : ℕ) (before after : Box) : Type 0 where
  pub sound : sound_gap_row after.row ≡ true
  pub counts : messages_in after ≡ messages_in before + count
  pub records_kept : KeptBehind wanted before.records after.records

module _ (lists : Lists) (letter : ℕ) where
  pub last_box : (i : ℕ) (box : Box) (bytes : List ℕ) (final : Box) → messages_act 0 lists letter i box bytes ≡ acted final → box ≡ final
  last_box i box bytes final e =
      ⊎_elim (λ (h : length bytes ≤ 0). let same : acted box ≡ acted final = sym (messages_end lists letter i box bytes (omega arith)) ∙ e in cc)
      (λ (h : 0 < length bytes). absurd (not_both (sym (messages_over lists letter i box bytes h) ∙ e)))
      (order (length bytes) 0)

  pub messages_leave : Headers lists → (count i : ℕ) (box : Box) (bytes : List ℕ) (final : Box) → sound_gap_row box.row ≡ true
      → messages_act count lists letter i box bytes ≡ acted final → Leaves (records_wanted lists) count box final
  messages_leave headers zero i box bytes final s e =
      rw (← last_box i box bytes final e) (record { sound = s; counts = omega arith; records_kept = all_kept (records_wanted lists) box.records })
  messages_leave headers (suc more) i box bytes final s e =
      go (λ box' sound f. messages_leave headers more (suc i) box' (drop (length_of bytes) bytes) final sound f) (message_of lists letter bytes).what refl
    where
      Behind : Type 0
      Behind = (box' : Box) → sound_gap_row box'.row ≡ true → messages_act more lists letter (suc i) box' (drop (length_of bytes) bytes) ≡ acted final → Leaves (records_wanted lists) more box' final

      good : Behind → verdict_of (message_of lists letter bytes).what ≡ Ok tt → Leaves (records_wanted lists) (suc more) box final
      good rest g =
          ⊎_elim (λ (d : Went (records_wanted lists) box (message_acts lists letter box i bytes) (gaps_after (gaps_of box.row) bytes)).
          let l = rest d.box d.sound (sym (messages_next lists letter more i box bytes d.box d.acts) ∙ e) in
          record {
            sound = l.sound;
            counts = omega (arith, l.counts, d.counts);
            records_kept =
                record {
                  as_many = l.records_kept.as_many ∙ d.records_kept.as_many;
                  behind = l.records_kept.behind ∙ d.records_kept.behind;
                };
          })
          (λ (d : Fell i (message_acts lists letter box i bytes) (gaps_after (gaps_of box.row) bytes)).
          absurd (not_both (sym (messages_refused lists letter more i box bytes _ d.refuses) ∙ e)))
          (good_goes lists headers letter box i bytes g s)

      go : Behind → (w : Result What Fault) → (message_of lists letter bytes).what ≡ w → Leaves (records_wanted lists) (suc more) box final
      go rest (Err fault) f =
          absurd (not_both (sym (messages_refused lists letter more i box bytes _ (acts_as_lem lists letter bytes (message_of lists letter bytes) refl f box i)) ∙ e))
      go rest (Ok _) f = good rest (ap verdict_of f)

-- ---- the batch

module _ (lent : Lent) (batch : List ℕ) (box : Box) (accepted : batch_acts lent batch ≡ acted box) where
  abbrev letter : ℕ
  letter = batch_letter batch

  state : GoodState lent
  state = good_state lent batch box accepted

  pub is_listed : (segment : ℕ) × (segment_of lent.lists.contracts letter ≡ some segment)
  is_listed = go (segment_of lent.lists.contracts letter) refl
    where
      go : (o : Option ℕ) → segment_of lent.lists.contracts letter ≡ o → (segment : ℕ) × (segment_of lent.lists.contracts letter ≡ some segment)
      go none e =
          absurd (none_accepted lent.lists letter e (count_of batch) (batch_data batch) (box_of lent letter) box (good_front lent batch box accepted).some_messages (messages_accepted lent batch box accepted))
      go (some segment) e = (segment, e)

  leaves : Leaves (records_wanted lent.lists) (count_of batch) (box_of lent letter) box
  leaves =
      let l = is_listed in
      messages_leave lent.lists letter state.headers (count_of batch) 0 (box_of lent letter) (batch_data batch) box
      (rw (ap (gap_row_in lent.rows) l.1) (state.rows_sound l.0 (segment_has lent.lists.contracts letter l.0 l.1).0))
      (messages_accepted lent batch box accepted)

  -- taken, old and heartbeats are all of its messages
  pub all_counted : box.taken + box.old + box.heartbeats ≡ count_of batch
  all_counted = omega (arith, leaves.counts)

  inside : gap_row_cells * is_listed.0 + gap_row_cells ≤ gap_rows_wanted lent.lists
  inside = omega (arith, (segment_has lent.lists.contracts letter is_listed.0 is_listed.1).0)

  room : gap_row_cells * is_listed.0 + gap_row_cells ≤ length lent.rows
  room = omega (arith, inside, state.rows_lent)

  wide : length box.row ≡ gap_row_cells
  wide = ((sound_row_exactly box.row).0 leaves.sound).0

  -- behind the cells wanted all are as they were
  pub behind_left : SameBehind lent (lent_after lent letter (acted box))
  behind_left =
      record {
        rows_behind =
            ap (λ (o : Option ℕ). drop (gap_rows_wanted lent.lists) (with_gap_row_in lent.rows box.row o)) is_listed.1
            ∙ behind_kept lent.rows is_listed.0 box.row room wide (gap_rows_wanted lent.lists) inside;
        records_behind = leaves.records_kept.behind;
      }

  -- what it leaves passes 15, 16 and 18 again
  pub state_left : GoodState (lent_after lent letter (acted box))
  state_left =
      let l = is_listed in
      let long = length_with lent.rows l.0 box.row room wide in
      rw (ap (with_gap_row_in lent.rows box.row) l.1)
      (record {
        headers = state.headers;
        rows_lent = omega (arith, state.rows_lent, long);
        records_lent = omega (arith, state.records_lent, leaves.records_kept.as_many);
        rows_sound = sound_with lent.rows l.0 box.row room wide (segments_of lent.lists.contracts) state.rows_sound leaves.sound;
      })
