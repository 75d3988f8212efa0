-- Judged first; the row put back and the stores made where every message has passed.
use Rattle.std.proofs.Common.{◌≡◌, refl, sym, ◌∙◌}
use Rattle.pairs.specs.Lists.{lists}
use Rattle.laws.specs.Refused.{code_no}
use Rattle.lookup.specs.Answers.{place_of}
use Rattle.lookup.specs.AnswersLaws.{found_told}
use Rattle.lookup.specs.Lookup.{segment_of}
use Rattle.sequence.specs.RowLaws.{sound_row_exactly}
use Rattle.batch.specs.ScratchLaws.{row_ready, scratch_left, scratch_taken, scratch_refused}
use Rattle.stores.specs.StoresLaws.{all_fit}
use Rattle.batch.proofs.batch.take_on.Goals as goal

pub copy_row_in-requires : goal.copy_row_in-requires
copy_row_in-requires c =
    let segment_is : place_of c.segment_of-segment.result ≡ segment_of c.args.list.now c.segment_letter_of-letter.result = found_told code_no c.segment_of-segment.result _ c.segment_of-segment.ensures in
    ((λ i e. row_ready (lists c.args.list.now c.args.spreads.now) c.args.rows.now c.segment_letter_of-letter.result c.requires.0.rows_ready i (sym segment_is ∙ e)), refl)

pub put_row_in-requires : goal.put_row_in-requires
put_row_in-requires c =
    let segment_is : place_of c.segment_of-segment.result ≡ segment_of c.args.list.now c.segment_letter_of-letter.result = found_told code_no c.segment_of-segment.result _ c.segment_of-segment.ensures in
    let left =
    scratch_left _ _ _ _ _ _ (rw segment_is at c.copy_row_in.ensures) c.requires.0.some_messages c.segment_letter_of-letter.ensures _ _ _ _ c.judge_messages-turn.ensures c.args.records.now c.in-Accepted.is in (
      (λ i e. row_ready (lists c.args.list.now c.args.spreads.now) c.args.rows.now c.segment_letter_of-letter.result c.requires.0.rows_ready i (sym segment_is ∙ e)),
      ((sound_row_exactly c.judge_messages-turn.new.row).0 left.2.sound).0,
    )

pub make_all-requires : goal.make_all-requires
make_all-requires c =
    let segment_is : place_of c.segment_of-segment.result ≡ segment_of c.args.list.now c.segment_letter_of-letter.result = found_told code_no c.segment_of-segment.result _ c.segment_of-segment.ensures in
    let left =
    scratch_left _ _ _ _ _ _ (rw segment_is at c.copy_row_in.ensures) c.requires.0.some_messages c.segment_letter_of-letter.ensures _ _ _ _ c.judge_messages-turn.ensures c.args.records.now c.in-Accepted.is in
    (left.2.within, all_fit _ _ c.requires.1 _ _ left.2.fit)

pub returns-in-Accepted : goal.returns-in-Accepted
returns-in-Accepted c =
    let segment_is : place_of c.segment_of-segment.result ≡ segment_of c.args.list.now c.segment_letter_of-letter.result = found_told code_no c.segment_of-segment.result _ c.segment_of-segment.ensures in
    rw (c.put_row_in.ensures, segment_is, c.make_all.ensures)
    (scratch_taken _ _ _ _ _ _ (rw segment_is at c.copy_row_in.ensures) c.requires.0.some_messages c.segment_letter_of-letter.ensures _ _ _ _ c.judge_messages-turn.ensures c.args.records.now c.in-Accepted.is c.requires.2)

pub returns-in_default : goal.returns-in_default
returns-in_default c =
    let segment_is : place_of c.segment_of-segment.result ≡ segment_of c.args.list.now c.segment_letter_of-letter.result = found_told code_no c.segment_of-segment.result _ c.segment_of-segment.ensures in
    scratch_refused _ _ _ _ _ _ (rw segment_is at c.copy_row_in.ensures) c.requires.0.some_messages c.segment_letter_of-letter.ensures _ _ _ _ c.judge_messages-turn.ensures c.args.records.now _ c.in_default.is
