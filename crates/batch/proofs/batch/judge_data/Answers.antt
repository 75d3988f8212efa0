-- On a scratch row of the batch's segment.
use Rattle.std.proofs.Common.{◌≡◌, refl, sym, ◌∙◌}
use Rattle.pairs.specs.Lists.{lists}
use Rattle.laws.specs.Refused.{code_no}
use Rattle.lookup.specs.Answers.{place_of}
use Rattle.lookup.specs.AnswersLaws.{found_told}
use Rattle.lookup.specs.Lookup.{segment_of}
use Rattle.batch.specs.ScratchLaws.{row_ready, scratch_judged}
use Rattle.batch.proofs.batch.judge_data.Goals as goal

pub copy_row_in-requires : goal.copy_row_in-requires
copy_row_in-requires c =
    let segment_is : place_of c.segment_of-segment.result ≡ segment_of c.args.list.now c.segment_letter_of-letter.result = found_told code_no c.segment_of-segment.result _ c.segment_of-segment.ensures in
    ((λ i e. row_ready (lists c.args.list.now c.args.spreads.now) c.args.rows.now c.segment_letter_of-letter.result c.requires.rows_ready i (sym segment_is ∙ e)), refl)

pub returns : goal.returns
returns c =
    let segment_is : place_of c.segment_of-segment.result ≡ segment_of c.args.list.now c.segment_letter_of-letter.result = found_told code_no c.segment_of-segment.result _ c.segment_of-segment.ensures in
    scratch_judged _ _ _ _ _ _ (rw segment_is at c.copy_row_in.ensures) c.requires.some_messages c.segment_letter_of-letter.ensures _ _ _ _ c.judge_messages-turn.ensures
