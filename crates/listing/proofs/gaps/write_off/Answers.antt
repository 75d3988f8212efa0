-- The row of the letter's segment is copied, its lowest run goes, and the row is put back.
use Rattle.std.proofs.Common.{sym, ◌∙◌}
use Rattle.std.proofs.lemmas.Result.{err_from_is_err_and}
use Rattle.pairs.specs.Lists.{lists}
use Rattle.sequence.specs.PromisesLaws.{wrote_off_row}
use Rattle.sequence.specs.Promises.{WroteOff}
use Rattle.sequence.specs.RowLaws.{sound_row_exactly}
use Rattle.state.specs.AnswersLaws.{there_told, refusal_there}
use Rattle.state.specs.Memory.{lends, gap_row_of}
use Rattle.state.specs.StateLaws.{asked_segment, asked_refused, row_there, row_sound}
use Rattle.listing.specs.ListActsLaws.{off_refused, off_removed, off_none}
use Rattle.listing.proofs.gaps.write_off.Goals as goal

pub returns-in_err-segment : goal.returns-in_err-segment
returns-in_err-segment c =
    let a = c.args in
    let lent = lends (lists a.list.now a.spreads.now) a.rows.now a.records.now in
    let p = err_from_is_err_and c.from_residual.result c.from_residual.ensures.1 in
    rw (p.1, p.2) (off_refused lent a.letter _ (asked_refused lent a.letter _ (rw c.in_err-segment.was at c.check_segment.ensures)))

pub row_of-row-requires : goal.row_of-row-requires
row_of-row-requires c =
    let a = c.args in
    let lent = lends (lists a.list.now a.spreads.now) a.rows.now a.records.now in
    let asked = asked_segment lent a.letter _ (rw c.in_ok-segment.was at c.check_segment.ensures) in
    row_there lent a.letter asked.0 _ asked.1

pub returns-in_err-run : goal.returns-in_err-run
returns-in_err-run c =
    let a = c.args in
    let lent = lends (lists a.list.now a.spreads.now) a.rows.now a.records.now in
    let asked = asked_segment lent a.letter _ (rw c.in_ok-segment.was at c.check_segment.ensures) in
    let own : WroteOff (gap_row_of a.rows.now c.in_ok-segment.segment) c.write_off.result c.write_off.new.row = rw c.row_of-row.ensures at c.write_off.ensures in
    let none = refusal_there _ _ (sym c.ok_or.ensures.value ∙ c.in_err-run.was) in
    let p = err_from_is_err_and c.from_residual-in_err-run.result c.from_residual-in_err-run.ensures.1 in
    rw (p.1, p.2, none.1) (off_none lent a.letter asked.0 _ asked.1 _ (rw none.0 at own))

pub put_row-requires : goal.put_row-requires
put_row-requires c =
    let a = c.args in
    let lent = lends (lists a.list.now a.spreads.now) a.rows.now a.records.now in
    let asked = asked_segment lent a.letter _ (rw c.in_ok-segment.was at c.check_segment.ensures) in
    let own : WroteOff (gap_row_of a.rows.now c.in_ok-segment.segment) c.write_off.result c.write_off.new.row = rw c.row_of-row.ensures at c.write_off.ensures in
    let sound = row_sound lent a.letter asked.0 _ asked.1 in
    (row_there lent a.letter asked.0 _ asked.1, ((sound_row_exactly c.write_off.new.row).0 (wrote_off_row sound own)).0)

pub returns : goal.returns
returns c =
    let a = c.args in
    let lent = lends (lists a.list.now a.spreads.now) a.rows.now a.records.now in
    let asked = asked_segment lent a.letter _ (rw c.in_ok-segment.was at c.check_segment.ensures) in
    let own : WroteOff (gap_row_of a.rows.now c.in_ok-segment.segment) c.write_off.result c.write_off.new.row = rw c.row_of-row.ensures at c.write_off.ensures in
    rw c.put_row.ensures
    (off_removed lent a.letter asked.0 _ asked.1 _ _ (rw (there_told _ _ (sym c.ok_or.ensures.value ∙ c.in_ok-run.was)) at own))
