-- The row of the letter's segment is copied, and its runs are listed.
use Rattle.std.proofs.lemmas.Result.{err_from_is_err_and}
use Rattle.pairs.specs.Lists.{lists}
use Rattle.state.specs.Memory.{lends}
use Rattle.state.specs.StateLaws.{asked_segment, asked_refused, row_there}
use Rattle.listing.specs.ListActsLaws.{list_refused, listed_runs, listed_short}
use Rattle.listing.proofs.gaps.list_gaps.Goals as goal

pub returns-in_err-segment : goal.returns-in_err-segment
returns-in_err-segment c =
    let a = c.args in
    let lent = lends (lists a.list.now a.spreads.now) a.rows.now a.records.now in
    let p = err_from_is_err_and c.from_residual.result c.from_residual.ensures.1 in
    rw (p.1, p.2) (list_refused lent a.letter _ (asked_refused lent a.letter _ (rw c.in_err-segment.was at c.check_segment.ensures)) a.cells.now)

pub row_of-row-requires : goal.row_of-row-requires
row_of-row-requires c =
    let a = c.args in
    let lent = lends (lists a.list.now a.spreads.now) a.rows.now a.records.now in
    let asked = asked_segment lent a.letter _ (rw c.in_ok-segment.was at c.check_segment.ensures) in
    row_there lent a.letter asked.0 _ asked.1

pub returns-in_err-gaps : goal.returns-in_err-gaps
returns-in_err-gaps c =
    let a = c.args in
    let lent = lends (lists a.list.now a.spreads.now) a.rows.now a.records.now in
    let asked = asked_segment lent a.letter _ (rw c.in_ok-segment.was at c.check_segment.ensures) in
    let p = err_from_is_err_and c.from_residual-in_err-gaps.result c.from_residual-in_err-gaps.ensures.1 in
    rw (p.1, p.2) (listed_short lent a.letter asked.0 _ asked.1 a.cells.now _ _ (rw (c.row_of-row.ensures, c.in_err-gaps.was) at c.list.ensures))

pub returns : goal.returns
returns c =
    let a = c.args in
    let lent = lends (lists a.list.now a.spreads.now) a.rows.now a.records.now in
    let asked = asked_segment lent a.letter _ (rw c.in_ok-segment.was at c.check_segment.ensures) in
    listed_runs lent a.letter asked.0 _ asked.1 a.cells.now _ _ (rw (c.row_of-row.ensures, c.in_ok-gaps.was) at c.list.ensures)
