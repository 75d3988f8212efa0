-- `sequence::skip::skip` meets its contract: the hole makes the run that ends at highest longer, or is added.
use Rattle.std.specs.Prelude.{Some}
use Rattle.std.proofs.Common.{get_or}
use Rattle.sequence.specs.Row.{gaps_of, runs_of}
use Rattle.sequence.specs.RowLaws.{sound_row_exactly}
use Rattle.sequence.proofs.Cells.{sound_stands}
use Rattle.taking.specs.Steps.{Placed}
use Rattle.taking.proofs.Taking.{join_took}
use Rattle.taking.proofs.skip.skip.Goals as goal

pub first-first-requires : goal.first-first-requires
first-first-requires c =
    let a = c.args in
    let here : Placed (runs_of a.row.now) (get_or a.row.now 1 0) (Some c.in-Some.i) = rw c.in-Some.is at c.find.ensures in
    sound_stands a.row.now c.in-Some.i c.requires.sound here.0

pub put-requires : goal.put-requires
put-requires c =
    let a = c.args in
    let here : Placed (runs_of a.row.now) (get_or a.row.now 1 0) (Some c.in-Some.i) = rw c.in-Some.is at c.find.ensures in
    (sound_stands a.row.now c.in-Some.i c.requires.sound here.0, ((sound_row_exactly a.row.now).0 c.requires.sound).1)

pub add-requires : goal.add-requires
unfolding gaps_of
add-requires c = (c.requires, rw c.in-None.is at c.find.ensures)

pub returns-in-Some : goal.returns-in-Some
unfolding gaps_of
returns-in-Some c =
    let a = c.args in
    let here : Placed (runs_of a.row.now) (get_or a.row.now 1 0) (Some c.in-Some.i) = rw c.in-Some.is at c.find.ensures in
    rw (c.put.ensures, c.first-first.ensures) (join_took a.row.now a.number c.requires c.in-Some.i here.0 here.1)
