-- `sequence::late::find` meets its contract. The loop's invariant: no run from i on names the number, since each begins above it.
use Rattle.std.proofs.Common.{◌-◌, arith}
use Rattle.sequence.specs.Runs.{run}
use Rattle.sequence.specs.RunsLaws.{names_above}
use Rattle.sequence.specs.SoundLaws.{sound_apart}
use Rattle.sequence.specs.Row.{runs_of}
use Rattle.sequence.specs.RowLaws.{sound_row_exactly}
use Rattle.taking.proofs.Steps.{missing_from, missing_nowhere}
use Rattle.taking.proofs.late.find.Goals as goal

pub returns-then-first-number : goal.returns-then-first-number
returns-then-first-number c =
    let a = c.args in
    let s = ((sound_row_exactly a.row.now).0 c.requires).2 in
    let l = c.loop-i in
    missing_nowhere (runs_of a.row.now) (l.i - 1) a.number (sound_apart s) (omega arith) (omega arith)
    (missing_from (runs_of a.row.now) l.i (l.i - 1) a.number (omega arith) l.invariant.0
    (names_above (run (runs_of a.row.now) (l.i - 1)) a.number (omega arith)) l.invariant.1)
