-- `sequence::late::fill` meets its contract: each way out leaves what stands of the run below the number and above it.
use Rattle.std.proofs.Common.{◌+◌, ◌-◌, [], ◌∷◌, arith}
use Rattle.sequence.specs.Runs.{◌to◌, run}
use Rattle.sequence.specs.Row.{runs_of}
use Rattle.sequence.specs.Steps.{divided}
use Rattle.taking.proofs.Steps.{parted_none, parted_first, parted_last, parted_both}
use Rattle.taking.proofs.Taking.{fill_took, fill_full}
use Rattle.taking.proofs.late.fill.Goals as goal

pub returns-then-first-last : goal.returns-then-first-last
returns-then-first-last c =
    let a = c.args in
    let w = c.requires in
    let r = run (runs_of a.row.now) a.i in
    rw c.remove.ensures (fill_took a.row.now a.number a.i w ([]) (parted_none r a.number (omega arith) (omega arith)) (omega arith))

pub returns-then-first-number : goal.returns-then-first-number
returns-then-first-number c =
    let a = c.args in
    let w = c.requires in
    let r = run (runs_of a.row.now) a.i in
    rw (c.put.ensures, c.last-last.ensures) (fill_took a.row.now a.number a.i w ((a.number + 1) to r.last ∷ []) (parted_first r a.number (omega arith) (omega arith)) (omega arith))

pub returns-then-last-number : goal.returns-then-last-number
returns-then-last-number c =
    let a = c.args in
    let w = c.requires in
    let r = run (runs_of a.row.now) a.i in
    rw (c.put-then-last-number.ensures, c.first-first.ensures) (fill_took a.row.now a.number a.i w (r.first to (a.number - 1) ∷ []) (parted_last r a.number (omega arith) (omega arith)) (omega arith))

pub returns-then-number-eq-MOST : goal.returns-then-number-eq-MOST
returns-then-number-eq-MOST c =
    let a = c.args in
    fill_full a.row.now a.number a.i c.requires _ (omega arith) (omega arith) (omega arith)

pub returns : goal.returns
returns c =
    let a = c.args in
    let w = c.requires in
    let r = run (runs_of a.row.now) a.i in
    rw c.divide.ensures (fill_took a.row.now a.number a.i w (divided r (a.number - 1) (a.number + 1)) (parted_both r a.number (omega arith) (omega arith)) (omega arith))
