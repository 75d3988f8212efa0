-- `sequence::list` meets its contract: where too few cells are lent nothing is written, else the runs are copied.
use Rattle.std.proofs.Common.{◌+◌, ◌-◌, ◌≡◌, arith}
use Rattle.sequence.specs.Gaps.{wanted}
use Rattle.sequence.specs.Row.{head, gaps_of, runs_of}
use Rattle.sequence.proofs.Calls.{listed_short, listed_all}
use Rattle.sequence.proofs.list.Goals as goal

pub returns-then-lent-wanted : goal.returns-then-lent-wanted
returns-then-lent-wanted c = rw c.number-n.ensures.0 (listed_short c.args.row.now c.args.lent.now (omega arith))

pub returns : goal.returns
unfolding gaps_of
returns c =
    let a = c.args in
    let copied : head + wanted (runs_of a.row.now) - head ≡ wanted (runs_of a.row.now) = omega arith in
    rw (c.copy_from_slice.ensures.after, c.number-n.ensures.0, copied) (listed_all a.row.now a.lent.now (omega arith))
