-- `sequence::runs::divide` meets its contract: the numbers from the run on are copied one run on, and two stores part it.
use Rattle.std.proofs.Common.{ℕ, ◌+◌, ap, ◌∙◌, List, set}
use Rattle.sequence.specs.RowLaid.{cell}
use Rattle.sequence.proofs.Cells.{divide_row}
use Rattle.sequence.proofs.runs.divide.Goals as goal

pub returns : goal.returns
returns c =
    let a = c.args in
    let p = c.requires in
    ap (λ (ns : List ℕ). set (set (set ns (cell a.i + 1) a.end) (cell a.i + 2) a.begin) 2 (c.number-n.result + 1)) c.copy_within.ensures.after
    ∙ rw c.number-n.ensures.0 (divide_row a.row.now p.0.wide a.i p.0.stands a.end a.begin)
