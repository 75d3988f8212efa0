-- `sequence::runs::remove` meets its contract: the numbers behind the run are copied over it, and one run less stands.
use Rattle.std.proofs.Common.{ℕ, ◌-◌, ap, ◌∙◌, List, set}
use Rattle.sequence.proofs.Cells.{remove_row}
use Rattle.sequence.proofs.runs.remove.Goals as goal

pub returns : goal.returns
returns c =
    let a = c.args in
    let p = c.requires in
    ap (λ (ns : List ℕ). set ns 2 (c.number-n.result - 1)) c.copy_within.ensures.after
    ∙ rw c.number-n.ensures.0 (remove_row a.row.now p.wide a.i p.stands)
