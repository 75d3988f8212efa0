-- The array holds the front of the rows lent, and what is promised of that front is promised of the rows.
use Rattle.std.proofs.Common.{List, length, take, subst}
use Rattle.pairs.specs.Lists.{lists}
use Rattle.copies.specs.declared.run.Run.{Run}
use Rattle.runs.specs.Promises.{ListedGaps}
use Rattle.runs.proofs.LentLaws.{listed_gaps}
use Rattle.runs.proofs.calls.list_gaps.Goals as goal

pub returns : goal.returns
returns c =
    let rows : List Run = c.args.rows.now in
    listed_gaps (lists c.args.list.now c.args.spreads.now) rows c.args.records.now c.args.letter c.args.cells.now c.list_gaps.result c.list_gaps.new.cells
    (subst (λ (runs : List Run). ListedGaps (lists c.args.list.now c.args.spreads.now) (take (length rows) runs) c.args.records.now c.args.letter c.args.cells.now c.list_gaps.result c.list_gaps.new.cells) c.out.ensures c.list_gaps.ensures)
