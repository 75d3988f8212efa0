-- The array holds the front of the rows lent, and what is promised of that front is promised of the rows.
use Rattle.std.proofs.Common.{List, length, take, subst}
use Rattle.pairs.specs.Lists.{lists}
use Rattle.copies.specs.declared.run.Run.{Run}
use Rattle.runs.specs.Promises.{ReadSpreadRuns}
use Rattle.runs.proofs.LentLaws.{read_runs}
use Rattle.runs.proofs.calls.read_spread.Goals as goal

pub returns : goal.returns
returns c =
    let rows : List Run = c.args.rows.now in
    read_runs (lists c.args.list.now c.args.spreads.now) rows c.args.records.now c.args.letter c.args.pair.now c.args.level c.read_spread.result.answer
    (subst (λ (runs : List Run). ReadSpreadRuns (lists c.args.list.now c.args.spreads.now) (take (length rows) runs) c.args.records.now c.args.letter c.args.pair.now c.args.level c.read_spread.result) c.out.ensures c.read_spread.ensures)
