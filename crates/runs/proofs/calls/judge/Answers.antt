-- The array holds the front of the rows lent, and what is promised of that front is promised of the rows.
use Rattle.std.proofs.Common.{List, length, take, subst}
use Rattle.pairs.specs.Lists.{lists}
use Rattle.copies.specs.declared.run.Run.{Run}
use Rattle.runs.specs.Promises.{JudgedRuns}
use Rattle.runs.proofs.LentLaws.{judged_runs}
use Rattle.runs.proofs.calls.judge.Goals as goal

pub returns : goal.returns
returns c =
    let rows : List Run = c.args.rows.now in
    judged_runs (lists c.args.list.now c.args.spreads.now) rows c.args.records.now c.args.batch.now c.judge.result
    (subst (λ (runs : List Run). JudgedRuns (lists c.args.list.now c.args.spreads.now) (take (length rows) runs) c.args.records.now c.args.batch.now c.judge.result) c.out.ensures c.judge.ensures)
