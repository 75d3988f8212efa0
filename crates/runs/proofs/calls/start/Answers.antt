-- The array holds the front of the rows lent, and goes back over it: what is promised of that front is promised of the rows.
use Rattle.std.proofs.Common.{arith, ◌≡◌, sym, List, length, take, subst}
use Rattle.pairs.specs.Lists.{lists}
use Rattle.copies.specs.declared.run.Run.{Run}
use Rattle.copies.specs.Rows.{most_runs}
use Rattle.runs.specs.Promises.{StartedRuns}
use Rattle.runs.proofs.LentLaws.{started_runs}
use Rattle.runs.proofs.calls.start.Goals as goal

pub returns : goal.returns
returns c =
    let rows : List Run = c.args.rows.now in
    let did = c.start-began in
    let long : length did.result.runs ≡ most_runs = omega arith in
    subst (λ (left : List Run). StartedRuns (lists c.args.list.now c.args.spreads.now) c.args.starts.now rows c.args.records.now did.result.answer left did.new.records) (sym c.back.ensures)
    (started_runs (lists c.args.list.now c.args.spreads.now) rows c.args.records.now c.args.starts.now did.result.answer did.result.runs did.new.records long
    (subst (λ (runs : List Run). StartedRuns (lists c.args.list.now c.args.spreads.now) c.args.starts.now (take (length rows) runs) c.args.records.now did.result.answer (take (length rows) did.result.runs) did.new.records) c.out-runs.ensures did.ensures))
