-- The array holds the front of the rows lent, and goes back over it: what is promised of that front is promised of the rows.
use Rattle.std.proofs.Common.{arith, ◌≡◌, sym, List, length, take, subst}
use Rattle.pairs.specs.Lists.{lists}
use Rattle.copies.specs.declared.run.Run.{Run}
use Rattle.copies.specs.Rows.{most_runs}
use Rattle.runs.specs.Promises.{WroteOffRuns}
use Rattle.runs.proofs.LentLaws.{wrote_off_runs}
use Rattle.runs.proofs.calls.write_off.Goals as goal

pub returns : goal.returns
returns c =
    let rows : List Run = c.args.rows.now in
    let did = c.write_off-wrote in
    let long : length did.result.runs ≡ most_runs = omega arith in
    subst (λ (left : List Run). WroteOffRuns (lists c.args.list.now c.args.spreads.now) rows c.args.records.now c.args.letter did.result.answer left) (sym c.back.ensures)
    (wrote_off_runs (lists c.args.list.now c.args.spreads.now) rows c.args.records.now c.args.letter did.result.answer did.result.runs long
    (subst (λ (runs : List Run). WroteOffRuns (lists c.args.list.now c.args.spreads.now) (take (length rows) runs) c.args.records.now c.args.letter did.result.answer (take (length rows) did.result.runs)) c.out-runs.ensures did.ensures))
