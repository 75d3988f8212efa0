-- The loop's invariant: the first i runs are stored as numbers.
use Rattle.std.proofs.Common.{ℕ, ◌+◌, ◌*◌, ◌≡◌, ap, ◌∙◌, List, arith, length, get_or, set, replicate, length-set}
use Rattle.copies.specs.declared.run.Run.{Run}
use Rattle.copies.specs.Rows.{blank, most_runs, most}
use Rattle.copies.specs.FlatLaws.{flat_more}
use Rattle.copies.proofs.numbers.flat.Goals as goal

pub loop-i-preserved : goal.loop-i-preserved
loop-i-preserved c =
    let l = c.loop-i in
    let runs : List Run = c.args.runs in
    let run : Run = get_or runs l.i blank in
    let long : length runs ≡ most_runs = c.well_formed.0.1.0.1 in (
      length-set (set l.numbers (2 * l.i) run.first) (2 * l.i + 1) run.last ∙ length-set l.numbers (2 * l.i) run.first ∙ l.invariant.0,
      ap (λ (ns : List ℕ). set (set ns (2 * l.i) run.first) (2 * l.i + 1) run.last) l.invariant.1
          ∙ flat_more runs (replicate most 0) l.i (omega arith) (omega arith),
    )
