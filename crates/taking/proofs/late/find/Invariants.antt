use Rattle.std.proofs.Common.{◌≤◌, ◌≡◌, false, length, drop}
use Rattle.sequence.specs.Runs.{missing}
use Rattle.sequence.specs.Row.{runs_of}
use Rattle.taking.proofs.late.find.Given as goal

abbrev pub invariant-loop-i : goal.invariant-loop-i
invariant-loop-i l = (l.i ≤ length (runs_of l.row)) × (missing (drop l.i (runs_of l.row)) l.number ≡ false)
