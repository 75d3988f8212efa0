-- A run has at most 2 ^ 32 numbers, and there are at most 64.
use Rattle.std.proofs.Common.{◌*◌, ◌≤◌}
use Rattle.report.proofs.missing.Given as goal

abbrev pub invariant-loop-first : goal.invariant-loop-first
invariant-loop-first l = l.sum ≤ 4294967296 * l.first-index
