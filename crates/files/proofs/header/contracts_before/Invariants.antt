use Rattle.std.proofs.Common.{◌≡◌}
use Rattle.files.specs.File.{sum_below, count_at}
use Rattle.files.proofs.header.contracts_before.Given as goal

abbrev pub invariant-loop-i : goal.invariant-loop-i
invariant-loop-i l = l.sum ≡ sum_below l.i (count_at l.list)
