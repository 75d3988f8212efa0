use Rattle.std.proofs.Common.{◌*◌, ◌≡◌, length, take}
use Rattle.copies.specs.Rows.{flat, most_runs}
use Rattle.copies.proofs.numbers.paired.Given as goal

abbrev pub invariant-loop-i : goal.invariant-loop-i
invariant-loop-i l = (length l.run-items ≡ most_runs) × (flat (take l.i l.run-items) ≡ take (2 * l.i) l.numbers)
