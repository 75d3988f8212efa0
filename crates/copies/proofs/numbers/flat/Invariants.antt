use Rattle.std.proofs.Common.{◌*◌, ◌≡◌, ◌++◌, length, take, drop}
use Rattle.copies.specs.Rows.{flat, most}
use Rattle.copies.proofs.numbers.flat.Given as goal

abbrev pub invariant-loop-i : goal.invariant-loop-i
invariant-loop-i l = (length l.numbers ≡ most) × (l.numbers ≡ flat (take l.i l.run-items) ++ drop (2 * l.i) l.initial.numbers)
