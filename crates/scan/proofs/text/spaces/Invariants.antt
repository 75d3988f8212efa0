use Rattle.std.proofs.Common.{ℕ}
use Rattle.scan.specs.Parts.{PassedSpaces}
use Rattle.scan.proofs.text.spaces.Given as goal

abbrev pub invariant-loop-at : goal.invariant-loop-at
invariant-loop-at l = (end : ℕ) → PassedSpaces l.text l.at end → PassedSpaces l.text l.from end
