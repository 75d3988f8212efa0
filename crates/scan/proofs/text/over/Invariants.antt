use Rattle.std.proofs.Common.{◌-◌, ◌^◌}
use Rattle.scan.specs.Parts.{PassedDigits}
use Rattle.scan.specs.declared.text.Walked.{Walked}
use Rattle.scan.proofs.text.over.Given as goal

abbrev pub invariant-loop-at : goal.invariant-loop-at
invariant-loop-at l = (to : Walked) → PassedDigits l.text l.at (2 ^ 64 - 1) to → PassedDigits l.text l.from (2 ^ 64 - 1) to
