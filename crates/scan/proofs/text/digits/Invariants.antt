use Rattle.scan.specs.Parts.{PassedDigits}
use Rattle.scan.specs.declared.text.Walked.{Walked}
use Rattle.scan.proofs.text.digits.Given as goal

abbrev pub invariant-loop-at : goal.invariant-loop-at
invariant-loop-at l = (to : Walked) → PassedDigits l.text l.at l.amount to → PassedDigits l.text l.from l.before to
