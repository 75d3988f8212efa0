use Rattle.std.proofs.Common.{◌≡◌}
use Rattle.print.specs.Write.{text_of}
use Rattle.print.proofs.text.stripped.Given as goal

abbrev pub invariant-loop-left : goal.invariant-loop-left
invariant-loop-left l = text_of l.left l.n ≡ text_of l.places l.units
