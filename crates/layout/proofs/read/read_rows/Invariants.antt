use Rattle.layout.specs.ReadLaws.{Going}
use Rattle.layout.proofs.read.read_rows.Given as goal

abbrev pub invariant-loop-i : goal.invariant-loop-i
invariant-loop-i l = Going l.rows l.data l.initial.cells l.cells l.at l.i-counter
