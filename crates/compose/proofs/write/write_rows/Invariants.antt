use Rattle.compose.specs.WriteLaws.{Writing}
use Rattle.compose.proofs.write.write_rows.Given as goal

abbrev pub invariant-loop-i : goal.invariant-loop-i
invariant-loop-i l = Writing l.rows l.key l.values l.bytes l.at l.used l.i-counter
