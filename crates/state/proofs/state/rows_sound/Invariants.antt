use Rattle.std.proofs.Common.{◌≡◌, true}
use Rattle.state.specs.MemoryRows.{gap_rows_sound}
use Rattle.state.proofs.state.rows_sound.Given as goal

abbrev pub invariant-loop-i : goal.invariant-loop-i
invariant-loop-i l = gap_rows_sound l.i l.rows ≡ true
