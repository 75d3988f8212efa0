use Rattle.std.proofs.Common.{◌*◌, ◌≡◌, ◌++◌, length, drop}
use Rattle.state.specs.Memory.{gap_row_cells}
use Rattle.starting.specs.StartActs.{started_rows}
use Rattle.starting.proofs.starting.begin_rows.Given as goal

abbrev pub invariant-loop-i : goal.invariant-loop-i
invariant-loop-i l = (length l.rows ≡ length l.initial.rows) × (l.rows ≡ started_rows l.i l.starts ++ drop (gap_row_cells * l.i) l.initial.rows)
