use Rattle.std.proofs.Common.{ℕ, ◌≡◌, ◌+◌, ◌*◌, ◌<◌, get_or}
use Rattle.console.proofs.numbers.cells_at.Given as goal

abbrev pub invariant-loop-cell : goal.invariant-loop-cell
invariant-loop-cell g l =
    (l.place ≡ l.at + g.C.Cell.BYTES * l.cell-index)
    × ((i : ℕ) (d : g.row.C.Denot) → i < l.cell-index → get_or l.cells i d ≡ g.C.Cell.number_there l.bytes (l.at + g.C.Cell.BYTES * i))
