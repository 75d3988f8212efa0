-- The loop's invariant: the rows of the segments passed are sound.
use Rattle.std.proofs.Common.{ℕ, ◌+◌, ◌-◌, ◌*◌, ◌≡◌, sym, ◌∙◌, arith}
use Rattle.files.specs.BelowLaws.{one_fails}
use Rattle.sequence.specs.RowLaid.{sound_gap_row}
use Rattle.state.specs.Memory.{gap_row_cells, gap_row_of}
use Rattle.state.proofs.state.rows_sound.Goals as goal

pub returns-then-not-sound : goal.returns-then-not-sound
returns-then-not-sound c =
    let tested : sound_gap_row (gap_row_of c.args.rows.now c.loop-i.i) ≡ c.sound.result =
    let i : ℕ = c.loop-i.i in
    let part : gap_row_cells * i + gap_row_cells - gap_row_cells * i ≡ gap_row_cells = omega arith in
    sym (rw part at c.sound.ensures) in
    let at = c in
    let a = at.args in
    let fails = c.if-not-sound.true in
    sym (one_fails (λ j. sound_gap_row (gap_row_of a.rows.now j)) a.segments at.loop-i.i (omega arith) (tested ∙ fails))
