-- The loop's invariant: the rows of the segments passed are at their start, and every other cell is as it was.
use Rattle.std.proofs.Common.{ℕ, ◌≡◌, ap, ap₂, ◌∙◌, List, arith, length}
use Rattle.state.specs.MemoryRows.{with_gap_row}
use Rattle.state.specs.RowsLaws.{length_with}
use Rattle.starting.specs.Start.{start_of}
use Rattle.starting.specs.StartActs.{started_row}
use Rattle.starting.specs.StartLaws.{started_length, started_more}
use Rattle.starting.proofs.starting.begin_rows.Goals as goal

pub loop-i-preserved : goal.loop-i-preserved
loop-i-preserved c =
    let l = c.loop-i in
    let a = c.args in
    let put = c.put_row in
    let row : List ℕ = c.start.new.row in
    let begun-row : row ≡ started_row (start_of a.starts.now l.i) = c.start.ensures.left ∙ ap started_row c.start_of.ensures in (
      ap length put.ensures ∙ length_with l.rows l.i row (omega arith) (ap length begun-row ∙ started_length (start_of a.starts.now l.i)) ∙ l.invariant.0,
      put.ensures ∙ ap₂ (λ (ns : List ℕ) (r : List ℕ). with_gap_row ns l.i r) l.invariant.1 begun-row ∙ started_more a.starts.now l.i a.rows.now,
    )
