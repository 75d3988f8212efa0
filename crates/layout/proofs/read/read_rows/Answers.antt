-- A good row's cell is stored, and the reading goes on.
use Rattle.std.proofs.Common.{rules, ◌≡◌, ◌+◌, ◌-◌, length, arith, sym, ◌∙◌, get_or, min, Ok}
use Rattle.forms.specs.declared.rows.Row.TheVariants.{Key}
use Rattle.forms.specs.Rows.{width_of}
use Rattle.layout.specs.ReadLaws.{goes_on}
use Rattle.layout.proofs.read.read_rows.Goals as goal

pub loop-i-preserved : goal.loop-i-preserved
loop-i-preserved c =
    let good : c.read_row.result ≡ Ok c.in_ok-cell.cell = search rules in
    let is_width : c.min.result ≡ min (width_of (get_or c.args.rows.now c.loop-i.i-counter (Key 0))) (length c.args.data.now - c.loop-i.at) = rw (← c.width_of.ensures) c.min.ensures in
    let same : c.loop-i.at + c.min.result - c.loop-i.at ≡ c.min.result = omega arith in
    let more = c.loop-i-test.true in
    goes_on c.args.rows.now c.args.data.now c.args.cells.now c.loop-i.cells c.loop-i.at c.loop-i.i-counter c.min.result more is_width c.loop-i.invariant
    (rw same at (sym c.read_row.ensures ∙ good))
