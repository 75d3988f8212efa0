-- `stripped` leaves out one needless zero after another: what is left, at the places that are left, has the amount's text.
use Rattle.std.proofs.Common.{◌-◌, sym, ◌∙◌}
use Rattle.laws.specs.Order.{one_below}
use Rattle.print.specs.WriteStepsLaws.{text_tens}
use Rattle.print.proofs.text.stripped.Goals as goal

pub loop-left-preserved : goal.loop-left-preserved
loop-left-preserved c =
    let down = one_below c.loop-left.left c.loop-left-test.true in
    sym (text_tens (c.loop-left.left - 1) c.loop-left.n c.if-n-ne0.false) ∙ rw down at c.loop-left.invariant
