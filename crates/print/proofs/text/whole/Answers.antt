-- `whole` cuts off one place behind the point after another.
use Rattle.std.proofs.Common.{add-one}
use Rattle.laws.specs.Powers.{tenth_last}
use Rattle.print.proofs.text.whole.Goals as goal

pub loop-preserved : goal.loop-preserved
loop-preserved c = rw (c.loop.invariant, tenth_last, add-one)
