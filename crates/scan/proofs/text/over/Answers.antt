-- `over` passes the digits: what passes those from the place reached passes all of them, and no digit leads below the ceiling.
use Rattle.std.proofs.Common.{arith}
use Rattle.scan.specs.PartsLaws.{digits_one}
use Rattle.scan.proofs.text.over.Goals as goal

pub loop-at-preserved : goal.loop-at-preserved
loop-at-preserved c = λ to h.
    c.loop-at.invariant to
    (digits_one _ _ _ _ _ to c.loop-at-test.true (omega arith) (c.digit.ensures.digit (omega arith)) (omega arith) h)
