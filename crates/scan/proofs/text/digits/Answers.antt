-- `digits` passes the digits: what passes those from the place reached, behind the amount reached, passes all of them.
use Rattle.std.proofs.Common.{refl, arith}
use Rattle.scan.specs.PartsLaws.{digits_one}
use Rattle.scan.proofs.text.digits.Goals as goal

pub returns-then-is_full : goal.returns-then-is_full
returns-then-is_full c =
    c.loop-at.invariant _
    (digits_one _ _ _ _ _ _ c.loop-at-test.true (omega arith) (c.digit-d.ensures.digit (omega arith)) (omega (arith, c.is_full.ensures.full c.if-is_full.true)) c.over.ensures)

pub loop-at-preserved : goal.loop-at-preserved
loop-at-preserved c = λ to h.
    c.loop-at.invariant to
    (digits_one _ _ _ _ _ to c.loop-at-test.true (omega arith) (c.digit-d.ensures.digit (omega arith)) refl h)
