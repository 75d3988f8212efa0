-- `spaces` passes the spaces: what passes those from the place reached passes all of them.
use Rattle.scan.specs.PartsLaws.{spaces_one}
use Rattle.scan.proofs.text.spaces.Goals as goal

pub loop-at-preserved : goal.loop-at-preserved
loop-at-preserved c = λ end h.
    c.loop-at.invariant end (spaces_one _ _ end c.loop-at-test.true c.if-text-at-ne-SPACE.false h)
