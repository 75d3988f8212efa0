-- What is lent stays, whatever batches came.
use Rattle.lent.specs.Lists.{SameLists}
use Rattle.gaps.proofs.take.take_all.Given as goal

abbrev pub invariant-loop-batch : goal.invariant-loop-batch
invariant-loop-batch g l = SameLists l.initial.lent l.lent
