-- The hole is one run too many.
use Rattle.std.proofs.Common.{arith}
use Rattle.taking.proofs.Taking.{behind_full}
use Rattle.taking.proofs.skip.add.Goals as goal

pub returns-then-number-eq-MOST : goal.returns-then-number-eq-MOST
returns-then-number-eq-MOST c = behind_full c.args.row.now c.args.number c.requires.0 c.requires.1 _ (omega arith)
