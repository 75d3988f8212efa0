-- The next number moves highest.
use Rattle.std.proofs.Common.{arith}
use Rattle.sequence.specs.Row.{gaps_of}
use Rattle.taking.proofs.Taking.{next_took}
use Rattle.taking.proofs.take.Goals as goal

pub returns-then-number-highest-eq1 : goal.returns-then-number-highest-eq1
unfolding gaps_of
returns-then-number-highest-eq1 c = next_took c.args.row.now c.args.number c.requires (omega arith) (omega arith)
