-- A number that no run names is old.
use Rattle.taking.proofs.Taking.{old_took}
use Rattle.taking.proofs.late.late.Goals as goal

pub returns-in-None : goal.returns-in-None
returns-in-None c = old_took c.args.row.now c.args.number c.requires.0 c.requires.1 (rw c.in-None.is at c.find.ensures)
