-- A number by what the sequence answers.
use Rattle.std.specs.Prelude.{Ok, Err}
use Rattle.turns.specs.ActsLaws.{number_acts_lem}
use Rattle.turns.proofs.act.number_acts.Goals as goal

pub returns-in-Ok : goal.returns-in-Ok
returns-in-Ok c = rw c.from.ensures (number_acts_lem _ _ _ _ c.requires (Ok _) (rw c.in-Ok.is at c.take.ensures))

pub returns-in-Err : goal.returns-in-Err
returns-in-Err c = number_acts_lem _ _ _ _ c.requires (Err _) (rw c.in-Err.is at c.take.ensures)
