-- A heartbeat by itself; of any other the rest of the head, and then the contents.
use Rattle.message.specs.MessageLaws.{bad_form}
use Rattle.message.proofs.body.formed.Goals as goal

pub returns-then-is_heartbeat : goal.returns-then-is_heartbeat
returns-then-is_heartbeat c = c.heartbeat.ensures _ _ _

pub returns-in-Err : goal.returns-in-Err
returns-in-Err c = bad_form _ _ _ _ _ c.judge_form.ensures c.in-Err.is c.bad.ensures
