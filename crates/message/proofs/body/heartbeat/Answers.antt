-- It has no rows.
use Rattle.head.specs.HeadLaws.{heartbeat_form}
use Rattle.message.specs.MessageLaws.{heartbeat_reads, good_form, bad_form}
use Rattle.message.proofs.body.heartbeat.Goals as goal

pub returns-in-Ok : goal.returns-in-Ok
returns-in-Ok c place keys cells =
    let (form, named, nothing) = heartbeat_form _ c.requires.1 in
    good_form place keys _ cells _ c.judge_heartbeat.ensures c.in-Ok.is
    (heartbeat_reads place keys _ _ c.length_of.ensures cells form named nothing)

pub returns-in-Err : goal.returns-in-Err
returns-in-Err c place keys cells =
    bad_form place keys _ cells _ c.judge_heartbeat.ensures c.in-Err.is c.bad.ensures
