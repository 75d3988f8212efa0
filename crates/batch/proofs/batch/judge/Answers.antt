-- The rules before the messages, and then the messages.
use Rattle.std.proofs.Common.{arith}
use Rattle.pairs.specs.Lists.{lists}
use Rattle.batch.specs.CheckedLaws.{data_ready, refused_judged, judged_batch}
use Rattle.state.specs.Memory.{lends}
use Rattle.batch.proofs.batch.judge.Goals as goal

pub judge_data-requires : goal.judge_data-requires
judge_data-requires c =
    data_ready (lends (lists c.args.list.now c.args.spreads.now) c.args.rows.now c.args.records.now) c.args.batch.now _ c.check_all.ensures c.in-Ok.is _ c.u16_at-count.ensures (omega (arith, c.u16_at-count.type_inv))

pub returns-in-Err : goal.returns-in-Err
returns-in-Err c = refused_judged _ _ _ c.check_all.ensures _ c.in-Err.is

pub returns-in-Ok : goal.returns-in-Ok
returns-in-Ok c =
    judged_batch (lends (lists c.args.list.now c.args.spreads.now) c.args.rows.now c.args.records.now) c.args.batch.now _ c.check_all.ensures c.in-Ok.is _ c.u16_at-count.ensures _ c.judge_data.ensures
