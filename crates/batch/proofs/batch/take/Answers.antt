-- The rules before the messages, and then the messages.
use Rattle.std.proofs.Common.{arith}
use Rattle.pairs.specs.Lists.{lists}
use Rattle.batch.specs.CheckedLaws.{checked_state, data_short, data_ready, refused_took, took_batch_lem}
use Rattle.state.specs.Memory.{lends}
use Rattle.batch.proofs.batch.take.Goals as goal

pub take_data-requires : goal.take_data-requires
take_data-requires c =
    let lent = lends (lists c.args.list.now c.args.spreads.now) c.args.rows.now c.args.records.now in (
      data_ready lent c.args.batch.now _ c.check_all.ensures c.in-Ok.is _ c.u16_at-count.ensures (omega (arith, c.u16_at-count.type_inv)),
      (checked_state lent c.args.batch.now _ c.check_all.ensures c.in-Ok.is).records_lent,
      data_short lent c.args.batch.now _ c.check_all.ensures c.in-Ok.is,
    )

pub returns-in-Err : goal.returns-in-Err
returns-in-Err c = refused_took _ _ _ c.check_all.ensures _ c.in-Err.is

pub returns-in-Ok : goal.returns-in-Ok
returns-in-Ok c =
    took_batch_lem (lends (lists c.args.list.now c.args.spreads.now) c.args.rows.now c.args.records.now) c.args.batch.now _ c.check_all.ensures c.in-Ok.is _ c.u16_at-count.ensures _ _ c.take_data.ensures
