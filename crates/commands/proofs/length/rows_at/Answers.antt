-- No update has more values than a contract's at level 2.
use Rattle.std.proofs.Common.{arith}
use Rattle.values.specs.ValuesLaws.{values_room}
use Rattle.commands.proofs.length.rows_at.Goals as goal

pub returns : goal.returns
returns c = omega (arith, values_room c.args.item c.args.level)
