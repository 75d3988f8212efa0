-- Head, data and trailer, one behind the other, where there is room for all.
use Rattle.std.proofs.Common.{arith, take, length-take-le}
use Rattle.writer.specs.WriterLaws.{message_put_lem}
use Rattle.writer.proofs.writing.put_message.Goals as goal

pub returns : goal.returns
returns c =
    let a = c.args in
    message_put_lem a.code a.number (take a.long a.«data».now) a.out.now a.long (length-take-le a.long a.«data».now (omega arith)) (omega arith)
    c.sum_rule.result c.put_head.ensures c.put_data.ensures c.sum_rule.ensures c.put_trailer.ensures
