-- The bytes fill the part of `out` that is lent for them.
use Rattle.std.proofs.Common.{◌+◌, ◌-◌, ap, sym, ◌∙◌, arith, take, length-take-le}
use borrow.Rule.Slice.PartMut.{put_mid}
use Rattle.writer.specs.WriterLaws.{part_put}
use Rattle.writer.proofs.writing.put_data.Goals as goal

pub returns : goal.returns
returns c =
    let a = c.args in
    let n = length-take-le a.long a.«data».now (omega arith) in
    ap (put_mid 8 (8 + a.long - 8) a.out.now) c.put_front.ensures
    ∙ part_put (take a.long a.«data».now) a.out.now a.long (sym n) (omega arith)
