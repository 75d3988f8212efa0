-- In its segment's place, where there is one.
use Rattle.std.proofs.Common.{ap}
use Rattle.lookup.specs.Answers.{place_of}
use Rattle.batch.proofs.scratch.put_row_in.Goals as goal

pub put_row-requires : goal.put_row-requires
put_row-requires c =
    let s = c in
    ((s.requires.0 _ (ap place_of c.in-Some.is)).0, s.requires.1)
