-- The row is copied from its segment, or started.
use Rattle.std.proofs.Common.{ap}
use Rattle.lookup.specs.Answers.{place_of}
use Rattle.batch.specs.ScratchLaws.{row_started}
use Rattle.batch.proofs.scratch.copy_row_in.Goals as goal

pub copy_row-requires : goal.copy_row-requires
copy_row-requires c = let s = c in ((s.requires.0 _ (ap place_of c.in-Some.is)).0, s.requires.1)

pub returns-in-None : goal.returns-in-None
returns-in-None c = row_started _ _ (ap place_of c.in-None.is) _ c.start.ensures
