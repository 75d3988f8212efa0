-- `contracts::header::offset_at` meets its contract: four bytes of the segment's entry.
use Rattle.std.proofs.Common.{◌∙◌}
use Rattle.files.specs.File.{offset_at}
use Rattle.files.proofs.header.offset_at.Goals as goal

pub returns : goal.returns
unfolding offset_at
returns c = c.u32_at.ensures ∙ c.entry.ensures.reads 4 4
