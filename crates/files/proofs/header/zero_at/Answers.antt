-- `contracts::header::zero_at` meets its contract: the byte behind the segment's letter.
use Rattle.std.proofs.Common.{◌∙◌}
use Rattle.files.specs.File.{zero_at}
use Rattle.files.proofs.header.zero_at.Goals as goal

pub returns : goal.returns
unfolding zero_at
returns c = c.u8_at.ensures ∙ c.entry.ensures.reads 1 1
