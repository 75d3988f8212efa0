-- `contracts::header::count_at` meets its contract: two bytes of the segment's entry.
use Rattle.std.proofs.Common.{◌∙◌}
use Rattle.files.specs.File.{count_at}
use Rattle.files.proofs.header.count_at.Goals as goal

pub returns : goal.returns
unfolding count_at
returns c = c.u16_at.ensures ∙ c.entry.ensures.reads 2 2
