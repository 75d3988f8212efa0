-- Every cell holds none.
use Rattle.reading.specs.Record.{blank}
use Rattle.reading.proofs.record.blank.Goals as goal

pub returns : goal.returns
unfolding blank
returns c = c.quote_of.ensures
