-- Every cell holds none.
use Rattle.reading.specs.Record.{blank_spread}
use Rattle.reading.proofs.record.blank_spread.Goals as goal

pub returns : goal.returns
unfolding blank_spread
returns c = c.spread_quote_of.ensures
