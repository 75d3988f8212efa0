-- The parts are stored one behind the other, as the rows are laid out.
use Rattle.quote.proofs.PlacesLaws.{values_laid_lem}
use Rattle.quote.proofs.quote.values_of.Goals as goal

pub returns : goal.returns
returns c =
    rw (c.put_own.ensures, c.put_trades.ensures, c.put_side-2.ensures, c.put_side.ensures, c.places_of-at.ensures.0)
    (values_laid_lem c.args.form c.args.quote)
