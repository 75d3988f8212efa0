-- The parts are stored one behind the other, as the rows are laid out.
use Rattle.spread.proofs.PlacesLaws.{spread_values_laid_lem}
use Rattle.spread.proofs.spread.spread_values_of.Goals as goal

pub returns : goal.returns
returns c =
    rw (c.put_differences.ensures, c.put_spread_side-2.ensures, c.put_spread_side.ensures, c.places_of-at.ensures.0)
    (spread_values_laid_lem c.args.form c.args.quote)
