-- Each field is what its cell means.
use Rattle.spread.proofs.PlacesLaws.{spread_laid}
use Rattle.spread.proofs.spread.spread_quote_of.Goals as goal

pub returns : goal.returns
returns c =
    rw (← spread_laid c.args.form c.args.cells.now, ← c.places_of-at.ensures.0)
    (λ i.
    record {
      buy = c.spread_side_at.ensures i;
      sell = c.spread_side_at-2.ensures i;
      last = c.difference_at.ensures i;
      traded = c.quantity_at.ensures i;
      opening = c.difference_at-2.ensures i;
      high = c.difference_at-3.ensures i;
      low = c.difference_at-4.ensures i;
      buyers = c.quantity_at-2.ensures i;
      sellers = c.quantity_at-3.ensures i;
    })
