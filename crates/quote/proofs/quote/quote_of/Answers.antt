-- Each field is what its cell means.
use Rattle.quote.proofs.PlacesLaws.{quote_laid}
use Rattle.quote.proofs.quote.quote_of.Goals as goal

pub returns : goal.returns
returns c =
    rw (← quote_laid c.args.form c.args.cells.now, ← c.places_of-at.ensures.0)
    (λ i.
    record {
      market_type = c.letter_at.ensures i;
      time_stamp = c.quantity_at.ensures i;
      buy = c.side_at.ensures i;
      sell = c.side_at-2.ensures i;
      last = c.price_at.ensures i;
      traded = c.quantity_at-2.ensures i;
      status = c.letter_at-2.ensures i;
      opening = c.price_at-2.ensures i;
      high = c.price_at-3.ensures i;
      low = c.price_at-4.ensures i;
      close = c.price_at-5.ensures i;
      average = c.price_at-6.ensures i;
      buyers = c.quantity_at-3.ensures i;
      sellers = c.quantity_at-4.ensures i;
      turnover = c.turnover_at.ensures i;
    })
