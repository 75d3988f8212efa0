-- The cells hold the quote that the values do.
use Rattle.std.proofs.Common.{◌∙◌}
use Rattle.values.specs.ValuesLaws.{spread_held}
use Rattle.values.proofs.spread_in.Goals as goal

pub returns : goal.returns
returns c =
    let held = c in
    let a = held.args in
    c.spread_quote_of.ensures ∙ (rw (c.record_form.ensures, held.laid_in-laid.ensures.1)) ∙ spread_held a.level a.values.now held.laid_in-laid.ensures.0
