-- The cells hold the quote that the values do.
use Rattle.std.proofs.Common.{◌∙◌}
use Rattle.values.specs.ValuesLaws.{quote_held_lem}
use Rattle.values.proofs.quote_in.Goals as goal

pub returns : goal.returns
returns c =
    let held = c in
    let a = held.args in
    c.quote_of.ensures ∙ (rw (c.record_form.ensures, held.laid_in-laid.ensures.1)) ∙ quote_held_lem a.level a.values.now held.laid_in-laid.ensures.0
