-- The values of the rows are among those of all rows.
use Rattle.values.specs.ValuesLaws.{spread_values_behind}
use Rattle.values.proofs.put_spread.Goals as goal

pub returns : goal.returns
returns c =
    let made = c in
    let a = made.args in
    rw (made.spread_values_of-laid.ensures, made.record_form.ensures, spread_values_behind a.level a.quote) at c.put_rows.ensures
