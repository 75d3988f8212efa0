-- The values of the rows are among those of all rows.
use Rattle.values.specs.ValuesLaws.{values_behind}
use Rattle.values.proofs.put.Goals as goal

pub returns : goal.returns
returns c =
    let made = c in
    let a = made.args in
    rw (made.values_of-laid.ensures, made.record_form.ensures, values_behind a.level a.quote) at c.put_rows.ensures
