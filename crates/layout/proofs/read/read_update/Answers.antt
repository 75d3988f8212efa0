-- No form has more rows than there are cells.
use Rattle.forms.specs.FormsLaws.{fits}
use Rattle.layout.proofs.read.read_update.Goals as goal

pub read_rows-requires : goal.read_rows-requires
read_rows-requires c = rw c.rows_of.ensures (fits c.args.form).rows_fit
