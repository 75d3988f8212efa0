-- The data, and what a message has beside it.
use native.Mathlib.Omega.{arith}
use Rattle.forms.specs.FormsLaws.{fits}
use Rattle.forms.proofs.forms.length_of.Goals as goal

pub overflow_add-result : goal.overflow_add-result
overflow_add-result c = omega (arith, c.data_length.ensures, (fits c.args.form).data_fits)
