-- The key's rows are among those of the record's form.
use Rattle.std.proofs.Common.{◌≡◌, ap, ◌∙◌, arith, length}
use Rattle.forms.specs.Forms.{rows_of, record_form}
use Rattle.slots.specs.SlotsLaws.{rows_kept}
use Rattle.slots.proofs.records.record_rows.Goals as goal

pub overflow_sub-result : goal.overflow_sub-result
overflow_sub-result c =
    let a = c.args in
    let counted : c.count_of.result ≡ length (rows_of (record_form a.item a.level)) = c.count_of.ensures ∙ ap (λ form. length (rows_of form)) c.record_form.ensures in
    omega (arith, counted, c.key_rows_of.ensures, rows_kept a.item a.level)
