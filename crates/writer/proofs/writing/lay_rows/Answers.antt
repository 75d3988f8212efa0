-- The values, written row by row.
use Rattle.writer.specs.WriterLaws.{form_rows}
use Rattle.writer.proofs.writing.lay_rows.Goals as goal

pub returns : goal.returns
returns c =
    let a = c.args in
    form_rows a.form a.key.now a.values.now c.write_update.ensures c.of_verdict.ensures
