-- The layouts are short enough for the walk; its bytes are laid over the data where all rows are good, and nowhere else.
use Rattle.std.proofs.Common.{ℕ, ◌≤◌, ◌≡◌, refl, ap, sym, ◌∙◌, List, arith, length, take, length-take, length-take-le, Ok}
use Rattle.forms.specs.Forms.{rows_of}
use Rattle.forms.specs.Rows.{data_length}
use Rattle.forms.specs.FormsLaws.{fits}
use Rattle.layout.specs.AnswersLaws.{verdict_told}
use Rattle.compose.specs.Write.{Laid, write_rows, WritesRows, over_front}
use Rattle.compose.specs.WriteLaws.{good_length}
use Rattle.compose.proofs.write.write_update.Goals.{After-data_length}
use Rattle.compose.proofs.write.write_update.Goals as goal

module _ (c : After-data_length) where
  abbrev rows : Laid
  rows = write_rows 0 (rows_of c.args.form) c.args.key.now c.args.values.now

  wrote : WritesRows rows c.write_rows.result c.write_rows.new.bytes
  wrote = rw c.rows_of.ensures at c.write_rows.ensures

  good : rows.verdict ≡ Ok tt
  good = sym (verdict_told _ _ wrote.answers) ∙ c.in_ok-write_rows.was

  long : length rows.bytes ≡ data_length (rows_of c.args.form)
  long = good_length 0 (rows_of c.args.form) c.args.key.now c.args.values.now good

  are-there : data_length (rows_of c.args.form) ≤ length c.write_rows.new.bytes
  are-there = omega (arith, long, simp length-take at (ap length wrote.in_front))

pub write_rows-requires : goal.write_rows-requires
write_rows-requires c =
    let fit = fits c.args.form in
    rw c.rows_of.ensures (fit.rows_fit, fit.data_fits)

pub slice_bounds-bytes-end : goal.slice_bounds-bytes-end
slice_bounds-bytes-end c = let d = (goal.at.slice_bounds-bytes-end c).After-data_length in rw c.data_length.ensures (are-there d)

pub slice_bounds-put_front-end : goal.slice_bounds-put_front-end
slice_bounds-put_front-end c =
    let d = (goal.at.slice_bounds-put_front-end c).After-data_length in sym (length-take-le _ _ (rw c.data_length.ensures (are-there d)))

pub returns : goal.returns
returns c =
    let d = (goal.at.returns c).After-data_length in
    let same : take c.data_length.result c.write_rows.new.bytes ≡ (rows d).bytes = rw (c.data_length.ensures, ← long d) (wrote d).in_front in
    record {
      answers = rw (good d) refl;
      leaves = rw (good d) (c.put_front.ensures ∙ ap (λ (l : List ℕ). over_front l c.args.data.now) same);
    }
