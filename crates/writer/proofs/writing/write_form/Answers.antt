-- The number, the rows, and then the message.
use Rattle.std.specs.Prelude.{Option, Some}
use Rattle.std.proofs.Common.{arith, ◌≡◌, ap, sym, ◌∙◌, length, take, replicate, length-take}
use Rattle.std.proofs.Math.Option.{none}
use Rattle.std.proofs.lemmas.Result.{err_from_is_err_and}
use Rattle.laws.specs.Rules.{first_broken}
use Rattle.forms.specs.declared.forms.Form.{Form}
use Rattle.forms.specs.Forms.{rows_of}
use Rattle.forms.specs.FormsLaws.{fits}
use Rattle.forms.specs.Rows.{data_length}
use Rattle.forms.specs.Sizes.{most_data}
use Rattle.compose.specs.Write.{Laid}
use Rattle.state.specs.AnswersLaws.{checked_refusal, checked_told}
use Rattle.writer.specs.Writer.{code_rules, rows_rules, data_written, LaysRows}
use Rattle.writer.specs.WriterLaws.{other_number, code_holds, code_refused, rows_refused, sent, long_rows, laid_rows}
use Rattle.writer.proofs.writing.write_form.Goals.{In_ok-lay_rows, After-lay_rows}
use Rattle.writer.proofs.writing.write_form.Goals as goal

-- what is known once the rows are laid
module _ (l : After-lay_rows) where
  abbrev form : Option Form
  form = Some l.args.form

  abbrev rows : Laid
  rows = data_written form l.args.key.now l.args.values.now

  coded : first_broken (code_rules form l.args.number) ≡ none
  coded = code_holds l.args.form l.args.number (sym l.takes_number.ensures ∙ l.if-not-takes_number.false)

  lays : LaysRows rows (replicate most_data 0) l.lay_rows.result l.lay_rows.new.data
  lays = l.lay_rows.ensures

-- and all of them good
module _ (t : In_ok-lay_rows) where
  abbrev laid : After-lay_rows
  laid = (goal.at.In_ok-lay_rows t).After-lay_rows

  passed : first_broken (rows_rules (rows laid).verdict) ≡ none
  passed = sym (checked_told laid.lay_rows.result _ (lays laid).answers) ∙ ap checked_refusal t.in_ok-lay_rows.was

  long : length (rows laid).bytes ≡ data_length (rows_of t.args.form)
  long =
      let a = t.args in
      long_rows (form laid) a.code a.number a.key.now a.values.now a.out.now (coded laid) passed

  -- as they lie on scratch memory
  in_front : take (data_length (rows_of t.args.form)) laid.lay_rows.new.data ≡ (rows laid).bytes
  in_front =
      let a = t.args in
      laid_rows (form laid) a.code a.number a.key.now a.values.now a.out.now (coded laid) passed {before = replicate most_data 0}
      (omega (arith, long, (fits a.form).data_fits)) (lays laid)

pub returns-then-not-takes_number : goal.returns-then-not-takes_number
returns-then-not-takes_number c =
    let a = c.args in
    code_refused (Some a.form) a.code a.number a.key.now a.values.now a.out.now _
    (other_number a.form a.number (sym c.takes_number.ensures ∙ c.if-not-takes_number.true))

pub put_message-requires : goal.put_message-requires
put_message-requires c =
    let t = (goal.at.put_message-requires c).In_ok-lay_rows in
    let there = simp length-take at (ap length (in_front t)) in
    rw c.data_length.ensures ((fits t.args.form).data_fits, omega (arith, there, long t))

pub returns-in_err-lay_rows : goal.returns-in_err-lay_rows
returns-in_err-lay_rows c =
    let l = (goal.at.returns-in_err-lay_rows c).After-lay_rows in
    let a = c.args in
    let broken = sym (checked_told l.lay_rows.result (first_broken (rows_rules (rows l).verdict)) (lays l).answers) ∙ ap checked_refusal c.in_err-lay_rows.was in
    let p = err_from_is_err_and c.from_residual.result c.from_residual.ensures.1 in
    rw (p.1, p.2) (rows_refused (form l) a.code a.number a.key.now a.values.now a.out.now (coded l) _ broken)

pub returns : goal.returns
returns c =
    let t = (goal.at.returns c).In_ok-lay_rows in
    let l = laid t in
    let a = c.args in
    sent (form l) a.code a.number a.key.now a.values.now a.out.now (coded l) (passed t)
    (rw (c.data_length.ensures, in_front t) at c.put_message.ensures)
