-- By the form that the code and the level choose of a pair.
use Rattle.std.proofs.Common.{sym, ◌∙◌}
use Rattle.std.proofs.lemmas.Result.{err_from_is_err_and}
use Rattle.forms.specs.declared.forms.Item.TheVariants.{Pair}
use Rattle.forms.specs.AnswersLaws.{chosen_told}
use Rattle.spread.specs.Spread.{spread_values_of}
use Rattle.state.specs.AnswersLaws.{there_told, refusal_there}
use Rattle.writer.specs.WriterLaws.{form_chosen_lem, none_chosen}
use Rattle.writer.proofs.writing.write_spread.Goals as goal

pub returns-in_err-form : goal.returns-in_err-form
returns-in_err-form c =
    let a = c.args in
    let none = refusal_there _ _ (sym c.ok_or.ensures.value ∙ c.in_err-form.was) in
    let p = err_from_is_err_and c.from_residual.result c.from_residual.ensures.1 in
    rw (p.1, p.2, none.1)
    (none_chosen Pair a.code a.level a.number a.pair.now (λ form. spread_values_of form a.quote) a.out.now (sym (chosen_told c.written_form-chosen.ensures) ∙ none.0))

pub returns : goal.returns
returns c =
    let a = c.args in
    let chose = sym (chosen_told c.written_form-chosen.ensures) ∙ there_told _ _ (sym c.ok_or.ensures.value ∙ c.in_ok-form.was) in
    form_chosen_lem Pair a.code a.level a.number a.pair.now (λ form. spread_values_of form a.quote) a.out.now chose c.spread_values_of-values.ensures c.write_form.ensures
