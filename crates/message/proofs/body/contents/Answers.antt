-- Each by its law.
use Rattle.std.proofs.Common.{⊎_elim, ℕ, List, ◌≡◌, sym, ◌∙◌}
use Rattle.forms.specs.AnswersLaws.{subject_told}
use Rattle.head.specs.Fields.{length_of, form_in}
use Rattle.head.specs.HeadLaws.{framed_exact}
use Rattle.message.specs.MessageLaws.{heartbeat_reads, passed_over_reads, no_length_reads}
use Rattle.message.proofs.body.contents.Goals.{After-length_of-whole}
use Rattle.message.proofs.body.contents.Goals as goal

module _ (c : After-length_of-whole) where
  abbrev bytes : List ℕ
  bytes = c.args.bytes.now

  whole_is : c.length_of-whole.result ≡ length_of bytes
  whole_is = c.length_of-whole.ensures

  form_is : form_in bytes ≡ c.args.named
  form_is = sym c.requires.1

pub update-requires : goal.update-requires
update-requires c =
    let d = (goal.at.update-requires c).After-length_of-whole in
    ((framed_exact _).0 d.requires.0, whole_is d, form_is d ∙ c.in-Form.is, (_, sym (subject_told c.subject_of.result _ c.subject_of.ensures) ∙ c.in-Of.is))

pub returns-in-Nothing : goal.returns-in-Nothing
returns-in-Nothing c = let d = (goal.at.returns-in-Nothing c).After-length_of-whole in heartbeat_reads _ _ (bytes d) _ (whole_is d) d.args.cells.now _ (form_is d ∙ c.in-Form.is) (sym (subject_told c.subject_of.result _ c.subject_of.ensures) ∙ c.in-Nothing.is)

pub returns-in-NoLength : goal.returns-in-NoLength
returns-in-NoLength c =
    let d = (goal.at.returns-in-NoLength c).After-length_of-whole in
    rw c.number_of.ensures
    (⊎_elim
    (λ e. no_length_reads _ _ (bytes d) _ (whole_is d) d.args.cells.now (form_is d ∙ e))
    (λ e. passed_over_reads _ _ (bytes d) _ (whole_is d) d.args.cells.now (form_is d ∙ e))
    c.in-NoLength.is)
