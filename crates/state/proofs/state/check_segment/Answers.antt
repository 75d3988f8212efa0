-- The state first, and then the letter.
use Rattle.std.proofs.Common.{◌≡◌, sym, ap, ◌∙◌}
use Rattle.std.proofs.Math.Option.{none}
use Rattle.std.proofs.lemmas.Result.{err_from_is_err_and}
use Rattle.pairs.specs.Lists.{lists}
use Rattle.state.specs.Memory.{lends}
use Rattle.laws.specs.Refused.{code_no}
use Rattle.laws.specs.Rules.{first_broken}
use Rattle.lookup.specs.AnswersLaws.{found_told}
use Rattle.lookup.specs.Lookup.{segment_of}
use Rattle.state.specs.AnswersLaws.{checked_refusal, checked_told}
use Rattle.state.specs.State.{state_rules}
use Rattle.state.specs.StateLaws.{state_broken, asks_listed, asks_refused}
use Rattle.state.proofs.state.check_segment.Goals as goal

pub returns-in_err-check_state : goal.returns-in_err-check_state
returns-in_err-check_state c =
    let a = c.args in
    let lent = lends (lists a.list.now a.spreads.now) a.rows.now a.records.now in
    let broken = sym (checked_told c.check_state.result (first_broken (state_rules lent)) c.check_state.ensures) ∙ ap checked_refusal c.in_err-check_state.was in
    let p = err_from_is_err_and c.from_residual.result c.from_residual.ensures.1 in
    rw (p.1, p.2) (asks_refused lent a.letter _ (state_broken lent a.letter _ broken))

pub returns : goal.returns
returns c =
    let a = c.args in
    let lent = lends (lists a.list.now a.spreads.now) a.rows.now a.records.now in
    let good : first_broken (state_rules lent) ≡ none = sym (checked_told c.check_state.result _ c.check_state.ensures) ∙ ap checked_refusal c.in_ok-check_state.was in
    rw c.ok_or.ensures.value (asks_listed lent a.letter good _ (found_told code_no c.segment_of.result (segment_of a.list.now a.letter) c.segment_of.ensures))
