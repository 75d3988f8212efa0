-- The letter's segment first, and then the key in it.
use Rattle.std.proofs.Common.{ℕ, sym, ap, ◌∙◌}
use Rattle.std.proofs.lemmas.Result.{err_from_is_err_and}
use Rattle.pairs.specs.Lists.{lists}
use Rattle.state.specs.Memory.{lends}
use Rattle.laws.specs.Refused.{contract_no}
use Rattle.lookup.specs.Answers.{place_of}
use Rattle.lookup.specs.AnswersLaws.{found_told}
use Rattle.state.specs.AnswersLaws.{there_told, refusal_there}
use Rattle.slots.specs.Places.{record_at}
use Rattle.state.specs.StateLaws.{asked_segment, asked_refused}
use Rattle.reading.specs.RecordLaws.{segment_broken, key_broken, key_holds, record_found, place_few, record_lent, finds_at, finds_refused}
use Rattle.reading.proofs.record.find_record.Goals as goal

pub returns-in_err-segment : goal.returns-in_err-segment
returns-in_err-segment c =
    let a = c.args in
    let lent = lends (lists a.list.now a.spreads.now) a.rows.now a.records.now in
    let p = err_from_is_err_and c.from_residual.result c.from_residual.ensures.1 in
    rw (p.1, p.2)
    (finds_refused a.item lent a.letter a.key.now a.level _
    (segment_broken a.item lent a.letter a.key.now _ (asked_refused lent a.letter _ (rw c.in_err-segment.was at c.check_segment.ensures))))

pub returns-in_err-place : goal.returns-in_err-place
returns-in_err-place c =
    let a = c.args in
    let lent = lends (lists a.list.now a.spreads.now) a.rows.now a.records.now in
    let asked = asked_segment lent a.letter _ (rw c.in_ok-segment.was at c.check_segment.ensures) in
    let looked = sym (found_told contract_no c.find-sought.result.found _ c.find-sought.ensures.place) in
    let refused = refusal_there _ _ (sym c.ok_or.ensures.value ∙ c.in_err-place.was) in
    let p = err_from_is_err_and c.from_residual-in_err-place.result c.from_residual-in_err-place.ensures.1 in
    rw (p.1, p.2, refused.1)
    (finds_refused a.item lent a.letter a.key.now a.level _ (key_broken a.item lent a.letter a.key.now asked.0 c.in_ok-segment.segment asked.1 (looked ∙ ap place_of refused.0)))

pub record_at-requires : goal.record_at-requires
record_at-requires c =
    let a = c.args in
    let lent = lends (lists a.list.now a.spreads.now) a.rows.now a.records.now in
    let asked = asked_segment lent a.letter _ (rw c.in_ok-segment.was at c.check_segment.ensures) in
    let looked = sym (found_told contract_no c.find-sought.result.found _ c.find-sought.ensures.place) in
    let found = looked ∙ ap place_of (there_told _ _ (sym c.ok_or.ensures.value ∙ c.in_ok-place.was)) in
    (c.fronts_of-fronts.ensures.small a.item, place_few a.item lent a.letter a.key.now asked.0 c.in_ok-segment.segment asked.1 _ found)

pub returns : goal.returns
returns c =
    let a = c.args in
    let lent = lends (lists a.list.now a.spreads.now) a.rows.now a.records.now in
    let asked = asked_segment lent a.letter _ (rw c.in_ok-segment.was at c.check_segment.ensures) in
    let looked = sym (found_told contract_no c.find-sought.result.found _ c.find-sought.ensures.place) in
    let found = looked ∙ ap place_of (there_told _ _ (sym c.ok_or.ensures.value ∙ c.in_ok-place.was)) in
    let at = c.record_at.ensures ∙ ap (λ (n : ℕ). record_at a.item n c.in_ok-place.place a.level) (c.fronts_of-fronts.ensures.are a.item) in
    finds_at a.item lent a.letter a.key.now a.level
    (key_holds a.item lent a.letter a.key.now asked.0 c.in_ok-segment.segment asked.1 _ found)
    (at ∙ record_found a.item lent a.letter a.key.now asked.0 c.in_ok-segment.segment asked.1 _ found a.level)
    (rw at (record_lent a.item lent a.letter a.key.now asked.0 c.in_ok-segment.segment asked.1 _ found a.level))
