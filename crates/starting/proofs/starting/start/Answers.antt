-- Where no rule is broken the rows begin and the records are cleared; else nothing is written.
use Rattle.std.proofs.Common.{ℕ, ◌*◌, ◌≡◌, sym, ap, ◌∙◌, ◌++◌, length, drop, replicate}
use Rattle.std.proofs.Math.Option.{none}
use Rattle.pairs.specs.Lists.{lists}
use Rattle.laws.specs.Rules.{first_broken}
use Rattle.state.specs.Memory.{lends, gap_row_cells}
use Rattle.state.specs.AnswersLaws.{checked_refusal, checked_told}
use Rattle.starting.specs.Start.{start_rules, GoodStart}
use Rattle.starting.specs.StartActs.{started_rows, rows_started, records_cleared}
use Rattle.starting.specs.StartLaws.{start_exact}
use Rattle.starting.specs.StartPromisesLaws.{start_done}
use Rattle.starting.proofs.starting.start.Goals as goal

pub begin_rows-requires : goal.begin_rows-requires
begin_rows-requires c =
    let held : let a = c.args in first_broken (start_rules (lists a.list.now a.spreads.now) a.starts.now (length a.rows.now) (length a.records.now)) ≡ none = sym (checked_told c.check_start.result _ c.check_start.ensures) ∙ ap checked_refusal c.in_ok-check_start.was in
    let good : let a = c.args in GoodStart (lists a.list.now a.spreads.now) a.starts.now (length a.rows.now) (length a.records.now) =
    let a = c.args in
    (start_exact (lists a.list.now a.spreads.now) a.starts.now (length a.rows.now) (length a.records.now)).0 held in
    rw c.segments.ensures good.rows_lent

pub clear-requires : goal.clear-requires
clear-requires c =
    let held : let a = c.args in first_broken (start_rules (lists a.list.now a.spreads.now) a.starts.now (length a.rows.now) (length a.records.now)) ≡ none = sym (checked_told c.check_start.result _ c.check_start.ensures) ∙ ap checked_refusal c.in_ok-check_start.was in
    let good : let a = c.args in GoodStart (lists a.list.now a.spreads.now) a.starts.now (length a.rows.now) (length a.records.now) =
    let a = c.args in
    (start_exact (lists a.list.now a.spreads.now) a.starts.now (length a.rows.now) (length a.records.now)).0 held in
    let told = c in
    rw c.records_wanted.ensures good.records_lent

pub returns : goal.returns
unfolding rows_started records_cleared
returns c =
    let held : let a = c.args in first_broken (start_rules (lists a.list.now a.spreads.now) a.starts.now (length a.rows.now) (length a.records.now)) ≡ none = sym (checked_told c.check_start.result _ c.check_start.ensures) ∙ ap checked_refusal c.in_ok-check_start.was in
    let clear = c in
    let begin = clear in
    let told = begin in
    let a = told.args in
    start_done (lends (lists a.list.now a.spreads.now) a.rows.now a.records.now) a.starts.now held
    (begin.begin_rows.ensures ∙ ap (λ (n : ℕ). started_rows n a.starts.now ++ drop (gap_row_cells * n) a.rows.now) begin.segments.ensures)
    (clear.clear.ensures ∙ ap (λ (n : ℕ). replicate n 0 ++ drop n a.records.now) clear.records_wanted.ensures)
