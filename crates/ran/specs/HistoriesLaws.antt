-- A history of calls over a lent row of runs is one of calls over numbers, so that demand 3 holds of it too.
use Rattle.std.specs.Prelude.{ℕ, ◌≤◌, List, length}
use Rattle.std.proofs.Common.{sym, subst, arith}
use Rattle.pairs.specs.Lists.{Lists}
use Rattle.state.specs.Memory.{lends}
use Rattle.state.specs.GoodState.{GoodState}
use Rattle.history.specs.Past.{Event}
use Rattle.history.specs.Histories.{Reached}
use Rattle.history.proofs.HistoriesLaws.{reached_begun, reached_take, reached_off}
use Rattle.history.specs.Exactly.{SameTaken}
use Rattle.history.specs.Demands.{AfterCalls}
use Rattle.history.proofs.DemandsLaws.{after_calls, two_agree}
use Rattle.copies.specs.declared.run.Run.{Run}
use Rattle.copies.specs.Rows.{flat}
use Rattle.runs.specs.Wanted.{runs_wanted}
use Rattle.copies.specs.FlatLaws.{length_flat}
use Rattle.runs.specs.PromisesLaws.{judged_enough, took_enough, listed_enough, wrote_off_enough, read_enough, started_core, started_refused}
use Rattle.ran.specs.Histories.{ReachedRuns, begun, refused_start, judge, take, list_gaps, write_off, read_record, write_message, no_spreads, AsNumbers, AgreeRuns}

-- a state that passes has the rows wanted
enough : (lists : Lists) (rows : List Run) (records : List ℕ) → GoodState (lends lists (flat rows) records) → runs_wanted lists.contracts ≤ length rows
enough lists rows records good = omega (arith, length_flat rows, good.rows_lent)

module _ {lists : Lists} {starts : List ℕ} where
  pub reached_numbers : {rows : List Run} {records : List ℕ} {past : List Event} → ReachedRuns lists starts rows records past → Reached starts (lends lists (flat rows) records) past
  reached_numbers (begun p) = reached_begun (started_core p)
  reached_numbers (refused_start {rows} {rows'} {records} {records'} {past} r lists' starts' refusal p) =
      let kept = started_refused refusal p in
      subst (λ (ns : List ℕ). Reached starts (lends lists (flat rows') ns) past) (sym kept.1) (subst (λ (l : List Run). Reached starts (lends lists (flat l) records) past) (sym kept.0) (reached_numbers r))
  reached_numbers (judge r batch answer p) = reached_numbers r
  reached_numbers (take {rows} {rows'} {records} r batch answer p) =
      let before = reached_numbers r in
      reached_take before batch answer (took_enough lists rows (enough lists rows records (after_calls before).state_passes) answer p)
  reached_numbers (list_gaps r letter cells answer cells' p) = reached_numbers r
  reached_numbers (write_off {rows} {rows'} {records} r letter answer p) =
      let before = reached_numbers r in
      reached_off before letter answer (wrote_off_enough lists rows (enough lists rows records (after_calls before).state_passes) answer p)
  reached_numbers (read_record r item letter key level answer quote p) = reached_numbers r
  reached_numbers (write_message r item code level number key cells out answer out' p) = reached_numbers r
  reached_numbers (no_spreads r list out answer out' p) = reached_numbers r

  module _ {rows : List Run} {records : List ℕ} {past : List Event} (r : ReachedRuns lists starts rows records past) where
    -- demand 3, of the row seen as numbers, after any sequence of calls from a fresh start
    pub after_run_calls : AfterCalls starts (lends lists (flat rows) records) past
    after_run_calls = after_calls (reached_numbers r)

    -- and what a call over runs then answers is said of the call over numbers
    pub as_numbers : AsNumbers lists rows records
    as_numbers =
        let wanted = enough lists rows records after_run_calls.state_passes in
        record {
          judges = λ batch answer p. judged_enough lists rows wanted answer p;
          takes = λ batch answer rows' records' p. took_enough lists rows wanted answer p;
          lists_gaps = λ letter cells answer cells' p. listed_enough lists rows wanted answer p;
          writes_off = λ letter answer rows' p. wrote_off_enough lists rows wanted answer p;
          reads = λ item letter key level answer quote p. read_enough lists rows wanted answer p;
        }

-- two boxes that took the same messages agree
pub two_agree_runs : {lists : Lists} {starts starts' : List ℕ} {rows rows' : List Run} {records records' : List ℕ} {past past' : List Event}
    → ReachedRuns lists starts rows records past → ReachedRuns lists starts' rows' records' past' → SameTaken lists starts past lists starts' past'
    → AgreeRuns lists rows records rows' records'
two_agree_runs r r' same =
    let agree = two_agree (reached_numbers r) (reached_numbers r') same in
    record {
      same_gaps = λ letter cells a b cells' cells'' p q. agree.same_gaps letter cells a b cells' cells'' ((as_numbers r).lists_gaps letter cells a cells' p) ((as_numbers r').lists_gaps letter cells b cells'' q);
      same_records = λ item letter key level a b quote quote' p q.
          agree.same_records item letter key level a b quote quote' ((as_numbers r).reads item letter key level a quote p) ((as_numbers r').reads item letter key level b quote' q);
    }
