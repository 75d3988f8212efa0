-- The theorems: what `HostDemands` states holds after every history of a host's calls, and of every call.
use Rattle.std.specs.Prelude.{ℕ, ◌*◌, ◌≤◌, ◌<◌, ◌≡◌, refl, List, [], ◌∷◌, ◌↔◌, length, get_or, Result, Ok, Err}
use Rattle.std.proofs.Common.{sym, ap, ap₂, ◌∙◌, arith}
use Rattle.std.proofs.Math.Option.{Option, none, some}
use Rattle.laws.specs.Rules.{first_broken}
use Rattle.lookup.specs.Lookup.{segment_of}
use Rattle.pairs.specs.NoSpreads.{no_spreads}
use Rattle.forms.specs.declared.forms.Item.{Item}
use Rattle.forms.specs.declared.rows.Level.{Level}
use Rattle.state.specs.declared.refusal.Refusal.{Refusal}
use Rattle.state.specs.declared.refusal.Refusal.TheVariants.{Gaps, Memory, NoGap}
use Rattle.state.specs.declared.answers.Judged.{Judged}
use Rattle.state.specs.declared.answers.Recorded.{Recorded}
use Rattle.state.specs.Answers.{started_numbers, judged_numbers, listed_numbers, written_off_numbers, answered, left_by, WrittenOff, runs_told}
use Rattle.state.specs.GoodState.{GoodState}
use Rattle.state.specs.Memory.{Lent}
use Rattle.state.specs.Refusals.{refusal_numbers}
use Rattle.state.specs.RefusalsLaws.{refusal_of}
use Rattle.slots.specs.Slots.{Slot, SlotListed}
use Rattle.forms.specs.Forms.{session_of}
use Rattle.turns.specs.Compared.{compared_in, compared_of, reached_in}
use Rattle.batch.specs.Batch.{count_of, batch_letter, batch_data}
use Rattle.batch.specs.Promises.{JudgedBatch, TookBatch}
use Rattle.starting.specs.StartPromises.{StartedBox}
use Rattle.listing.specs.ListPromises.{ListedRuns, WroteOffRun}
use Rattle.listing.specs.ListPromisesLaws.{off_refusal_lem, runs_in_cells}
use Rattle.listing.specs.ListActs.{list_values, run_values, lowest_run}
use Rattle.listing.specs.ListRules.{gaps_of_letter, list_rules, write_off_rules}
use Rattle.starting.specs.Start.{start_of}
use Rattle.starting.specs.StartActs.{start_broken}
use Rattle.writer.specs.Writer.{length_written}
use Rattle.writer.specs.Chosen.{form_written}
use Rattle.values.specs.Values.{most}
use Rattle.history.specs.Step.{write_refusal, no_spreads_refusal}
use Rattle.history.specs.Past.{Event, highest_in, missing_in, runs_standing, taken_for}
use Rattle.reading.specs.Shown.{QuoteFor, shown}
use Rattle.history.specs.Updates.{item_in, letter_in, key_in, level_in}
use Rattle.history.specs.Exactly.{ReadsNewest, OverInBatch}
use Rattle.history.specs.Exactly as exactly
use Rattle.history.specs.Demands.{AfterCalls}
use Rattle.history.proofs.DemandsLaws.{after_calls, took_judged, refusals_keep, accepted_leave}
use Rattle.history.specs.Histories.{Reached}
use Rattle.history.proofs.OffLaws.{only_none}
use Rattle.host.specs.Promises.{HostJudged, HostTook, HostListed, HostWroteOff, code_of}
use Rattle.told.specs.Shown.{values_after}
use Rattle.told.specs.Told.{told_of, Tells, record_numbers}
use Rattle.hosted.specs.HostCalls.{HostReached}
use Rattle.hosted.proofs.HostHistoriesLaws.{host_reached}
use Rattle.hosted.specs.HostItems.{values_for, laid_from, HostReadItem}
use Rattle.hosted.proofs.HostItemsLaws.{item_put}
use Rattle.hosted.proofs.HostToldLaws.{which_refusal, is_refused, batch_refused, reached_told_lem, keys_told}
use Rattle.hosted.specs.HostDemands.{GivesFour, Gives, reached_told, TellsKeys, ListsMissing, TellsLowest, a_run, no_run, TellsNewest, no_record, a_record, TellsCounts, AfterHostCalls, IsRefused, HostRefusalsKeep, HostAcceptedLeave}
use Rattle.history.specs.Machine.{sequence_number, form_sent}

-- what is said of judging a batch is said of taking it
pub host_took_judged : {lent lent' : Lent} {batch answer' : List ℕ} {returned : ℕ} → HostTook lent batch returned lent' answer' → HostJudged lent batch returned answer'
host_took_judged p = record { judged = p.judged; promised = took_judged p.promised; tells = p.tells }

-- ---- after any sequence of calls from a fresh start

module _ {starts : List ℕ} {lent : Lent} {past : List Event} (reached : HostReached starts lent past) where
  r : Reached starts lent past
  r = host_reached reached

  after : AfterCalls starts lent past
  after = after_calls r

  module _ (letter i : ℕ) (s : segment_of lent.lists.contracts letter ≡ some i) where
    abbrev highest : ℕ
    highest = highest_in i (start_of starts i) past

    abbrev runs : ℕ
    runs = runs_standing i (start_of starts i) past

    lists : (cells : List ℕ) (returned : ℕ) (cells' answer' : List ℕ) → HostListed lent letter cells returned cells' answer'
        → 2 * runs ≤ length cells → ListsMissing i (start_of starts i) past cells returned cells' answer'
    lists cells returned cells' answer' p room =
        let e : p.listed ≡ runs_told highest runs = after.list_answered letter i s cells p.listed cells' p.promised room in
        let said : ListedRuns lent letter cells (runs_told highest runs) cells' = rw e at p.promised in
        let told : Tells (listed_numbers (runs_told highest runs)) returned answer' = rw e at p.tells in
        record {
          gives = record { returns = told.number; answers = told.values };
          names = after.names_missing letter i s cells highest runs cells' said;
          behind = (runs_in_cells highest runs said).1;
        }

    lists_short : (cells : List ℕ) (returned : ℕ) (cells' answer' : List ℕ) → HostListed lent letter cells returned cells' answer'
        → length cells < 2 * runs → Gives returned answer' 15 0 0 (2 * runs) × (cells' ≡ cells)
    lists_short cells returned cells' answer' p short =
        let e : p.listed ≡ Err (Memory (2 * runs)) = after.list_refused letter i s cells p.listed cells' p.promised short in
        let said : ListedRuns lent letter cells (Err (Memory (2 * runs))) cells' = rw e at p.promised in
        let told : Tells (listed_numbers (Err (Memory (2 * runs)))) returned answer' = rw e at p.tells in
        (record { returns = told.number; answers = told.values }, (refusals_keep lent).list_keeps letter cells (Memory (2 * runs)) cells' said)

    writes_off : (returned : ℕ) (lent' : Lent) (answer' : List ℕ) → HostWroteOff lent letter returned lent' answer'
        → TellsLowest (missing_in i (start_of starts i) past) lent returned lent' answer'
    writes_off returned lent' answer' p = go p.written_off_lem p.promised p.tells
      where
        go : (a : WrittenOff) → WroteOffRun lent letter a lent' → Tells (written_off_numbers a) returned answer'
            → TellsLowest (missing_in i (start_of starts i) past) lent returned lent' answer'
        go (Ok run) w t = a_run run.first run.last (after.off_lowest letter i s run.first run.last lent' w) (record { returns = t.number; answers = t.values })
        go (Err refusal) w t =
            let refused = off_refusal_lem refusal w in
            let e : refusal ≡ NoGap = only_none r letter i s refusal lent' w in
            let told : Tells (refusal_numbers NoGap) returned answer' = rw e at t in
            no_run ((after.off_none letter i s (Err refusal) lent' w).0 (ap Err e)) (record { returns = told.number; answers = told.values }) refused.1

  reads : (slot : Slot) → SlotListed lent.lists slot → (values : List ℕ) → length values ≡ most → (returned : ℕ) (values' answer' : List ℕ)
      → HostReadItem (item_in slot) lent (letter_in lent.lists slot) (key_in lent.lists slot) (level_in slot) values returned values' answer'
      → TellsNewest slot (taken_for starts slot past) values returned values' answer'
  reads kept_at there values long returned values' answer' p = go (after.reads_newest kept_at there p.recorded p.quote p.promised)
    where
      item : Item
      item = item_in kept_at

      level : Level
      level = level_in kept_at

      go : ReadsNewest kept_at (taken_for starts kept_at past) p.recorded p.quote → TellsNewest kept_at (taken_for starts kept_at past) values returned values' answer'
      go (exactly.no_record none_taken a q) =
          let told : Tells (record_numbers Recorded.NoRecord) returned answer' = rw a at p.tells in
          no_record none_taken (record { returns = told.number; answers = told.values })
          (p.shows ∙ ap (λ (x : Recorded). values_after item x (values_for item level p.quote) values) a)
      go (exactly.a_record m is a q) =
          let told : Tells (record_numbers (Recorded.Record (sequence_number m) (session_of (form_sent m)))) returned answer' = rw a at p.tells in
          a_record m is (record { returns = told.number; answers = told.values })
          (p.shows ∙ ap₂ (λ (x : Recorded) (y : QuoteFor item). values_after item x (values_for item level y) values) a q
          ∙ item_put item (sequence_number m) (session_of (form_sent m)) level (shown item (form_sent m) m.cells) values long)

  counts : (batch answer' : List ℕ) → HostJudged lent batch 0 answer' → TellsCounts lent.lists starts past batch answer'
  counts batch answer' p = go p.judged p.promised p.tells
    where
      go : (a : Judged) → JudgedBatch lent batch a → Tells (judged_numbers a) 0 answer' → TellsCounts lent.lists starts past batch answer'
      go (Judged.Accepted taken old heartbeats compared) j t =
          record { taken = taken; old = old; heartbeats = heartbeats; compared = compared; gives = t.values; came = after.counts_came batch taken old heartbeats compared j }
      go (Judged.Refused refusal compared) j t = absurd (batch_refused refusal compared t refl)

  refused_for_gaps : (batch : List ℕ) (returned : ℕ) (answer' : List ℕ) → HostJudged lent batch returned answer'
      → (i : ℕ) → ((compared : ℕ) × GivesFour returned answer' 14 i 0 0 compared) ↔ OverInBatch lent.lists starts past batch i
  refused_for_gaps batch returned answer' p i = (
    (λ w. (after.refused_for_gaps batch p.judged p.promised i).0 (go p.judged p.tells w.0 w.1)),
    (λ o.
        let e = (after.refused_for_gaps batch p.judged p.promised i).1 o in
        let told : Tells (judged_numbers (Judged.Refused (Gaps i) e.0)) returned answer' = rw e.1 at p.tells in
        (e.0, record { returns = told.number; answers = told.values })),
  )
    where
      go : (a : Judged) → Tells (judged_numbers a) returned answer' → (compared : ℕ) → GivesFour returned answer' 14 i 0 0 compared → (keys : ℕ) × (a ≡ Judged.Refused (Gaps i) keys)
      go (Judged.Accepted taken old heartbeats keys) t compared g = absurd (omega (arith, t.number, g.returns))
      go (Judged.Refused refusal keys) t compared g =
          (keys, ap (λ (r : Refusal). Judged.Refused r keys) (sym (which_refusal refusal keys t) ∙ ap₂ (λ (n : ℕ) (ns : List ℕ). refusal_of (n ∷ ns)) g.returns g.answers))

  keys : (batch : List ℕ) (returned : ℕ) (answer' : List ℕ) → HostJudged lent batch returned answer' → TellsKeys lent.lists batch returned answer'
  keys batch returned answer' p =
      let told = p.tells in
      let says = after.keys_compared batch p.judged p.promised in
      let fourth : get_or answer' 3 0 ≡ compared_of p.judged = ap (λ (ns : List ℕ). get_or ns 3 0) told.values ∙ keys_told p.judged in
      let came : reached_told (count_of batch) returned (get_or answer' 0 0) ≡ reached_in (count_of batch) p.judged =
      ap₂ (λ (n : ℕ) (ns : List ℕ). reached_told (count_of batch) n (get_or ns 0 0)) told.number told.values ∙ reached_told_lem (count_of batch) p.judged in
      record {
        follows = fourth ∙ says.follows ∙ ap (λ (n : ℕ). compared_in n lent.lists (batch_letter batch) (batch_data batch)) (sym came);
        few = rw fourth says.few;
      }

  -- demand 3, made by a host, after any sequence of calls from a fresh start
  pub after_host_calls : AfterHostCalls starts lent past
  after_host_calls =
      record {
        lists = lists;
        lists_short = lists_short;
        writes_off = writes_off;
        reads = reads;
        counts = counts;
        takes_as_judged = λ batch returned lent' answer' p. host_took_judged p;
        refused_for_gaps = refused_for_gaps;
        keys = keys;
        state_passes = after.state_passes;
      }

-- ---- a refused call changes nothing lent

-- of a call that is refused by the first broken rule, and then leaves what it was lent
kept : {A : Type 0} (o : Option Refusal) (values : List ℕ) (after : A) {numbers : List ℕ} {before left : A} {returned : ℕ} {answer' : List ℕ}
    → numbers ≡ answered o values → left ≡ left_by o before after → Tells numbers returned answer' → IsRefused returned → left ≡ before
kept none values after e l t refused = absurd (refused (t.number ∙ ap (λ (ns : List ℕ). (told_of ns).number) e))
kept (some refusal) values after e l t refused = l

pub host_refusals_keep : (lent : Lent) → HostRefusalsKeep lent
host_refusals_keep lent =
    record {
      start_keeps = λ starts returned lent' answer' p. kept (start_broken lent starts) [] _ p.promised.answers p.promised.left p.tells;
      take_keeps = λ batch returned lent' answer' p. took batch lent' p.judged p.promised p.tells;
      list_keeps = λ letter cells returned cells' answer' p.
          kept (first_broken (list_rules lent letter (length cells))) (list_values (gaps_of_letter lent letter)) _ p.promised.answers p.promised.cells_left p.tells;
      write_off_keeps = λ letter returned lent' answer' p.
          kept (first_broken (write_off_rules lent letter)) (run_values (lowest_run (gaps_of_letter lent letter))) _ p.promised.answers p.promised.left p.tells;
      read_keeps = λ item letter key level values returned values' answer' p refused.
          p.shows ∙ stays item p.recorded (values_for item level p.quote) values p.tells refused;
      write_keeps = λ item code level number key values out returned out' answer' p.
          kept (write_refusal item (code_of code) level number key (laid_from item level values) out) (length_written (form_written item (code_of code) level) ∷ []) _
          p.promised.answers p.promised.out_left p.tells;
      no_spreads_keeps = λ list out returned out' answer' p.
          kept (no_spreads_refusal list out) (length (no_spreads list) ∷ []) _ p.promised.answers p.promised.left p.tells;
    }
  where
    took : (batch : List ℕ) (lent' : Lent) {returned : ℕ} {answer' : List ℕ} (a : Judged) → TookBatch lent batch a lent'
        → Tells (judged_numbers a) returned answer' → IsRefused returned → lent' ≡ lent
    took batch lent' (Judged.Accepted taken old heartbeats compared) p t refused = absurd (refused t.number)
    took batch lent' (Judged.Refused refusal compared) p t refused = (refusals_keep lent).take_keeps batch refusal compared lent' p

    stays : (item : Item) (a : Recorded) (rows values : List ℕ) {returned : ℕ} {answer' : List ℕ}
        → Tells (record_numbers a) returned answer' → IsRefused returned → values_after item a rows values ≡ values
    stays item (Recorded.Record number session) rows values t refused = absurd (refused t.number)
    stays item Recorded.NoRecord rows values t refused = refl
    stays item (Recorded.Refused refusal) rows values t refused = refl

-- ---- an accepted call leaves a state that passes

pub host_accepted_leave : (lent : Lent) → HostAcceptedLeave lent
host_accepted_leave lent =
    record {
      start_leaves = λ starts lent' answer' p. started starts lent' p.started p.promised p.tells;
      take_leaves = λ batch lent' answer' p. took batch lent' p.judged p.promised p.tells;
      write_off_leaves = λ letter lent' answer' p. wrote_off_lem letter lent' p.written_off_lem p.promised p.tells;
    }
  where
    started : (starts : List ℕ) (lent' : Lent) {answer' : List ℕ} (a : Result (Unit {0}) Refusal) → StartedBox lent starts a lent' → Tells (started_numbers a) 0 answer' → GoodState lent'
    started starts lent' (Ok _) p t = (accepted_leave lent).start_leaves starts lent' p
    started starts lent' (Err refusal) p t = absurd (is_refused refusal t refl)

    took : (batch : List ℕ) (lent' : Lent) {answer' : List ℕ} (a : Judged) → TookBatch lent batch a lent' → Tells (judged_numbers a) 0 answer' → GoodState lent'
    took batch lent' (Judged.Accepted taken old heartbeats compared) p t = (accepted_leave lent).take_leaves batch taken old heartbeats compared lent' p
    took batch lent' (Judged.Refused refusal compared) p t = absurd (batch_refused refusal compared t refl)

    wrote_off_lem : (letter : ℕ) (lent' : Lent) {answer' : List ℕ} (a : WrittenOff) → WroteOffRun lent letter a lent' → Tells (written_off_numbers a) 0 answer' → GoodState lent'
    wrote_off_lem letter lent' (Ok run) p t = (accepted_leave lent).write_off_leaves letter run.first run.last lent' p
    wrote_off_lem letter lent' (Err refusal) p t = absurd (is_refused refusal t refl)
