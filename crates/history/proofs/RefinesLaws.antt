-- The calls refine the machine: after every history each call answers what the machine may answer, and leaves what it leaves.
use Rattle.std.specs.Prelude.{ℕ, ◌*◌, ◌≤◌, ◌<◌, ◌≡◌, refl, List, [], Ok, Err}
use Rattle.std.proofs.Common.{sym, ◌∙◌}
use Rattle.std.proofs.Math.Path.{ap, subst}
use Rattle.std.proofs.Math.Logic.{⊎_elim}
use Rattle.std.proofs.Math.Option.{Option, none, some}
use Rattle.std.proofs.Math.ListN.{length}
use Rattle.laws.specs.Rules.{first_broken}
use Rattle.laws.specs.RulesLaws.{some_broken, front_broken}
use Rattle.laws.specs.Choice.{never}
use Rattle.laws.specs.Order.{order}
use Rattle.lookup.specs.Lookup.{segment_of}
use Rattle.lookup.specs.LookupLaws.{segment_has, segment_exact, key_at_place}
use Rattle.pairs.specs.Lists.{Lists, SoundLists}
use Rattle.sequence.specs.Runs.{◌to◌}
use Rattle.forms.specs.declared.rows.Level.{Level}
use Rattle.forms.specs.declared.forms.Item.{Item}
use Rattle.forms.specs.declared.forms.Item.TheVariants as item
use Rattle.pairs.specs.Items.{file_of, habit_of}
use Rattle.message.specs.Message.{place_in}
use Rattle.quote.specs.Quote.{values_of}
use Rattle.spread.specs.Spread.{spread_values_of}
use Rattle.message.specs.Good.{KeyListed}
use Rattle.head.specs.GoodHead.{LetterListed}
use Rattle.message.specs.GoodLaws.{key_listed}
use Rattle.message.specs.MessageLaws.{key_in}
use Rattle.state.specs.declared.refusal.Refusal.{Refusal}
use Rattle.state.specs.declared.refusal.Refusal.TheVariants.{Code, Contract, Memory, NoGap}
use Rattle.state.specs.declared.answers.Judged.{Judged}
use Rattle.state.specs.declared.answers.Recorded.{Recorded}
use Rattle.state.specs.Answers.{answered, Listed, WrittenOff, run_told}
use Rattle.state.specs.AnswersLaws.{listed_told, written_off_told, recorded_told}
use Rattle.state.specs.Memory.{Lent}
use Rattle.slots.specs.Slots.{slot}
use Rattle.state.specs.State.{segment_rules}
use Rattle.state.specs.StateLaws.{good_unrefused, letter_broken}
use Rattle.batch.specs.Batch.{batch_letter, count_of, batch_data}
use Rattle.batch.specs.Acts.{batch_acts}
use Rattle.batch.specs.Promises.{JudgedBatch}
use Rattle.starting.specs.StartPromises.{StartedBox}
use Rattle.listing.specs.ListPromises.{ListedRuns, WroteOffRun}
use Rattle.starting.specs.StartPromisesLaws.{start_left}
use Rattle.listing.specs.ListPromisesLaws.{list_refusal_lem, runs_in_cells}
use Rattle.listing.specs.ListActs.{list_values, lowest_run, run_values}
use Rattle.listing.specs.ListRules.{gaps_of_letter, list_rules, write_off_rules}
use Rattle.reading.specs.ReadRules.{record_rules}
use Rattle.forms.specs.declared.forms.Session.{Session}
use Rattle.reading.specs.Record.{record_number, record_of_key, record_values, quote_at, quote_beside, record_session, stamp_shown}
use Rattle.reading.specs.RecordLaws.{segment_broken, key_broken}
use Rattle.starting.specs.Start.{start_of, start_rules}
use Rattle.starting.specs.StartLaws.{start_exact}
use Rattle.history.specs.Machine as machine
use Rattle.history.specs.Machine.{Machine, Judges, took_batch, ListsGaps, WritesOff, Reads}
use Rattle.history.specs.Past.{Event, batch_messages, came_in, after_take, after_write_off, off_in, runs_standing, highest_in}
use Rattle.history.specs.Calls.{Call, start, judge, take, list_gaps, write_off, read_record, write_message, write_spread, no_spreads}
use Rattle.history.specs.Step.{start_refusal, batch_answer, off_refusal, off_answer, read_answer, read_quote, step}
use Rattle.history.proofs.CallsLaws.{took_list, off_list, judge_promised, list_promised, off_promised, read_promised, write_promised, no_spreads_promised}
use Rattle.reading.specs.Shown.{QuoteFor, shown, blank_for, ReadsItem}
use Rattle.history.specs.Histories.{Reached}
use Rattle.history.proofs.HoldsLaws.{reached_holds}
use Rattle.history.proofs.ListingLaws.{segment_good, gaps_exactly, runs_answered_lem, runs_refused}
use Rattle.history.proofs.OffLaws.{off_lowest, off_none, only_none}
use Rattle.history.proofs.RecordLaws.{read_newest}
use Rattle.history.proofs.JudgesLaws.{counts, judged_exactly}
use Rattle.history.proofs.MachineLaws.{all_come_lem}
use Rattle.history.specs.Refines.{machine_of, NextCall}

module _ {starts : List ℕ} {lent : Lent} {past : List Event} (r : Reached starts lent past) where
  abbrev lists : Lists
  lists = lent.lists

  abbrev now : Machine
  now = machine_of lists starts past

  sound : SoundLists lists
  sound = (reached_holds r).lists_sound

  -- 6: no segment has the letter
  module _ (letter : ℕ) (u : segment_of lists.contracts letter ≡ none) where
    unlisted : LetterListed lists.contracts letter → ⊥
    unlisted h = never (sym u ∙ (segment_exact lists.contracts sound.contracts_sound.header letter h.0).1 (h.1, h.2))

    refused_code : first_broken (segment_rules lent letter) ≡ some (Code 0)
    refused_code = letter_broken lent letter (good_unrefused lent (reached_holds r).state) u

  -- ---- listing

  module _ (letter : ℕ) (cells : List ℕ) (answer : Listed) (cells' : List ℕ) (p : ListedRuns lent letter cells answer cells') where
    -- a refusal leaves the cells
    list_refused : (q : Refusal) → answer ≡ Err q → ListsGaps now letter cells (Err q) cells → ListsGaps now letter cells answer cells'
    list_refused q e l =
        let kept : cells' ≡ cells = (list_refusal_lem q (subst (λ (a : Listed). ListedRuns lent letter cells a cells') e p)).1 in
        subst (λ (a : Listed). ListsGaps now letter cells a cells') (sym e) (subst (ListsGaps now letter cells (Err q)) (sym kept) l)

    lists_as : (o : Option ℕ) → segment_of lists.contracts letter ≡ o → ListsGaps now letter cells answer cells'
    unfolding list_rules
    lists_as none u =
        let broken : first_broken (list_rules lent letter (length cells)) ≡ some (Code 0) = front_broken (segment_rules lent letter) _ (Code 0) (refused_code letter u) in
        let e = listed_told answer (Err (Code 0)) (p.answers ∙ ap (λ (o : Option Refusal). answered o (list_values (gaps_of_letter lent letter))) broken) in
        list_refused (Code 0) e (machine.ListsGaps.no_letter (unlisted letter u))
    lists_as (some i) s =
        ⊎_elim (λ (h : 2 * runs_standing i (start_of starts i) past ≤ length cells).
        let e = runs_answered_lem r letter i s cells answer cells' p h in
        let runs = subst (λ (a : Listed). ListedRuns lent letter cells a cells') e p in
        subst (λ (a : Listed). ListsGaps now letter cells a cells') (sym e)
        (machine.ListsGaps.all_runs i s (highest_in i (start_of starts i) past) (runs_standing i (start_of starts i) past) cells' h (gaps_exactly r letter i s cells _ _ cells' runs) (runs_in_cells _ _ runs).1))
        (λ (h : length cells < 2 * runs_standing i (start_of starts i) past).
        list_refused (Memory (2 * runs_standing i (start_of starts i) past)) (runs_refused r letter i s cells answer cells' p h) (machine.ListsGaps.too_few i s h))
        (order (2 * runs_standing i (start_of starts i) past) (length cells))

  -- ---- writing off

  module _ (letter : ℕ) (lent' : Lent) where
    abbrev then : WrittenOff → Machine
    then answer = machine_of lists starts (after_write_off lists letter answer past)

    off_listed : (i : ℕ) → segment_of lists.contracts letter ≡ some i → (answer : WrittenOff) → WroteOffRun lent letter answer lent' → WritesOff now letter answer (then answer)
    off_listed i s (Ok run) p =
        subst (λ (o : Option ℕ). WritesOff now letter (run_told run.first run.last) (machine_of lists starts (off_in o (run.first to run.last) past))) (sym s)
        (machine.WritesOff.the_lowest i s run.first run.last (off_lowest r letter i s run.first run.last lent' p))
    off_listed i s (Err q) p =
        let is = only_none r letter i s q lent' p in
        let refused : Err q ≡ Err NoGap = ap Err is in
        subst (λ (a : Refusal). WritesOff now letter (Err a) now) (sym is) (machine.WritesOff.no_gap i s ((off_none r letter i s (Err q) lent' p).0 refused))

    off_as : (answer : WrittenOff) → WroteOffRun lent letter answer lent' → (o : Option ℕ) → segment_of lists.contracts letter ≡ o → WritesOff now letter answer (then answer)
    unfolding write_off_rules
    off_as answer p none u =
        let broken : first_broken (write_off_rules lent letter) ≡ some (Code 0) = front_broken (segment_rules lent letter) _ (Code 0) (refused_code letter u) in
        let e = written_off_told answer (Err (Code 0)) (p.answers ∙ ap (λ (o : Option Refusal). answered o (run_values (lowest_run (gaps_of_letter lent letter)))) broken) in
        subst (λ (a : WrittenOff). WritesOff now letter a (then a)) (sym e) (machine.WritesOff.no_letter (unlisted letter u))
    off_as answer p (some i) s = off_listed i s answer p

  -- ---- reading

  module _ (item : Item) (letter : ℕ) (key : List ℕ) (level : Level) (answer : Recorded) (quote : QuoteFor item) (p : ReadsItem item lent letter key level answer quote) where
    abbrev number : ℕ
    number = record_number lent.records (record_of_key item lists letter key level)

    abbrev session : Session
    session = record_session item lent.records (record_of_key item lists letter key level)

    -- by the answer and the quote that are read
    reads_so : {a : Recorded} {q : QuoteFor item} → (answer ≡ a) × (quote ≡ q) → Reads now item letter key level a q → Reads now item letter key level answer quote
    reads_so {a} {q} is reads =
        subst (λ (b : Recorded). Reads now item letter key level b quote) (sym is.0) (subst (Reads now item letter key level a) (sym is.1) reads)

    read_refused : (q : Refusal) → first_broken (record_rules item lent letter key) ≡ some q → (answer ≡ Recorded.Refused q) × (quote ≡ blank_for item)
    read_refused q broken = (
      recorded_told answer (Recorded.Refused q) (p.answers ∙ ap (λ (o : Option Refusal). answered o (record_values number session)) broken),
      p.quotes ∙ ap (λ (o : Option Refusal). quote_beside (blank_for item) o (quote_at (shown item) (blank_for item) item (stamp_shown item letter) lent.records (record_of_key item lists letter key level) level)) broken,
    )

    module _ (i : ℕ) (s : segment_of lists.contracts letter ≡ some i) where
      reads_listed : (o : Option ℕ) → place_in item lists i key ≡ o → Reads now item letter key level answer quote
      reads_listed none n =
          let has = segment_has lists.contracts letter i s in
          let none_there : KeyListed item lists letter key → ⊥ = λ h. never (sym (key_in item lists letter key s ∙ n) ∙ ((key_listed item lists sound letter key).1 h).1) in
          reads_so (read_refused (Contract 0) (key_broken item lent letter key (segment_good r letter i s) i s n)) (machine.Reads.no_key (i, has.0, has.1) none_there)
      reads_listed (some place) found =
          let has = segment_has lists.contracts letter i s in
          let stands = key_at_place (habit_of item) (file_of item lists) i key place found in
          reads_so (read_newest r item letter i s key place found level answer quote p)
          (machine.Reads.the_newest (slot item i place level) (record { listed = (has.0, stands.0); of_item = refl; of_letter = has.1; of_key = stands.1; of_level = refl }))

    reads_as : (o : Option ℕ) → segment_of lists.contracts letter ≡ o → Reads now item letter key level answer quote
    reads_as none u = reads_so (read_refused (Code 0) (segment_broken item lent letter key (Code 0) (refused_code letter u))) (machine.Reads.no_letter (unlisted letter u))
    reads_as (some i) s = reads_listed i s (place_in item lists i key) refl

  -- ---- taking a batch

  module _ (batch : List ℕ) where
    took_machine : (answer : Judged) → JudgedBatch lent batch answer → took_batch now batch answer ≡ machine_of lists starts (after_take lists batch answer past)
    took_machine (Judged.Accepted taken old heartbeats compared) p =
        let c = counts r batch taken old heartbeats compared p in
        all_come_lem lists starts (batch_letter batch) c.segment c.listed (count_of batch) (batch_data batch) past
        ∙ ap (λ (o : Option ℕ). machine_of lists starts (came_in o (batch_messages lists batch) past)) (sym c.listed)
    took_machine (Judged.Refused q compared) p = refl

    batch_judged : Judges now batch (batch_answer lent batch)
    batch_judged = (judged_exactly r batch (batch_answer lent batch)).0 (judge_promised lent batch)

  -- ---- the theorem

  -- whatever call is made next
  pub refines : (c : Call) → NextCall starts lent past c
  refines (start given numbers) = go (start_refusal lent given numbers) refl
    where
      go : (o : Option Refusal) → start_refusal lent given numbers ≡ o → NextCall starts lent past (start given numbers)
      go none e =
          record {
            later = record { starts = numbers; past = [] };
            then = rw e;
            answers = rw e (machine.Answers.starts (machine.Starts.anew ((start_exact given numbers (length lent.rows) (length lent.records)).0 e)));
          }
      go (some q) e =
          record {
            later = record { starts = starts; past = past };
            then = rw e;
            answers = rw e (machine.Answers.starts (machine.Starts.not_started q (some_broken (start_rules given numbers (length lent.rows) (length lent.records)) q e)));
          }
  refines (judge batch) = record { later = record { starts = starts; past = past }; then = refl; answers = machine.Answers.judges (batch_judged batch) }
  refines (take batch) =
      record {
        later = record { starts = starts; past = after_take lists batch (batch_answer lent batch) past };
        then = refl;
        answers =
            rw (took_list lent (batch_letter batch) (batch_acts lent batch), ← took_machine batch (batch_answer lent batch) (judge_promised lent batch))
            (machine.Answers.takes (batch_judged batch));
      }
  refines (list_gaps letter cells) =
      record {
        later = record { starts = starts; past = past };
        then = refl;
        answers = machine.Answers.lists_gaps (lists_as letter cells _ _ (list_promised lent letter cells) (segment_of lists.contracts letter) refl);
      }
  refines (write_off letter) =
      record {
        later = record { starts = starts; past = after_write_off lists letter (off_answer lent letter) past };
        then = refl;
        answers =
            rw (off_list lent letter (off_refusal lent letter))
            (machine.Answers.writes_off (off_as letter (step lent (write_off letter)).left (off_answer lent letter) (off_promised lent letter) (segment_of lists.contracts letter) refl));
      }
  refines (read_record item letter key level) =
      record {
        later = record { starts = starts; past = past };
        then = refl;
        answers =
            machine.Answers.reads
            (reads_as item letter key level (read_answer item lent letter key level) (read_quote item lent letter key level) (read_promised lent item letter key level) (segment_of lists.contracts letter) refl);
      }
  refines (write_message code level number key quote out) =
      record {
        later = record { starts = starts; past = past };
        then = refl;
        answers = machine.Answers.writes (write_promised item.Contract code level number key (λ form. values_of form quote) out);
      }
  refines (write_spread code level number key quote out) =
      record {
        later = record { starts = starts; past = past };
        then = refl;
        answers = machine.Answers.writes_spread (write_promised item.Pair code level number key (λ form. spread_values_of form quote) out);
      }
  refines (no_spreads list out) =
      record { later = record { starts = starts; past = past }; then = refl; answers = machine.Answers.no_spreads_lem (no_spreads_promised list out) }

-- an accepted start begins the machine
pub begins : {starts : List ℕ} {lent lent' : Lent} → StartedBox lent starts (Ok tt) lent' → machine_of lent'.lists starts [] ≡ machine.begun lent.lists starts
begins {starts} p = ap (λ (l : Lent). machine.begun l.lists starts) (start_left p)
