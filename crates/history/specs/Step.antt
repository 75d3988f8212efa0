-- What a call answers and leaves, as it computes: one step, by the definitions that the calls' promises cite. `CallsLaws`: each promise
-- holds exactly of what the step says.
use Rattle.std.specs.Prelude.{ℕ, cond, List, ◌++◌, eqb, length, Result, Ok, Err}
use Rattle.std.proofs.Math.Option.{Option, none, some}
use Rattle.std.proofs.lemmas.List.Edits.{sets}
use Rattle.pairs.specs.Lists.{Lists}
use Rattle.laws.specs.Rules.{first_broken}
use Rattle.forms.specs.declared.rows.Level.{Level}
use Rattle.forms.specs.declared.forms.Form.{Form}
use Rattle.forms.specs.declared.forms.Session.{Session}
use Rattle.forms.specs.declared.forms.Item.{Item}
use Rattle.forms.specs.declared.forms.Item.TheVariants.{Contract, Pair}
use Rattle.pairs.specs.NoSpreads.{no_spreads}
use Rattle.quote.specs.Quote.{values_of}
use Rattle.spread.specs.Spread.{spread_values_of}
use Rattle.sequence.specs.Gaps.{Gaps}
use Rattle.sequence.specs.Runs.{Run}
use Rattle.state.specs.declared.refusal.Refusal.{Refusal}
use Rattle.state.specs.declared.answers.Judged.{Judged}
use Rattle.state.specs.declared.answers.Recorded.{Recorded}
use Rattle.state.specs.Answers.{started_numbers, judged_numbers, listed_numbers, written_off_numbers, recorded_numbers, written_numbers, left_by, Listed, WrittenOff, run_told, runs_told}
use Rattle.state.specs.Memory.{Lent}
use Rattle.batch.specs.Batch.{batch_letter}
use Rattle.batch.specs.Acts.{batch_acts, batch_compared, answer_of, lent_after}
use Rattle.writer.specs.declared.writing.Code.{Code}
use Rattle.writer.specs.Writer.{values_written, data_written, length_written, write_rules, message_put}
use Rattle.writer.specs.Chosen.{form_written}
use Rattle.starting.specs.StartActs.{start_broken, lent_started}
use Rattle.listing.specs.ListActs.{runs_put, lowest_run, lent_written_off}
use Rattle.listing.specs.ListRules.{gaps_of_letter, list_rules, write_off_rules}
use Rattle.starting.specs.NoSpreadsRules.{no_spreads_rules}
use Rattle.reading.specs.ReadRules.{record_rules}
use Rattle.reading.specs.Record.{record_of_key, record_number, record_session, stamp_shown, quote_at, quote_beside}
use Rattle.reading.specs.Shown.{QuoteFor, shown, blank_for}
use Rattle.history.specs.Calls as calls
use Rattle.history.specs.Calls.{Answer, Call, judge, judged, list_gaps, listed, read, read_record, start, started, take, took, with_lists, write_message, write_spread, write_off, wrote, wrote_off}

-- 01 "What may be asked": the answer of a call, and the lent memory that it leaves
pub record Outcome : Type 0 where
  pub answer : Answer
  pub left : Lent

-- 01, the order of checks: the first broken rule of a start
abbrev pub start_refusal : Lent → Lists → List ℕ → Option Refusal
start_refusal lent lists starts = start_broken (with_lists lists lent) starts

-- 01 "What may be asked": start answers nothing more
abbrev pub start_answer : Option Refusal → Result (Unit {0}) Refusal
start_answer (some refusal) = Err refusal
start_answer none = (Ok tt)

-- 01 "What may be asked": judging answers what taking would; M-102: the keys compared too
abbrev pub batch_answer : Lent → List ℕ → Judged
batch_answer lent batch = answer_of (batch_compared lent.lists batch (batch_acts lent batch)) (batch_acts lent batch)

-- 01, the order of checks: the first broken rule of a listing
abbrev pub list_refusal : Lent → ℕ → List ℕ → Option Refusal
list_refusal lent letter cells = first_broken (list_rules lent letter (length cells))

-- 01 "What may be asked": "List gaps answers highest and the number of runs"
abbrev pub list_answer : Option Refusal → Gaps → Listed
list_answer (some refusal) gaps = Err refusal
list_answer none gaps = runs_told gaps.highest (length gaps.runs)

-- 01, the order of checks: the first broken rule of a write-off
abbrev pub off_refusal : Lent → ℕ → Option Refusal
off_refusal lent letter = first_broken (write_off_rules lent letter)

-- 01 "What may be asked": the run that was removed, or the refusal
abbrev pub removed : Option Refusal → Run → WrittenOff
removed (some refusal) run = Err refusal
removed none run = run_told run.first run.last

-- 01 "What may be asked": a write-off answers the run it removed, which is the lowest
abbrev pub off_answer : Lent → ℕ → WrittenOff
off_answer lent letter = removed (off_refusal lent letter) (lowest_run (gaps_of_letter lent letter))

-- 01, the order of checks: the first broken rule of a reading
abbrev pub read_refusal : Item → Lent → ℕ → List ℕ → Option Refusal
read_refusal item lent letter key = first_broken (record_rules item lent letter key)

-- 01 "What may be asked": a record by its number, and "no record" where that is 0
abbrev pub record_answer : Option Refusal → ℕ → Session → Recorded
record_answer (some refusal) number session = Recorded.Refused refusal
record_answer none number session = cond (eqb number 0) Recorded.NoRecord (Recorded.Record number session)

-- 01 "What may be asked": "A record holds its update's number and rows": its number; M-104: and its session
abbrev pub read_answer : Item → Lent → ℕ → List ℕ → Level → Recorded
read_answer item lent letter key level =
    record_answer (read_refusal item lent letter key) (record_number lent.records (record_of_key item lent.lists letter key level))
    (record_session item lent.records (record_of_key item lent.lists letter key level))

-- 01 "What may be asked": and its rows
abbrev pub read_quote : (item : Item) → Lent → ℕ → List ℕ → Level → QuoteFor item
read_quote item lent letter key level =
    quote_beside (blank_for item) (read_refusal item lent letter key) (quote_at (shown item) (blank_for item) item (stamp_shown item letter) lent.records (record_of_key item lent.lists letter key level) level)

-- 01, the order of checks: the first broken rule of the writer, of a contract or of a pair, with the cells of its quote
abbrev pub write_refusal : Item → Code → Level → ℕ → List ℕ → (Form → List ℕ) → List ℕ → Option Refusal
write_refusal item code level number key cells out =
    first_broken (write_rules (form_written item code level) number key (values_written (form_written item code level) cells) (length out))

-- 01 "What may be asked": "the writer its length"
abbrev pub write_answer : Option Refusal → ℕ → Result ℕ Refusal
write_answer (some refusal) long = Err refusal
write_answer none long = Ok long

-- 01 "What may be asked": what the writer leaves in the bytes lent
abbrev pub write_leaves : Item → Code → Level → ℕ → List ℕ → (Form → List ℕ) → List ℕ → List ℕ
write_leaves item code level number key cells out =
    left_by (write_refusal item code level number key cells out) out
    (message_put code number (data_written (form_written item code level) key (values_written (form_written item code level) cells)).bytes out)

-- 01 "What may be asked": the answer of the writer, with the bytes lent
abbrev pub written : Item → Code → Level → ℕ → List ℕ → (Form → List ℕ) → List ℕ → Answer
written item code level number key cells out =
    wrote (write_answer (write_refusal item code level number key cells out) (length_written (form_written item code level))) (write_leaves item code level number key cells out)

-- 01, the order of checks, M-100: the first broken rule of the spread list without pairs
abbrev pub no_spreads_refusal : List ℕ → List ℕ → Option Refusal
no_spreads_refusal list out = first_broken (no_spreads_rules list (length out))

-- 01 "What may be asked": what a call answers and leaves. A start that is refused leaves all lent memory, and the lists of the
-- latest accepted one stay in use; the writer and the spread list without pairs are handed no memory of the box
abbrev pub step : Lent → Call → Outcome
step lent (start lists starts) =
    record {
      answer = started (start_answer (start_refusal lent lists starts));
      left = left_by (start_refusal lent lists starts) lent (lent_started (with_lists lists lent) starts);
    }
step lent (judge batch) = record { answer = judged (batch_answer lent batch); left = lent }
step lent (take batch) =
    record { answer = took (batch_answer lent batch); left = lent_after lent (batch_letter batch) (batch_acts lent batch) }
step lent (list_gaps letter cells) =
    record {
      answer =
          listed (list_answer (list_refusal lent letter cells) (gaps_of_letter lent letter))
          (left_by (list_refusal lent letter cells) cells (runs_put (gaps_of_letter lent letter) cells));
      left = lent;
    }
step lent (write_off letter) =
    record { answer = wrote_off (off_answer lent letter); left = left_by (off_refusal lent letter) lent (lent_written_off lent letter) }
step lent (read_record item letter key level) = record { answer = read item (read_answer item lent letter key level) (read_quote item lent letter key level); left = lent }
step lent (write_message code level number key quote out) = record { answer = written Contract code level number key (λ form. values_of form quote) out; left = lent }
step lent (write_spread code level number key quote out) = record { answer = written Pair code level number key (λ form. spread_values_of form quote) out; left = lent }
step lent (calls.no_spreads list out) =
    record {
      answer = wrote (write_answer (no_spreads_refusal list out) (length (no_spreads list))) (left_by (no_spreads_refusal list out) out (sets out 0 (no_spreads list)));
      left = lent;
    }

-- 01 "What may be asked": the numbers of an answer; behind them the cells or bytes lent for it, afterwards
abbrev pub answer_numbers : Answer → List ℕ
answer_numbers (started answer) = started_numbers answer
answer_numbers (judged answer) = judged_numbers answer
answer_numbers (took answer) = judged_numbers answer
answer_numbers (listed answer cells) = listed_numbers answer ++ cells
answer_numbers (wrote_off answer) = written_off_numbers answer
answer_numbers (read item answer quote) = recorded_numbers answer
answer_numbers (wrote answer out) = written_numbers answer ++ out
