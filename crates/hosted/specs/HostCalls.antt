-- The functions for hosts as data: each with its own arguments, and one step: what it returns, what `answer` holds and what it leaves,
-- said from the quotebox call that it makes. `HostCallsLaws`: what each function promises is what the step says.
use Rattle.std.specs.Prelude.{ℕ, ◌≡◌, List, [], map}
use Rattle.std.proofs.Math.Option.{some}
use Rattle.pairs.specs.Lists.{Lists}
use Rattle.forms.specs.declared.forms.Item.{Item}
use Rattle.forms.specs.declared.forms.Item.TheVariants.{Contract, Pair}
use Rattle.forms.specs.declared.rows.Level.{Level}
use Rattle.state.specs.declared.answers.Recorded.{Recorded}
use Rattle.state.specs.Answers.{started_numbers, judged_numbers, listed_numbers, written_off_numbers, written_numbers}
use Rattle.state.specs.Memory.{Lent}
use Rattle.values.specs.Values.{quote_in, spread_in}
use Rattle.reading.specs.Shown.{QuoteFor}
use Rattle.history.specs.Calls as calls
use Rattle.history.specs.Calls.{Call, Answer}
use Rattle.history.specs.Step.{Outcome, step}
use Rattle.history.specs.Histories as histories
use Rattle.history.specs.Histories.{Made, unstarted, all_after}
use Rattle.history.specs.Past.{Event}
use Rattle.host.specs.Promises.{code_of}
use Rattle.told.specs.Shown.{values_after}
use Rattle.told.specs.Told.{told_of, record_numbers}
use Rattle.hosted.specs.HostItems.{values_for}

-- the host's header, its functions, lists, rows, records and `answer` apart: start with lists and start numbers; judge a batch; take one;
-- list a letter's gaps with cells lent; write off of a letter; read, of a contract or of a pair, at a level, of a letter, a key, with
-- values lent; write, of a contract or of a pair, at a level, a code's two bytes, a number, a key, values, with bytes lent; the spread
-- list without pairs for a contract list, with bytes lent
pub data HostCall : Type 0 where
  start : Lists → List ℕ → HostCall
  judge take : List ℕ → HostCall
  list_gaps : ℕ → List ℕ → HostCall
  write_off : ℕ → HostCall
  read : Item → Level → ℕ → List ℕ → List ℕ → HostCall
  write : Item → Level → List ℕ → ℕ → List ℕ → List ℕ → List ℕ → HostCall
  no_spreads : List ℕ → List ℕ → HostCall

-- the host's header: the quotebox call that a function makes
abbrev pub call_of : HostCall → Call
call_of (start lists starts) = calls.start lists starts
call_of (judge batch) = calls.judge batch
call_of (take batch) = calls.take batch
call_of (list_gaps letter cells) = calls.list_gaps letter cells
call_of (write_off letter) = calls.write_off letter
call_of (read item level letter key values) = calls.read_record item letter key level
call_of (write Contract level code number key values out) = calls.write_message (code_of code) level number key (quote_in level values) out
call_of (write Pair level code number key values out) = calls.write_spread (code_of code) level number key (spread_in level values) out
call_of (no_spreads list out) = calls.no_spreads list out

-- the host's header: what a function returns, the four numbers of `answer`, the cells, values or bytes lent for its answer and the
-- lent memory, afterwards
pub record HostOutcome : Type 0 where
  pub returned : ℕ
  pub answer : List ℕ
  pub beside : List ℕ
  pub left : Lent

-- the host's header: the numbers of an answer, by which it is told
abbrev pub numbers_told : Answer → List ℕ
numbers_told (calls.started answer) = started_numbers answer
numbers_told (calls.judged answer) = judged_numbers answer
numbers_told (calls.took answer) = judged_numbers answer
numbers_told (calls.listed answer cells) = listed_numbers answer
numbers_told (calls.wrote_off answer) = written_off_numbers answer
numbers_told (calls.read item answer quote) = record_numbers answer
numbers_told (calls.wrote answer out) = written_numbers answer

-- the host's header: the values lent to a reading, afterwards; no other function is lent values to write
abbrev pub values_left : HostCall → (item : Item) → Recorded → QuoteFor item → List ℕ
values_left (start lists starts) item answer quote = []
values_left (judge batch) item answer quote = []
values_left (take batch) item answer quote = []
values_left (list_gaps letter cells) item answer quote = []
values_left (write_off letter) item answer quote = []
values_left (read asked level letter key values) item answer quote = values_after item answer (values_for item level quote) values
values_left (write asked level code number key values out) item answer quote = []
values_left (no_spreads list out) item answer quote = []

-- the host's header: the cells, values or bytes lent for an answer, afterwards
abbrev pub beside_of : HostCall → Answer → List ℕ
beside_of call (calls.started answer) = []
beside_of call (calls.judged answer) = []
beside_of call (calls.took answer) = []
beside_of call (calls.listed answer cells) = cells
beside_of call (calls.wrote_off answer) = []
beside_of call (calls.read item answer quote) = values_left call item answer quote
beside_of call (calls.wrote answer out) = out

-- the host's header: a quotebox call's outcome, told to a host
abbrev pub told_by : HostCall → Outcome → HostOutcome
told_by call outcome =
    record {
      returned = (told_of (numbers_told outcome.answer)).number;
      answer = (told_of (numbers_told outcome.answer)).answer;
      beside = beside_of call outcome.answer;
      left = outcome.left;
    }

-- the host's header: what a function returns, answers and leaves
abbrev pub host_step : Lent → HostCall → HostOutcome
host_step lent call = told_by call (step lent (call_of call))

-- ---- histories

-- 01 "What may be asked": a function handed the box's own memory (a start with any lists), or one lent other memory
pub data HostMade : Type 0 where
  own : HostCall → HostMade
  elsewhere : Lent → HostCall → HostMade

-- 01 "What may be asked": the quotebox call that is made so
abbrev pub made_of : HostMade → Made
made_of (own call) = histories.own (call_of call)
made_of (elsewhere lent call) = histories.elsewhere lent (call_of call)

-- demand 3, "After any sequence of calls from a fresh start", made by a host: some memory and some functions called in turn lead to this
-- memory, with these start numbers and this past since the latest accepted start
pub record HostReached (starts : List ℕ) (lent : Lent) (past : List Event) : Type 0 where
  pub memory : Lent
  pub calls : List HostMade
  pub reaches : all_after (unstarted memory) (map made_of calls) ≡ record { lent = lent; since = some (record { starts = starts; past = past }) }
