-- Histories: 01 "What may be asked". Any finite list of public calls with any arguments, folded by their step. Each is handed the
-- box's own memory, which is what the call before left with the lists of the latest accepted start, or other memory than that.
use Rattle.std.specs.Prelude.{◌≡◌, List, [], ◌∷◌, ℕ}
use Rattle.std.proofs.Math.Option.{Option, none, some}
use Rattle.state.specs.Answers.{left_by}
use Rattle.state.specs.Memory.{Lent}
use Rattle.state.specs.declared.answers.Judged.{Judged}
use Rattle.state.specs.declared.answers.Judged.TheVariants as judged
use Rattle.history.specs.Past.{Event, after_take, after_write_off}
use Rattle.history.specs.Calls.{Call, Answer, start, judge, take, list_gaps, write_off, read_record, write_message, write_spread, no_spreads}
use Rattle.history.specs.Step.{start_refusal, batch_answer, off_answer, step}

-- 01 "What may be asked": a call handed the box's own memory (a start with any lists), or one lent other memory
pub data Made : Type 0 where
  own : Call → Made
  elsewhere : Lent → Call → Made

-- demand 3, "a fresh start": what there is since the latest accepted start: its start numbers, and what has come
pub record Since : Type 0 where
  pub starts : List ℕ
  pub past : List Event

-- 01 "Sequence and gaps": what has come, where there was a start
abbrev pub past_in : Option Since → List Event
past_in none = []
past_in (some since) = since.past

-- 01 "What may be asked": a box: its memory, and what there is since its latest accepted start, if there was one
pub record BoxNow : Type 0 where
  pub lent : Lent
  pub since : Option Since

-- 01 "What may be asked": memory before any start
abbrev pub unstarted : Lent → BoxNow
unstarted lent = record { lent = lent; since = none }

-- 01 "Sequence and gaps": more has come since the start
abbrev pub comes : (List Event → List Event) → Option Since → Option Since
comes more none = none
comes more (some since) = some (record { starts = since.starts; past = more since.past })

-- 01 "What may be asked": what there is since the start after a call, by its input and its answer: an accepted start begins
-- anew; taking a batch and a write-off add to the past; no other call does
abbrev pub since_after : Lent → Call → Option Since → Option Since
since_after lent (start lists starts) since = left_by (start_refusal lent lists starts) since (some (record { starts = starts; past = [] }))
since_after lent (judge batch) since = since
since_after lent (take batch) since = comes (after_take lent.lists batch (batch_answer lent batch)) since
since_after lent (list_gaps letter cells) since = since
since_after lent (write_off letter) since = comes (after_write_off lent.lists letter (off_answer lent letter)) since
since_after lent (read_record item letter key level) since = since
since_after lent (write_message code level number key quote out) since = since
since_after lent (write_spread code level number key quote out) since = since
since_after lent (no_spreads list out) since = since

-- 01 "What may be asked": the box after one call; a call lent other memory changes nothing of it
abbrev pub after_call : BoxNow → Made → BoxNow
after_call now (own call) = record { lent = (step now.lent call).left; since = since_after now.lent call now.since }
after_call now (elsewhere lent call) = now

-- 01 "What may be asked": the box after calls made in turn
abbrev pub all_after : BoxNow → List Made → BoxNow
all_after now [] = now
all_after now (call ∷ calls) = all_after (after_call now call) calls

-- 01 "What may be asked": what one call answers, by the memory that it is handed
abbrev pub answer_given : BoxNow → Made → Answer
answer_given now (own call) = (step now.lent call).answer
answer_given now (elsewhere lent call) = (step lent call).answer

-- 01 "What may be asked": what calls made in turn answer
abbrev pub all_answers : BoxNow → List Made → List Answer
all_answers now [] = []
all_answers now (call ∷ calls) = answer_given now call ∷ all_answers (after_call now call) calls

-- 01 "What may be asked": the batches accepted, the latest first, with one more by its answer: a refused one is none of them
abbrev pub accepting : Judged → List ℕ → List (List ℕ) → List (List ℕ)
accepting (judged.Accepted taken old heartbeats compared) batch batches = batch ∷ batches
accepting (judged.Refused refusal compared) batch batches = batches

-- 01 "What may be asked": the batches accepted since the latest accepted start, after a call
abbrev pub batches_after : BoxNow → Made → List (List ℕ) → List (List ℕ)
batches_after now (own (start lists starts)) batches = left_by (start_refusal now.lent lists starts) batches []
batches_after now (own (judge batch)) batches = batches
batches_after now (own (take batch)) batches = accepting (batch_answer now.lent batch) batch batches
batches_after now (own (list_gaps letter cells)) batches = batches
batches_after now (own (write_off letter)) batches = batches
batches_after now (own (read_record item letter key level)) batches = batches
batches_after now (own (write_message code level number key quote out)) batches = batches
batches_after now (own (write_spread code level number key quote out)) batches = batches
batches_after now (own (no_spreads list out)) batches = batches
batches_after now (elsewhere lent call) batches = batches

-- 01 "What may be asked": the batches accepted since the latest accepted start, after calls made in turn
abbrev pub all_batches : BoxNow → List Made → List (List ℕ) → List (List ℕ)
all_batches now [] batches = batches
all_batches now (call ∷ calls) batches = all_batches (after_call now call) calls (batches_after now call batches)

-- 01 "Sequence and gaps": what has come since the latest accepted start
abbrev pub past_of : BoxNow → List Event
past_of now = past_in now.since

-- demand 3, "After any sequence of calls from a fresh start": some memory and some calls lead to this memory, with these start
-- numbers and this past since the latest accepted start
pub record Reached (starts : List ℕ) (lent : Lent) (past : List Event) : Type 0 where
  pub memory : Lent
  pub calls : List Made
  pub reaches : all_after (unstarted memory) calls ≡ record { lent = lent; since = some (record { starts = starts; past = past }) }

-- 01 "What may be asked": the batches that a history accepted since its latest accepted start
abbrev pub batches_of : {starts : List ℕ} {lent : Lent} {past : List Event} → Reached starts lent past → List (List ℕ)
batches_of r = all_batches (unstarted r.memory) r.calls []
