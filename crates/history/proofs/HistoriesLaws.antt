-- Laws of histories: what every accepted start, batch and write-off keeps holds after every history; and calls lengthen one.
use Rattle.std.specs.Prelude.{◌≡◌, refl, List, [], ◌∷◌, ◌++◌, ℕ, Ok}
use Rattle.std.proofs.Common.{sym, ap, subst, ◌∙◌}
use Rattle.std.proofs.Math.Option.{Option, none, some}
use Rattle.state.specs.declared.refusal.Refusal.{Refusal}
use Rattle.state.specs.declared.answers.Judged.{Judged}
use Rattle.state.specs.Answers.{left_by, WrittenOff}
use Rattle.state.specs.Memory.{Lent}
use Rattle.state.specs.AnswersLaws.{accepted_by}
use Rattle.batch.specs.Promises.{TookBatch}
use Rattle.batch.proofs.TookLaws.{one_took}
use Rattle.starting.specs.StartPromises.{StartedBox}
use Rattle.listing.specs.ListPromises.{WroteOffRun}
use Rattle.starting.specs.StartPromisesLaws.{start_left}
use Rattle.listing.specs.ListPromisesLaws.{one_written_off}
use Rattle.starting.specs.StartPromisesLaws.{start_done}
use Rattle.starting.specs.StartActs.{start_broken, lent_started}
use Rattle.history.specs.Past.{Event, after_take, after_write_off}
use Rattle.history.specs.Calls.{Call, start, judge, take, list_gaps, write_off, read_record, write_message, write_spread, no_spreads, with_lists}
use Rattle.history.specs.Step.{start_refusal, batch_answer, off_answer, step}
use Rattle.history.proofs.CallsLaws.{take_promised, off_promised}
use Rattle.history.specs.Histories.{Made, own, elsewhere, Since, BoxNow, unstarted, since_after, all_after, Reached, after_call}

-- ---- by steps

-- what an accepted start makes hold, and every batch and write-off keeps, whatever they are answered
pub record Steps (Holds : List ℕ → Lent → List Event → Type 0) : Type 0 where
  pub begins : (starts : List ℕ) (lent lent' : Lent) → StartedBox lent starts (Ok tt) lent' → Holds starts lent' []
  pub takes : (starts : List ℕ) (lent lent' : Lent) (past : List Event) → Holds starts lent past
      → (batch : List ℕ) (answer : Judged) → TookBatch lent batch answer lent' → Holds starts lent' (after_take lent.lists batch answer past)
  pub writes_off : (starts : List ℕ) (lent lent' : Lent) (past : List Event) → Holds starts lent past
      → (letter : ℕ) (answer : WrittenOff) → WroteOffRun lent letter answer lent' → Holds starts lent' (after_write_off lent.lists letter answer past)

module _ (Holds : List ℕ → Lent → List Event → Type 0) (steps : Steps Holds) where
  abbrev Then : Lent → Option Since → Type 0
  Then lent none = Unit {0}
  Then lent (some since) = Holds since.starts lent since.past

  call_keeps : (lent : Lent) (since : Option Since) (c : Call) → Then lent since → Then (step lent c).left (since_after lent c since)
  call_keeps lent since (start lists starts) h = go (start_refusal lent lists starts) refl
    where
      go : (o : Option Refusal) → start_refusal lent lists starts ≡ o
          → Then (left_by (start_refusal lent lists starts) lent (lent_started (with_lists lists lent) starts))
          (left_by (start_refusal lent lists starts) since (some (record { starts = starts; past = [] })))
      go none e =
          rw e
          (steps.begins starts (with_lists lists lent) (lent_started (with_lists lists lent) starts) (start_done (with_lists lists lent) starts e refl refl))
      go (some refusal) e = rw e h
  call_keeps lent since (judge batch) h = h
  call_keeps lent none (take batch) h = tt
  call_keeps lent (some since) (take batch) h =
      steps.takes since.starts lent _ since.past h batch (batch_answer lent batch) (take_promised lent batch)
  call_keeps lent since (list_gaps letter cells) h = h
  call_keeps lent none (write_off letter) h = tt
  call_keeps lent (some since) (write_off letter) h =
      steps.writes_off since.starts lent _ since.past h letter (off_answer lent letter) (off_promised lent letter)
  call_keeps lent since (read_record item letter key level) h = h
  call_keeps lent since (write_message code level number key quote out) h = h
  call_keeps lent since (write_spread code level number key quote out) h = h
  call_keeps lent since (no_spreads list out) h = h

  all_keep : (now : BoxNow) (calls : List Made) → Then now.lent now.since → Then (all_after now calls).lent (all_after now calls).since
  all_keep now [] h = h
  all_keep now (own c ∷ calls) h = all_keep (after_call now (own c)) calls (call_keeps now.lent now.since c h)
  all_keep now (elsewhere lent c ∷ calls) h = all_keep now calls h

  -- the induction over histories
  pub by_steps : {starts : List ℕ} {lent : Lent} {past : List Event} → Reached starts lent past → Holds starts lent past
  by_steps r = subst (λ (now : BoxNow). Then now.lent now.since) r.reaches (all_keep (unstarted r.memory) r.calls tt)

-- ---- every list of calls is a history once a start was accepted

pub calls_reach : (memory : Lent) (calls : List Made) (since : Since) → (all_after (unstarted memory) calls).since ≡ some since
    → Reached since.starts (all_after (unstarted memory) calls).lent since.past
calls_reach memory calls since e =
    record { memory = memory; calls = calls; reaches = λ k. record { lent = (all_after (unstarted memory) calls).lent; since = e k } }

-- and it stays one, whatever calls follow
call_since : (lent : Lent) (c : Call) (since : Since) → (later : Since) × (since_after lent c (some since) ≡ some later)
call_since lent (start lists starts) since = go (start_refusal lent lists starts)
  where
    go : (o : Option Refusal) → (later : Since) × (left_by o (some since) (some (record { starts = starts; past = [] })) ≡ some later)
    go none = (record { starts = starts; past = [] }, refl)
    go (some refusal) = (since, refl)
call_since lent (judge batch) since = (since, refl)
call_since lent (take batch) since = (record { starts = since.starts; past = after_take lent.lists batch (batch_answer lent batch) since.past }, refl)
call_since lent (list_gaps letter cells) since = (since, refl)
call_since lent (write_off letter) since = (record { starts = since.starts; past = after_write_off lent.lists letter (off_answer lent letter) since.past }, refl)
call_since lent (read_record item letter key level) since = (since, refl)
call_since lent (write_message code level number key quote out) since = (since, refl)
call_since lent (write_spread code level number key quote out) since = (since, refl)
call_since lent (no_spreads list out) since = (since, refl)

pub all_since : (now : BoxNow) (since : Since) → now.since ≡ some since → (calls : List Made) → (later : Since) × ((all_after now calls).since ≡ some later)
all_since now since e [] = (since, e)
all_since now since e (own c ∷ calls) =
    let l = call_since now.lent c since in
    all_since (after_call now (own c)) l.0 (ap (since_after now.lent c) e ∙ l.1) calls
all_since now since e (elsewhere lent c ∷ calls) = all_since now since e calls

-- ---- histories by their promises

all_joined : (now : BoxNow) (calls more : List Made) → all_after now (calls ++ more) ≡ all_after (all_after now calls) more
all_joined now [] more = refl
all_joined now (c ∷ calls) more = all_joined (after_call now c) calls more

one_more : {starts : List ℕ} {lent lent' : Lent} {past past' : List Event} → Reached starts lent past → (c : Call)
    → after_call (record { lent = lent; since = some (record { starts = starts; past = past }) }) (own c) ≡ record { lent = lent'; since = some (record { starts = starts; past = past' }) }
    → Reached starts lent' past'
one_more r c e =
    record {
      memory = r.memory;
      calls = r.calls ++ (own c ∷ []);
      reaches = all_joined (unstarted r.memory) r.calls (own c ∷ []) ∙ ap (λ (now : BoxNow). after_call now (own c)) r.reaches ∙ e;
    }

-- an accepted start
pub reached_begun : {starts : List ℕ} {lent lent' : Lent} → StartedBox lent starts (Ok tt) lent' → Reached starts lent' []
reached_begun {starts} {lent} {lent'} p =
    let since : Since = record { starts = starts; past = [] } in
    let held : start_refusal lent lent.lists starts ≡ none = (accepted_by (start_broken lent starts) [] [] p.answers).0 in
    let left = start_left p in
    record {
      memory = lent;
      calls = own (start lent.lists starts) ∷ [];
      reaches =
          ap (λ (o : Option Refusal). record { lent = left_by o lent (lent_started lent starts); since = left_by o none (some since) }) held
          ∙ (λ k. record { lent = sym left k; since = some since });
    }

-- a batch taken, whatever it is answered
pub reached_take : {starts : List ℕ} {lent lent' : Lent} {past : List Event} → Reached starts lent past → (batch : List ℕ) (answer : Judged)
    → TookBatch lent batch answer lent' → Reached starts lent' (after_take lent.lists batch answer past)
reached_take {starts} {lent} {lent'} {past} r batch answer p =
    let one = one_took lent batch (batch_answer lent batch) answer (step lent (take batch)).left lent' (take_promised lent batch) p in
    one_more r (take batch) (λ k. record { lent = one.1 k; since = some (record { starts = starts; past = after_take lent.lists batch (one.0 k) past }) })

-- a write-off, whatever it is answered
pub reached_off : {starts : List ℕ} {lent lent' : Lent} {past : List Event} → Reached starts lent past → (letter : ℕ) (answer : WrittenOff)
    → WroteOffRun lent letter answer lent' → Reached starts lent' (after_write_off lent.lists letter answer past)
reached_off {starts} {lent} {lent'} {past} r letter answer p =
    let one = one_written_off (off_answer lent letter) answer (off_promised lent letter) p in
    one_more r (write_off letter) (λ k. record { lent = one.1 k; since = some (record { starts = starts; past = after_write_off lent.lists letter (one.0 k) past }) })
