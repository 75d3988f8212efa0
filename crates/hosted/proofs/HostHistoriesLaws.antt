-- A host's histories are those of quotebox calls, and a function that keeps its promise lengthens one.
use Rattle.std.specs.Prelude.{ℕ, ◌≡◌, refl, List, [], ◌∷◌, map, Result, Ok, Err}
use Rattle.std.proofs.Common.{ap, ◌∙◌}
use Rattle.forms.specs.declared.forms.Item.TheVariants.{Contract, Pair}
use Rattle.state.specs.declared.refusal.Refusal.{Refusal}
use Rattle.state.specs.Answers.{started_numbers}
use Rattle.state.specs.Memory.{Lent}
use Rattle.starting.specs.StartPromises.{StartedBox}
use Rattle.history.specs.Calls as calls
use Rattle.history.specs.Calls.{Call}
use Rattle.history.specs.Histories as histories
use Rattle.history.specs.Histories.{Made, BoxNow, unstarted, all_after, after_call, Reached}
use Rattle.history.proofs.HistoriesLaws.{reached_begun, reached_take, reached_off}
use Rattle.history.specs.Past.{Event, after_take, after_write_off}
use Rattle.host.specs.Promises.{HostStarted, HostTook, HostWroteOff}
use Rattle.told.specs.Told.{Tells}
use Rattle.hosted.specs.HostCalls.{HostCall, start, judge, take, list_gaps, write_off, read, write, no_spreads, HostMade, own, elsewhere, made_of, HostReached}
use Rattle.hosted.proofs.HostToldLaws.{is_refused}

pub host_reached : {starts : List ℕ} {lent : Lent} {past : List Event} → HostReached starts lent past → Reached starts lent past
host_reached r = record { memory = r.memory; calls = map made_of r.calls; reaches = r.reaches }

-- ---- and back: what is read or written changes nothing of the box, whatever values are lent

abbrev host_call : Call → HostCall
host_call (calls.start lists starts) = start lists starts
host_call (calls.judge batch) = judge batch
host_call (calls.take batch) = take batch
host_call (calls.list_gaps letter cells) = list_gaps letter cells
host_call (calls.write_off letter) = write_off letter
host_call (calls.read_record item letter key level) = read item level letter key []
host_call (calls.write_message code level number key quote out) = write Contract level (code.0 ∷ code.1 ∷ []) number key [] out
host_call (calls.write_spread code level number key quote out) = write Pair level (code.0 ∷ code.1 ∷ []) number key [] out
host_call (calls.no_spreads list out) = no_spreads list out

abbrev host_made : Made → HostMade
host_made (histories.own call) = own (host_call call)
host_made (histories.elsewhere lent call) = elsewhere lent (host_call call)

same_after : (now : BoxNow) (made : Made) → after_call now (made_of (host_made made)) ≡ after_call now made
same_after now (histories.own (calls.start lists starts)) = refl
same_after now (histories.own (calls.judge batch)) = refl
same_after now (histories.own (calls.take batch)) = refl
same_after now (histories.own (calls.list_gaps letter cells)) = refl
same_after now (histories.own (calls.write_off letter)) = refl
same_after now (histories.own (calls.read_record item letter key level)) = refl
same_after now (histories.own (calls.write_message code level number key quote out)) = refl
same_after now (histories.own (calls.write_spread code level number key quote out)) = refl
same_after now (histories.own (calls.no_spreads list out)) = refl
same_after now (histories.elsewhere lent call) = refl

all_same : (now : BoxNow) (made : List Made) → all_after now (map made_of (map host_made made)) ≡ all_after now made
all_same now [] = refl
all_same now (m ∷ made) = all_same (after_call now (made_of (host_made m))) made ∙ ap (λ (next : BoxNow). all_after next made) (same_after now m)

pub reached_host : {starts : List ℕ} {lent : Lent} {past : List Event} → Reached starts lent past → HostReached starts lent past
reached_host r = record { memory = r.memory; calls = map host_made r.calls; reaches = all_same (unstarted r.memory) r.calls ∙ r.reaches }

-- ---- histories by their promises

-- an accepted start
pub host_begun : {starts : List ℕ} {lent lent' : Lent} {answer' : List ℕ} → HostStarted lent starts 0 lent' answer' → HostReached starts lent' []
host_begun {starts} {lent} {lent'} {answer'} p = go p.started p.promised p.tells
  where
    go : (a : Result (Unit {0}) Refusal) → StartedBox lent starts a lent' → Tells (started_numbers a) 0 answer' → HostReached starts lent' []
    go (Ok _) s t = reached_host (reached_begun s)
    go (Err refusal) s t = absurd (is_refused refusal t refl)

-- a batch taken, whatever is returned
pub host_took : {starts : List ℕ} {lent lent' : Lent} {past : List Event} {batch answer' : List ℕ} {returned : ℕ} → HostReached starts lent past
    → (p : HostTook lent batch returned lent' answer') → HostReached starts lent' (after_take lent.lists batch p.judged past)
host_took {batch = batch} r p = reached_host (reached_take (host_reached r) batch p.judged p.promised)

-- a write-off, whatever is returned
pub host_wrote_off : {starts : List ℕ} {lent lent' : Lent} {past : List Event} {answer' : List ℕ} {letter returned : ℕ} → HostReached starts lent past
    → (p : HostWroteOff lent letter returned lent' answer') → HostReached starts lent' (after_write_off lent.lists letter p.written_off_lem past)
host_wrote_off {letter = letter} r p = reached_host (reached_off (host_reached r) letter p.written_off_lem p.promised)
