-- Against the contracts that the check makes of the source of `quotebox`: each public call takes any input; what it answers, and every cell lent to it to be written, follows from what it is handed; and that is what the step says of the call.
use mathlib.Core.Path.{◌≡◌, ap}
use contract.Lifetimes.{Lfts}
use Rattle.pairs.specs.Lists.{Lists, lists}
use Rattle.forms.specs.declared.forms.Item.TheVariants.{Contract, Pair}
use Rattle.quote.specs.Quote.{values_of}
use Rattle.spread.specs.Spread.{spread_values_of}
use Rattle.state.specs.Memory.{Lent, lends}
use Rattle.starting.specs.StartPromisesLaws.{one_started, one_no_spreads}
use Rattle.listing.specs.ListPromisesLaws.{one_listed, one_written_off}
use Rattle.reading.specs.ReadsLaws.{one_read}
use Rattle.batch.proofs.TookLaws.{one_judged, one_took}
use Rattle.writer.specs.WriterPromisesLaws.{one_written}
use Rattle.history.specs.Calls as calls
use Rattle.history.specs.Calls.{started, judged, took, listed, wrote_off, read, wrote}
use Rattle.history.specs.Step.{step}
use Rattle.history.proofs.CallsLaws.{start_exactly, judge_exactly, take_exactly, list_exactly, off_exactly, read_exactly, write_exactly, no_spreads_exactly}
use Rattle.starting.proofs.start.Reads as start
use Rattle.batch.proofs.judge.Reads as judge
use Rattle.batch.proofs.take.Reads as take
use Rattle.listing.proofs.list_gaps.Reads as list_gaps
use Rattle.listing.proofs.write_off.Reads as write_off
use Rattle.reading.proofs.read_record.Reads as read_record
use Rattle.reading.proofs.read_spread.Reads as read_spread
use Rattle.writer.proofs.write_message.Reads as write_message
use Rattle.writer.proofs.write_spread.Reads as write_spread
use Rattle.starting.proofs.no_spreads.Reads as no_spreads

-- no contract asks anything of what is handed
any_input : ((κs : Lfts 5) (a : _) → start.Pre κs a) × ((κs : Lfts 5) (a : _) → judge.Pre κs a) × ((κs : Lfts 5) (a : _) → take.Pre κs a)
    × ((κs : Lfts 5) (a : _) → list_gaps.Pre κs a) × ((κs : Lfts 4) (a : _) → write_off.Pre κs a)
    × ((κs : Lfts 5) (a : _) → read_record.Pre κs a) × ((κs : Lfts 5) (a : _) → read_spread.Pre κs a)
    × ((κs : Lfts 2) (a : _) → write_message.Pre κs a) × ((κs : Lfts 2) (a : _) → write_spread.Pre κs a) × ((κs : Lfts 2) (a : _) → no_spreads.Pre κs a)
any_input =
    ((λ κs a. tt), (λ κs a. tt), (λ κs a. tt), (λ κs a. tt), (λ κs a. tt), (λ κs a. tt), (λ κs a. tt), (λ κs a. tt), (λ κs a. tt), (λ κs a. tt))

start_outcome : (κs : Lfts 5) (a : _) (r s : _) (x y : _) → start.Post κs a r x → start.Post κs a s y
    → (r ≡ s) × (x.1.1.1.0.now ≡ y.1.1.1.0.now) × (x.1.1.1.1.0.now ≡ y.1.1.1.1.0.now)
start_outcome κs a r s x y p q = let one = one_started r s p q in (one.0, ap (λ (l : Lent). l.rows) one.1, ap (λ (l : Lent). l.records) one.1)

judge_outcome : (κs : Lfts 5) (a : _) (r s : _) (x y : _) → judge.Post κs a r x → judge.Post κs a s y → r ≡ s
judge_outcome κs a r s x y p q = one_judged _ _ r s p q

take_outcome : (κs : Lfts 5) (a : _) (r s : _) (x y : _) → take.Post κs a r x → take.Post κs a s y
    → (r ≡ s) × (x.1.1.0.now ≡ y.1.1.0.now) × (x.1.1.1.0.now ≡ y.1.1.1.0.now)
take_outcome κs a r s x y p q = let one = one_took _ _ r s _ _ p q in (one.0, ap (λ (l : Lent). l.rows) one.1, ap (λ (l : Lent). l.records) one.1)

list_gaps_outcome : (κs : Lfts 5) (a : _) (r s : _) (x y : _) → list_gaps.Post κs a r x → list_gaps.Post κs a s y
    → (r ≡ s) × (x.1.1.1.1.1.0.now ≡ y.1.1.1.1.1.0.now)
list_gaps_outcome κs a r s x y p q = one_listed r s p q

write_off_outcome : (κs : Lfts 4) (a : _) (r s : _) (x y : _) → write_off.Post κs a r x → write_off.Post κs a s y
    → (r ≡ s) × (x.1.1.0.now ≡ y.1.1.0.now)
write_off_outcome κs a r s x y p q = let one = one_written_off r s p q in (one.0, ap (λ (l : Lent). l.rows) one.1)

read_record_outcome : (κs : Lfts 5) (a : _) (r s : _) (x y : _) → read_record.Post κs a r x → read_record.Post κs a s y → r ≡ s
read_record_outcome κs a r s x y p q = let one = one_read r.answer s.answer p q in λ k. record { answer = one.0 k; quote = one.1 k }

read_spread_outcome : (κs : Lfts 5) (a : _) (r s : _) (x y : _) → read_spread.Post κs a r x → read_spread.Post κs a s y → r ≡ s
read_spread_outcome κs a r s x y p q = let one = one_read r.answer s.answer p q in λ k. record { answer = one.0 k; quote = one.1 k }

write_message_outcome : (κs : Lfts 2) (a : _) (r s : _) (x y : _) → write_message.Post κs a r x → write_message.Post κs a s y
    → (r ≡ s) × (x.1.1.1.1.1.0.now ≡ y.1.1.1.1.1.0.now)
write_message_outcome κs a r s x y p q = one_written Contract _ _ _ _ (λ form. values_of form a.1.1.1.1.0) _ r s p q

write_spread_outcome : (κs : Lfts 2) (a : _) (r s : _) (x y : _) → write_spread.Post κs a r x → write_spread.Post κs a s y
    → (r ≡ s) × (x.1.1.1.1.1.0.now ≡ y.1.1.1.1.1.0.now)
write_spread_outcome κs a r s x y p q = one_written Pair _ _ _ _ (λ form. spread_values_of form a.1.1.1.1.0) _ r s p q

no_spreads_outcome : (κs : Lfts 2) (a : _) (r s : _) (x y : _) → no_spreads.Post κs a r x → no_spreads.Post κs a s y → (r ≡ s) × (x.1.0.now ≡ y.1.0.now)
no_spreads_outcome κs a r s x y p q = one_no_spreads r s p q

-- ---- as the step says

-- whatever lists were in use before
start_steps : (κs : Lfts 5) (a : _) (r x : _) (before : Lists) → start.Post κs a r x
    → ((step (lends before a.1.1.1.0.now a.1.1.1.1.0.now) (calls.start (lists a.0.now a.1.0.now) a.1.1.0.now)).answer ≡ started r)
    × (calls.with_lists (lists a.0.now a.1.0.now) (step (lends before a.1.1.1.0.now a.1.1.1.1.0.now) (calls.start (lists a.0.now a.1.0.now) a.1.1.0.now)).left
    ≡ lends (lists a.0.now a.1.0.now) x.1.1.1.0.now x.1.1.1.1.0.now)
start_steps κs a r x before p = (start_exactly (lends before a.1.1.1.0.now a.1.1.1.1.0.now) _ _ r _).0 p

judge_steps : (κs : Lfts 5) (a : _) (r x : _) → judge.Post κs a r x
    → (step (lends (lists a.0.now a.1.0.now) a.1.1.0.now a.1.1.1.0.now) (calls.judge a.1.1.1.1.0.now)).answer ≡ judged r
judge_steps κs a r x p = (judge_exactly _ _ r).0 p

take_steps : (κs : Lfts 5) (a : _) (r x : _) → take.Post κs a r x
    → ((step (lends (lists a.0.now a.1.0.now) a.1.1.0.now a.1.1.1.0.now) (calls.take a.1.1.1.1.0.now)).answer ≡ took r)
    × ((step (lends (lists a.0.now a.1.0.now) a.1.1.0.now a.1.1.1.0.now) (calls.take a.1.1.1.1.0.now)).left ≡ lends (lists a.0.now a.1.0.now) x.1.1.0.now x.1.1.1.0.now)
take_steps κs a r x p = (take_exactly _ _ r _).0 p

list_gaps_steps : (κs : Lfts 5) (a : _) (r x : _) → list_gaps.Post κs a r x
    → (step (lends (lists a.0.now a.1.0.now) a.1.1.0.now a.1.1.1.0.now) (calls.list_gaps a.1.1.1.1.0 a.1.1.1.1.1.0.now)).answer ≡ listed r x.1.1.1.1.1.0.now
list_gaps_steps κs a r x p = (list_exactly _ _ _ r _).0 p

write_off_steps : (κs : Lfts 4) (a : _) (r x : _) → write_off.Post κs a r x
    → ((step (lends (lists a.0.now a.1.0.now) a.1.1.0.now a.1.1.1.0.now) (calls.write_off a.1.1.1.1.0)).answer ≡ wrote_off r)
    × ((step (lends (lists a.0.now a.1.0.now) a.1.1.0.now a.1.1.1.0.now) (calls.write_off a.1.1.1.1.0)).left ≡ lends (lists a.0.now a.1.0.now) x.1.1.0.now a.1.1.1.0.now)
write_off_steps κs a r x p = (off_exactly _ _ r _).0 p

read_record_steps : (κs : Lfts 5) (a : _) (r x : _) → read_record.Post κs a r x
    → (step (lends (lists a.0.now a.1.0.now) a.1.1.0.now a.1.1.1.0.now) (calls.read_record Contract a.1.1.1.1.0 a.1.1.1.1.1.0.now a.1.1.1.1.1.1.0)).answer ≡ read Contract r.answer r.quote
read_record_steps κs a r x p = (read_exactly _ Contract _ _ _ r.answer r.quote).0 p

read_spread_steps : (κs : Lfts 5) (a : _) (r x : _) → read_spread.Post κs a r x
    → (step (lends (lists a.0.now a.1.0.now) a.1.1.0.now a.1.1.1.0.now) (calls.read_record Pair a.1.1.1.1.0 a.1.1.1.1.1.0.now a.1.1.1.1.1.1.0)).answer ≡ read Pair r.answer r.quote
read_spread_steps κs a r x p = (read_exactly _ Pair _ _ _ r.answer r.quote).0 p

-- the writer is handed no memory of the box
write_message_steps : (κs : Lfts 2) (a : _) (r x : _) (lent : Lent) → write_message.Post κs a r x
    → (step lent (calls.write_message a.0 a.1.0 a.1.1.0 a.1.1.1.0.now a.1.1.1.1.0 a.1.1.1.1.1.0.now)).answer ≡ wrote r x.1.1.1.1.1.0.now
write_message_steps κs a r x lent p = (write_exactly lent Contract _ _ _ _ (λ form. values_of form a.1.1.1.1.0) _ r _).0 p

write_spread_steps : (κs : Lfts 2) (a : _) (r x : _) (lent : Lent) → write_spread.Post κs a r x
    → (step lent (calls.write_spread a.0 a.1.0 a.1.1.0 a.1.1.1.0.now a.1.1.1.1.0 a.1.1.1.1.1.0.now)).answer ≡ wrote r x.1.1.1.1.1.0.now
write_spread_steps κs a r x lent p = (write_exactly lent Pair _ _ _ _ (λ form. spread_values_of form a.1.1.1.1.0) _ r _).0 p

-- nor is the spread list without pairs
no_spreads_steps : (κs : Lfts 2) (a : _) (r x : _) (lent : Lent) → no_spreads.Post κs a r x
    → (step lent (calls.no_spreads a.0.now a.1.0.now)).answer ≡ wrote r x.1.0.now
no_spreads_steps κs a r x lent p = (no_spreads_exactly lent _ _ r _).0 p
