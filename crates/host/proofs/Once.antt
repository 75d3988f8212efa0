-- Against the contracts that the check makes of the source: each function takes any input, and what it returns, answers and leaves follows from what it is handed.
use mathlib.Core.Path.{◌≡◌, ap}
use contract.Lifetimes.{Lfts}
use Rattle.state.specs.Memory.{Lent}
use Rattle.host.specs.PromisesLaws.{start_once, judge_once, take_once, list_once, write_off_once, read_once, write_once, no_spreads_once}
use Rattle.host.proofs.calls.quotebox_start.Reads as start
use Rattle.host.proofs.calls.quotebox_judge.Reads as judge
use Rattle.host.proofs.calls.quotebox_take.Reads as take
use Rattle.host.proofs.calls.quotebox_list_gaps.Reads as list-gaps
use Rattle.host.proofs.calls.quotebox_write_off.Reads as write-off
use Rattle.host.proofs.calls.quotebox_read_level1.Reads as read-level1
use Rattle.host.proofs.calls.quotebox_read_level2.Reads as read-level2
use Rattle.host.proofs.calls.quotebox_write_level1.Reads as write-level1
use Rattle.host.proofs.calls.quotebox_write_level2.Reads as write-level2
use Rattle.host.proofs.spreads.quotebox_read_spread1.Reads as read-spread1
use Rattle.host.proofs.spreads.quotebox_read_spread2.Reads as read-spread2
use Rattle.host.proofs.spreads.quotebox_write_spread1.Reads as write-spread1
use Rattle.host.proofs.spreads.quotebox_write_spread2.Reads as write-spread2
use Rattle.host.proofs.spreads.quotebox_no_spreads.Reads as no_spreads_lem

-- one lent memory has one of each row of cells
rows_one : {lent lent' : Lent} → lent ≡ lent' → lent.rows ≡ lent'.rows
rows_one e = ap (λ (l : Lent). l.rows) e

records_one : {lent lent' : Lent} → lent ≡ lent' → lent.records ≡ lent'.records
records_one e = ap (λ (l : Lent). l.records) e

-- no contract asks anything of what is handed
any_input : ((κs : Lfts 6) (a : _) → start.Pre κs a) × ((κs : Lfts 6) (a : _) → judge.Pre κs a) × ((κs : Lfts 6) (a : _) → take.Pre κs a)
    × ((κs : Lfts 6) (a : _) → list-gaps.Pre κs a) × ((κs : Lfts 5) (a : _) → write-off.Pre κs a) × ((κs : Lfts 7) (a : _) → read-level1.Pre κs a)
    × ((κs : Lfts 7) (a : _) → read-level2.Pre κs a) × ((κs : Lfts 5) (a : _) → write-level1.Pre κs a) × ((κs : Lfts 5) (a : _) → write-level2.Pre κs a)
    × ((κs : Lfts 7) (a : _) → read-spread1.Pre κs a) × ((κs : Lfts 7) (a : _) → read-spread2.Pre κs a) × ((κs : Lfts 5) (a : _) → write-spread1.Pre κs a)
    × ((κs : Lfts 5) (a : _) → write-spread2.Pre κs a) × ((κs : Lfts 3) (a : _) → no_spreads_lem.Pre κs a)
any_input = (
  (λ κs a. tt),
  (λ κs a. tt),
  (λ κs a. tt),
  (λ κs a. tt),
  (λ κs a. tt),
  (λ κs a. tt),
  (λ κs a. tt),
  (λ κs a. tt),
  (λ κs a. tt),
  (λ κs a. tt),
  (λ κs a. tt),
  (λ κs a. tt),
  (λ κs a. tt),
  (λ κs a. tt),
)

start_outcome : (κs : Lfts 6) (a : _) (r s : _) (x y : _) → start.Post κs a r x → start.Post κs a s y
    → ((r ≡ s) × (x.1.1.1.1.1.0.now ≡ y.1.1.1.1.1.0.now)) × (x.1.1.1.0.now ≡ y.1.1.1.0.now) × (x.1.1.1.1.0.now ≡ y.1.1.1.1.0.now)
start_outcome κs a r s x y p q = let one = start_once p q in (one.0, rows_one one.1, records_one one.1)

judge_outcome : (κs : Lfts 6) (a : _) (r s : _) (x y : _) → judge.Post κs a r x → judge.Post κs a s y
    → (r ≡ s) × (x.1.1.1.1.1.0.now ≡ y.1.1.1.1.1.0.now)
judge_outcome κs a r s x y p q = judge_once p q

take_outcome : (κs : Lfts 6) (a : _) (r s : _) (x y : _) → take.Post κs a r x → take.Post κs a s y
    → ((r ≡ s) × (x.1.1.1.1.1.0.now ≡ y.1.1.1.1.1.0.now)) × (x.1.1.0.now ≡ y.1.1.0.now) × (x.1.1.1.0.now ≡ y.1.1.1.0.now)
take_outcome κs a r s x y p q = let one = take_once p q in (one.0, rows_one one.1, records_one one.1)

list_gaps_outcome : (κs : Lfts 6) (a : _) (r s : _) (x y : _) → list-gaps.Post κs a r x → list-gaps.Post κs a s y
    → ((r ≡ s) × (x.1.1.1.1.1.1.0.now ≡ y.1.1.1.1.1.1.0.now)) × (x.1.1.1.1.1.0.now ≡ y.1.1.1.1.1.0.now)
list_gaps_outcome κs a r s x y p q = list_once p q

write_off_outcome : (κs : Lfts 5) (a : _) (r s : _) (x y : _) → write-off.Post κs a r x → write-off.Post κs a s y
    → ((r ≡ s) × (x.1.1.1.1.1.0.now ≡ y.1.1.1.1.1.0.now)) × (x.1.1.0.now ≡ y.1.1.0.now)
write_off_outcome κs a r s x y p q = let one = write_off_once p q in (one.0, rows_one one.1)

read_level1_outcome : (κs : Lfts 7) (a : _) (r s : _) (x y : _) → read-level1.Post κs a r x → read-level1.Post κs a s y
    → ((r ≡ s) × (x.1.1.1.1.1.1.1.0.now ≡ y.1.1.1.1.1.1.1.0.now)) × (x.1.1.1.1.1.1.0.now ≡ y.1.1.1.1.1.1.0.now)
read_level1_outcome κs a r s x y p q = read_once p q

read_level2_outcome : (κs : Lfts 7) (a : _) (r s : _) (x y : _) → read-level2.Post κs a r x → read-level2.Post κs a s y
    → ((r ≡ s) × (x.1.1.1.1.1.1.1.0.now ≡ y.1.1.1.1.1.1.1.0.now)) × (x.1.1.1.1.1.1.0.now ≡ y.1.1.1.1.1.1.0.now)
read_level2_outcome κs a r s x y p q = read_once p q

write_level1_outcome : (κs : Lfts 5) (a : _) (r s : _) (x y : _) → write-level1.Post κs a r x → write-level1.Post κs a s y
    → ((r ≡ s) × (x.1.1.1.1.1.0.now ≡ y.1.1.1.1.1.0.now)) × (x.1.1.1.1.0.now ≡ y.1.1.1.1.0.now)
write_level1_outcome κs a r s x y p q = write_once p q

write_level2_outcome : (κs : Lfts 5) (a : _) (r s : _) (x y : _) → write-level2.Post κs a r x → write-level2.Post κs a s y
    → ((r ≡ s) × (x.1.1.1.1.1.0.now ≡ y.1.1.1.1.1.0.now)) × (x.1.1.1.1.0.now ≡ y.1.1.1.1.0.now)
write_level2_outcome κs a r s x y p q = write_once p q

read_spread1_outcome : (κs : Lfts 7) (a : _) (r s : _) (x y : _) → read-spread1.Post κs a r x → read-spread1.Post κs a s y
    → ((r ≡ s) × (x.1.1.1.1.1.1.1.0.now ≡ y.1.1.1.1.1.1.1.0.now)) × (x.1.1.1.1.1.1.0.now ≡ y.1.1.1.1.1.1.0.now)
read_spread1_outcome κs a r s x y p q = read_once p q

read_spread2_outcome : (κs : Lfts 7) (a : _) (r s : _) (x y : _) → read-spread2.Post κs a r x → read-spread2.Post κs a s y
    → ((r ≡ s) × (x.1.1.1.1.1.1.1.0.now ≡ y.1.1.1.1.1.1.1.0.now)) × (x.1.1.1.1.1.1.0.now ≡ y.1.1.1.1.1.1.0.now)
read_spread2_outcome κs a r s x y p q = read_once p q

write_spread1_outcome : (κs : Lfts 5) (a : _) (r s : _) (x y : _) → write-spread1.Post κs a r x → write-spread1.Post κs a s y
    → ((r ≡ s) × (x.1.1.1.1.1.0.now ≡ y.1.1.1.1.1.0.now)) × (x.1.1.1.1.0.now ≡ y.1.1.1.1.0.now)
write_spread1_outcome κs a r s x y p q = write_once p q

write_spread2_outcome : (κs : Lfts 5) (a : _) (r s : _) (x y : _) → write-spread2.Post κs a r x → write-spread2.Post κs a s y
    → ((r ≡ s) × (x.1.1.1.1.1.0.now ≡ y.1.1.1.1.1.0.now)) × (x.1.1.1.1.0.now ≡ y.1.1.1.1.0.now)
write_spread2_outcome κs a r s x y p q = write_once p q

no_spreads_outcome : (κs : Lfts 3) (a : _) (r s : _) (x y : _) → no_spreads_lem.Post κs a r x → no_spreads_lem.Post κs a s y
    → ((r ≡ s) × (x.1.1.0.now ≡ y.1.1.0.now)) × (x.1.0.now ≡ y.1.0.now)
no_spreads_outcome κs a r s x y p q = no_spreads_once p q
