-- Against the contracts that the check makes of the source: each public call takes any input; and what it answers, and every cell lent to it to be written, follows from what it is handed.
-- All this is said of their clauses, in the logic that these are written in, whatever its model.
use Rattle.std.proofs.Common.{◌≡◌}
use seplogic.Ra.Ura.{Ura}
use base.Logic.{SProp, ent, emp, id⊢}
use prog.Memory.{Memory}
use prog.Routine.{Routine}
use types.Logic.{Logic}
use contract.Lifetimes.{Lfts}
use contract.Monad.{Fun, conj, conj_l, conj_r, fact, fact_i, fact_use}
use denote.Triple.Clauses.{Clauses}
use Rattle.runs.specs.PromisesLaws.{one_started_runs, one_judged_runs, one_took_runs, one_listed_gaps, one_wrote_off_runs, one_read_runs}
use Rattle.runs.specs.contracts.calls.start as start
use Rattle.runs.specs.contracts.calls.judge as judge
use Rattle.runs.specs.contracts.calls.take as take
use Rattle.runs.specs.contracts.calls.list_gaps as list-gaps
use Rattle.runs.specs.contracts.calls.write_off as write-off
use Rattle.runs.specs.contracts.calls.read_record as read-record
use Rattle.runs.specs.contracts.calls.read_spread as read-spread

module _ {M : Type 1} {𝓤 : Ura M} (𝓛 : Logic 𝓤) (mem : Memory → SProp 𝓤) (run : Routine → Fun 𝓤) where
  -- the contract of each call
  abbrev starts : Clauses 𝓤 start.ended
  starts = start.clauses 𝓛 mem run

  abbrev judges : Clauses 𝓤 judge.ended
  judges = judge.clauses 𝓛 mem run

  abbrev takes : Clauses 𝓤 take.ended
  takes = take.clauses 𝓛 mem run

  abbrev lists : Clauses 𝓤 list-gaps.ended
  lists = list-gaps.clauses 𝓛 mem run

  abbrev writes_off : Clauses 𝓤 write-off.ended
  writes_off = write-off.clauses 𝓛 mem run

  abbrev reads : Clauses 𝓤 read-record.ended
  reads = read-record.clauses 𝓛 mem run

  abbrev reads_spread : Clauses 𝓤 read-spread.ended
  reads_spread = read-spread.clauses 𝓛 mem run

  -- what is asked for follows from nothing
  abbrev AsksNothing : SProp 𝓤 → Type 1
  AsksNothing asked = ent 𝓤 (emp 𝓤) asked

  -- from what a contract says of two outcomes of one call follows that they are the same
  abbrev Settle : SProp 𝓤 → SProp 𝓤 → Type 0 → Type 1
  Settle this other same = ent 𝓤 (conj 𝓤 this other) (fact 𝓤 same)

  settle : {this other same : Type 0} → (this → other → same) → Settle (fact 𝓤 this) (fact 𝓤 other) same
  settle {this} {other} {same} one =
      fact_use 𝓤 this (conj_l 𝓤 (fact 𝓤 this) (fact 𝓤 other)) (λ p. fact_use 𝓤 other (conj_r 𝓤 (fact 𝓤 this) (fact 𝓤 other)) (λ q. fact_i 𝓤 same _ (one p q)))

  -- no contract asks anything of what is handed
  any_input : ((κs : Lfts 5) (a : _) → AsksNothing ((starts κs a).requires tt)) × ((κs : Lfts 5) (a : _) → AsksNothing ((judges κs a).requires tt))
      × ((κs : Lfts 5) (a : _) → AsksNothing ((takes κs a).requires tt)) × ((κs : Lfts 5) (a : _) → AsksNothing ((lists κs a).requires tt))
      × ((κs : Lfts 4) (a : _) → AsksNothing ((writes_off κs a).requires tt)) × ((κs : Lfts 5) (a : _) → AsksNothing ((reads κs a).requires tt))
      × ((κs : Lfts 5) (a : _) → AsksNothing ((reads_spread κs a).requires tt))
  any_input = ((λ κs a. id⊢ 𝓤 _), (λ κs a. id⊢ 𝓤 _), (λ κs a. id⊢ 𝓤 _), (λ κs a. id⊢ 𝓤 _), (λ κs a. id⊢ 𝓤 _), (λ κs a. id⊢ 𝓤 _), (λ κs a. id⊢ 𝓤 _))

  start_outcome : (κs : Lfts 5) (a : _) (r s : _) (x y : _) → Settle ((starts κs a).ensures tt r x) ((starts κs a).ensures tt s y)
      ((r ≡ s) × (x.1.1.1.0.now ≡ y.1.1.1.0.now) × (x.1.1.1.1.0.now ≡ y.1.1.1.1.0.now))
  start_outcome κs a r s x y = settle (one_started_runs r s)

  judge_outcome : (κs : Lfts 5) (a : _) (r s : _) (x y : _) → Settle ((judges κs a).ensures tt r x) ((judges κs a).ensures tt s y) (r ≡ s)
  judge_outcome κs a r s x y = settle (one_judged_runs r s)

  take_outcome : (κs : Lfts 5) (a : _) (r s : _) (x y : _) → Settle ((takes κs a).ensures tt r x) ((takes κs a).ensures tt s y)
      ((r ≡ s) × (x.1.1.0.now ≡ y.1.1.0.now) × (x.1.1.1.0.now ≡ y.1.1.1.0.now))
  take_outcome κs a r s x y = settle (one_took_runs r s)

  list_gaps_outcome : (κs : Lfts 5) (a : _) (r s : _) (x y : _) → Settle ((lists κs a).ensures tt r x) ((lists κs a).ensures tt s y)
      ((r ≡ s) × (x.1.1.1.1.1.0.now ≡ y.1.1.1.1.1.0.now))
  list_gaps_outcome κs a r s x y = settle (one_listed_gaps r s)

  write_off_outcome : (κs : Lfts 4) (a : _) (r s : _) (x y : _) → Settle ((writes_off κs a).ensures tt r x) ((writes_off κs a).ensures tt s y)
      ((r ≡ s) × (x.1.1.0.now ≡ y.1.1.0.now))
  write_off_outcome κs a r s x y = settle (one_wrote_off_runs r s)

  read_record_outcome : (κs : Lfts 5) (a : _) (r s : _) (x y : _) → Settle ((reads κs a).ensures tt r x) ((reads κs a).ensures tt s y) (r ≡ s)
  read_record_outcome κs a r s x y = settle (λ p q. let one = one_read_runs r.answer s.answer p q in λ k. record { answer = one.0 k; quote = one.1 k })

  read_spread_outcome : (κs : Lfts 5) (a : _) (r s : _) (x y : _) → Settle ((reads_spread κs a).ensures tt r x) ((reads_spread κs a).ensures tt s y) (r ≡ s)
  read_spread_outcome κs a r s x y = settle (λ p q. let one = one_read_runs r.answer s.answer p q in λ k. record { answer = one.0 k; quote = one.1 k })
