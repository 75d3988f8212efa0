-- What it means that the calls refine the machine of `Machine`.
use Rattle.std.specs.Prelude.{ℕ, ◌≡◌, List, length}
use Rattle.std.proofs.Math.Option.{some}
use Rattle.pairs.specs.Lists.{Lists}
use Rattle.state.specs.Memory.{Lent}
use Rattle.starting.specs.Start.{start_of}
use Rattle.history.specs.Machine.{Machine, Answers}
use Rattle.history.specs.Past.{Event, wrote_off_in, taken_of, taken_for}
use Rattle.history.specs.Kept.{newest}
use Rattle.history.specs.Calls.{Call}
use Rattle.history.specs.Step.{step}
use Rattle.history.specs.Histories.{Since, since_after}

-- demand 3: the machine of a past: the messages taken, the numbers written off, and the newest update of each slot
abbrev pub machine_of : Lists → List ℕ → List Event → Machine
machine_of lists starts past =
    record {
      lists = lists;
      start = start_of starts;
      taken = λ i. taken_of i (start_of starts i) past;
      off = λ i. wrote_off_in i past;
      newest = λ slot. newest slot (taken_for starts slot past);
    }

-- the demands: whatever call is made, the machine may answer what it answers, and what has come then is the machine that it leaves
pub record NextCall (starts : List ℕ) (lent : Lent) (past : List Event) (c : Call) : Type 0 where
  pub later : Since
  pub then : since_after lent c (some (record { starts = starts; past = past })) ≡ some later
  pub answers : Answers (length lent.rows) (length lent.records) (machine_of lent.lists starts past) c (step lent c).answer
      (machine_of (step lent c).left.lists later.starts later.past)
