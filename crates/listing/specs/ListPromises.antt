-- What listing gaps and writing off promise: the answer, and every lent cell afterwards.
use Rattle.std.specs.Prelude.{ℕ, ◌≡◌, List, length}
use Rattle.laws.specs.Rules.{first_broken}
use Rattle.state.specs.Answers.{listed_numbers, written_off_numbers, answered, left_by, Listed, WrittenOff}
use Rattle.state.specs.Memory.{Lent}
use Rattle.listing.specs.ListRules.{gaps_of_letter, list_rules, write_off_rules}
use Rattle.listing.specs.ListActs.{list_values, runs_put, run_values, lowest_run, lent_written_off}

-- 01 "What may be asked": list gaps answers highest and the number of runs, and puts the runs in lent cells
pub record ListedRuns (lent : Lent) (letter : ℕ) (cells : List ℕ) (answer : Listed) (cells' : List ℕ) : Type 0 where
  pub answers : listed_numbers answer ≡ answered (first_broken (list_rules lent letter (length cells))) (list_values (gaps_of_letter lent letter))
  pub cells_left : cells' ≡ left_by (first_broken (list_rules lent letter (length cells))) cells (runs_put (gaps_of_letter lent letter) cells)

-- 01 "What may be asked": a write-off answers the run it removed, which is the lowest of its segment
pub record WroteOffRun (lent : Lent) (letter : ℕ) (answer : WrittenOff) (lent' : Lent) : Type 0 where
  pub answers : written_off_numbers answer ≡ answered (first_broken (write_off_rules lent letter)) (run_values (lowest_run (gaps_of_letter lent letter)))
  pub left : lent' ≡ left_by (first_broken (write_off_rules lent letter)) lent (lent_written_off lent letter)
