-- Words of inner contracts only: what this crate's function promises its callers: its answer, and every number lent to it,
-- afterwards.
use Rattle.std.specs.Prelude.{Result, ℕ, ◌≡◌, List}
use Rattle.sequence.specs.Answers.{take_answer, took}
use Rattle.sequence.specs.Row.{gaps_of}
use Rattle.sequence.specs.RowLaid.{laid}
use Rattle.taking.specs.Answers.{taken_numbers}
use Rattle.taking.specs.declared.Taken.{Taken}
use Rattle.taking.specs.declared.Full.{Full}

-- 01 "Sequence and gaps": a number has come; it is taken, old, or would leave too many runs
pub record Took (row : List ℕ) (number : ℕ) (answer : Result Taken Full) (row' : List ℕ) : Type 0 where
  pub says : taken_numbers answer ≡ take_answer (gaps_of row) number
  pub left : row' ≡ laid row (took (gaps_of row) number)
