-- Words of inner contracts only: what each function of this crate promises its callers: its answer, and every number lent to it,
-- afterwards.
use Rattle.std.specs.Prelude.{Option, Result, ℕ, ◌≡◌, List, length, replicate}
use Rattle.sequence.specs.Changes.{begun, wrote_off}
use Rattle.sequence.specs.Answers.{list_answer, write_off_answer, write_off_numbers, listed_numbers, runs_listed}
use Rattle.sequence.specs.Row.{cells, gaps_of}
use Rattle.sequence.specs.RowLaid.{laid}
use Rattle.sequence.specs.declared.Run.{Run}
use Rattle.sequence.specs.declared.GapsListed.{GapsListed}
use Rattle.sequence.specs.declared.Short.{Short}

-- 01 "Sequence and gaps": a segment's start, in a row that is cleared
pub record Began (number : ℕ) (row' : List ℕ) : Type 0 where
  pub left : row' ≡ laid (replicate cells 0) (begun number)

-- 01 "Sequence and gaps": the lowest run is written off
pub record WroteOff (row : List ℕ) (answer : Option Run) (row' : List ℕ) : Type 0 where
  pub says : write_off_numbers answer ≡ write_off_answer (gaps_of row)
  pub left : row' ≡ laid row (wrote_off (gaps_of row))

-- 01 "What may be asked": the gaps are listed in lent cells
pub record ListedGaps (row lent : List ℕ) (answer : Result GapsListed Short) (lent' : List ℕ) : Type 0 where
  pub says : listed_numbers answer ≡ list_answer (gaps_of row) (length lent)
  pub left : lent' ≡ runs_listed lent (gaps_of row)
