-- Words of inner contracts only: what the code does on its way, in terms of runs.
use Rattle.std.specs.Prelude.{Option, Some, None, ℕ, suc, ◌<◌, ◌≤◌, ◌≡◌, true, false, List, length}
use Rattle.sequence.specs.Runs.{Run, run, names, missing}
use Rattle.sequence.specs.Gaps.{most}
use Rattle.sequence.specs.Row.{count, gaps_of, runs_of}
use Rattle.sequence.specs.RowLaid.{sound_gap_row}
use Rattle.sequence.specs.Steps.{Stands}

-- a word of our own: the run that names a number, or that none does
abbrev pub Placed : List Run → ℕ → Option ℕ → Type 0
Placed rs k (Some i) = (i < length rs) × (names (run rs i) k ≡ true)
Placed rs k None = missing rs k ≡ false

-- a word of our own: a sound row, a run of which names the number
pub record Missed (row : List ℕ) (i number : ℕ) : Type 0 where
  pub sound : sound_gap_row row ≡ true
  pub place : Stands row i
  pub above : (run (runs_of row) i).first ≤ number
  pub below : number ≤ (run (runs_of row) i).last
  pub some : 0 < (run (runs_of row) i).first
  pub few : length (runs_of row) ≤ most
  pub counted : count row ≤ most

-- a word of our own: a sound row, and numbers between highest and the number
pub record Skipped (row : List ℕ) (number : ℕ) : Type 0 where
  pub sound : sound_gap_row row ≡ true
  pub between : suc (gaps_of row).highest < number
