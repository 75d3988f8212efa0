-- Words of inner contracts only: what the code does on its way, in terms of runs.
use Rattle.std.specs.Prelude.{ℕ, suc, ◌<◌, ◌≡◌, List, [], ◌∷◌, ◌++◌, length, take, drop}
use Rattle.std.proofs.Math.Seq.{paste}
use Rattle.sequence.specs.Runs.{Run, ◌to◌}
use Rattle.sequence.specs.Gaps.{most}
use Rattle.sequence.specs.Changes.{with_runs}
use Rattle.sequence.specs.Row.{cells, gaps_of, runs_of}
use Rattle.sequence.specs.RowLaid.{laid}

-- a word of our own: numbers from one place on copied to another
abbrev pub moved : List ℕ → ℕ → ℕ → ℕ → List ℕ
moved row from at n = paste row at (drop from row) n

-- a word of our own: other runs instead of one, in a list
abbrev pub instead : List Run → ℕ → List Run → List Run
instead rs i others = take i rs ++ (others ++ drop (suc i) rs)

-- a word of our own: other runs instead of one, in a row
abbrev pub replaced : List ℕ → ℕ → List Run → List ℕ
replaced row i others = laid row (with_runs (gaps_of row) (instead (runs_of row) i others))

-- a word of our own: a run that ends sooner, and one that begins later
abbrev pub divided : Run → ℕ → ℕ → List Run
divided r end begin = r.first to end ∷ begin to r.last ∷ []

-- a word of our own: a row of the right length in which a run stands
pub record Stands (row : List ℕ) (i : ℕ) : Type 0 where
  pub wide : length row ≡ cells
  pub stands : i < length (runs_of row)
  pub within : i < most
