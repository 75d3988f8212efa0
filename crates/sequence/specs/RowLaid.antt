-- A gap row as it is laid out and tested: `laid_gaps` and `sound_row_exactly` (RowLaws) say what stands in it.
use Rattle.std.specs.Prelude.{ℕ, ◌+◌, ◌*◌, Bool, ◌&&◌, List, [], ◌∷◌, ◌++◌, leb, eqb, length, get_or, drop}
use Rattle.sequence.specs.Runs.{Run}
use Rattle.sequence.specs.Gaps.{Gaps, most}
use Rattle.sequence.specs.SoundTests.{sound_gaps}
use Rattle.sequence.specs.Row.{cells, count, gaps_of, head}

-- lent memory: the place of a run's first number
abbrev pub cell : ℕ → ℕ
cell i = head + 2 * i

-- lent memory: runs as numbers, a first and a last each
abbrev pub flat : List Run → List ℕ
flat [] = []
flat (r ∷ rs) = r.first ∷ r.last ∷ flat rs

-- lent memory: gaps put into a row: every number beyond the last run, and the fourth, stays as it was
unfoldable pub laid : List ℕ → Gaps → List ℕ
laid row g =
    g.start ∷ g.highest ∷ length g.runs ∷ get_or row 3 0 ∷ (flat g.runs ++ drop (cell (length g.runs)) row)

-- 01, the table's row 18: a row of 132 numbers with at most 64 runs whose gaps are sound
unfoldable pub sound_gap_row : List ℕ → Bool
sound_gap_row row = eqb (length row) cells && leb (count row) most && sound_gaps (gaps_of row)
