-- A segment's gap row: 132 numbers, which are start, highest, number of runs, 0, then 64 runs of first and last.
use Rattle.std.specs.Prelude.{ℕ, List, [], ◌∷◌, get_or, take, drop}
use Rattle.sequence.specs.Runs.{Run, ◌to◌}
use Rattle.sequence.specs.Gaps.{Gaps}

-- lent memory: the numbers of a gap row
abbrev pub cells : ℕ
cells = 132

-- lent memory: the numbers before the runs
abbrev pub head : ℕ
head = 4

-- lent memory: numbers two by two, as runs
abbrev pub pairs : List ℕ → List Run
pairs [] = []
pairs (a ∷ []) = []
pairs (a ∷ b ∷ ns) = a to b ∷ pairs ns

-- lent memory: the third number tells how many runs stand
abbrev pub count : List ℕ → ℕ
count row = get_or row 2 0

-- lent memory: what a row says; of its 64 runs so many stand as it counts
unfoldable pub gaps_of : List ℕ → Gaps
gaps_of row = record { start = get_or row 0 0; highest = get_or row 1 0; runs = take (count row) (pairs (drop head row)) }

-- lent memory: the runs that stand in a row
abbrev pub runs_of : List ℕ → List Run
runs_of row = (gaps_of row).runs
