-- A lent row of runs: 01 "Sequence and gaps", "a lent row of runs, each a first and a last number".
use Rattle.std.specs.Prelude.{ℕ, ◌*◌, List, [], ◌∷◌, length, take, replicate}
use Rattle.contracts.specs.Sound.{most_segments}
use Rattle.copies.specs.declared.run.Run.{Run}

-- 01 "Sequence and gaps", "each a first and a last number": the row seen as numbers, those of each run in turn
abbrev pub flat : List Run → List ℕ
flat [] = []
flat (run ∷ runs) = run.first ∷ run.last ∷ flat runs

-- a word of our own: a run of cells that are 0
abbrev pub blank : Run
blank = record { first = 0; last = 0 }

-- lent memory: the runs of a gap row
abbrev pub row_runs : ℕ
row_runs = 66

-- 01 "The contract list", M-104: the runs of the gap rows of as many segments as a list may have, at which a call looks at most
abbrev pub most_runs : ℕ
most_runs = row_runs * most_segments

-- 01 "Sequence and gaps", "each a first and a last number": the numbers of those runs
abbrev pub most : ℕ
most = 2 * most_runs

-- a word of our own: as many runs whose cells are 0
abbrev pub blanks : List Run
blanks = replicate most_runs blank

-- a word of our own: one row laid over another, from the first run on and as far as both go
abbrev pub over : List Run → List Run → List Run
over [] rows = rows
over (run ∷ runs) [] = []
over (run ∷ runs) (row ∷ rows) = run ∷ over runs rows

-- a word of our own: the array into which the runs of a lent row are copied
abbrev pub array : List Run → List Run
array rows = over rows blanks

-- a word of our own: the runs of such an array that stand in the lent row
abbrev pub lent : List Run → List Run → List Run
lent rows runs = take (length rows) runs
