-- How runs and gaps change, as it computes: `after_missing`, `after_counted` and `wrote_off_missing` (GapsLaws) say what each change does
-- to the numbers that are missing.
use Rattle.std.specs.Prelude.{ℕ, ◌+◌, ◌-◌, max, cond, Bool, List, [], ◌∷◌, ◌++◌, ltb, eqb, length}
use Rattle.sequence.specs.Runs.{Run, ◌to◌, names}
use Rattle.sequence.specs.Gaps.{Gaps, most}

-- 01 "Sequence and gaps": the numbers from a on that stand below c, as runs: one, or none
abbrev pub span : ℕ → ℕ → List Run
span a c = cond (ltb a c) (a to (c - 1) ∷ []) []

-- 01 "Sequence and gaps": a run before others, joined to the next where the two touch
abbrev pub meet : Run → List Run → List Run
meet r [] = r ∷ []
meet r (s ∷ rs) = cond (eqb (r.last + 1) s.first) (r.first to s.last ∷ rs) (r ∷ s ∷ rs)

-- 01 "Sequence and gaps": runs before others, "with no two runs touching"
abbrev pub join : List Run → List Run → List Run
join [] later = later
join (r ∷ rs) later = meet r (join rs later)

-- 01 "Sequence and gaps": what of a run stands below a number that is missing no more, and what above
abbrev pub parted : Run → ℕ → List Run
parted r k = span r.first k ++ span (k + 1) (r.last + 1)

-- 01 "Sequence and gaps": runs without a number: the run that names it is parted by it
abbrev pub without : List Run → ℕ → List Run
without [] k = []
without (r ∷ rs) k = cond (names r k) (parted r k ++ rs) (r ∷ without rs k)

-- 01 "Sequence and gaps": "highest begins one below it"
abbrev pub begun : ℕ → Gaps
begun n = record { start = n; highest = n - 1; runs = [] }

-- 01 "Sequence and gaps": the runs when a number is taken: above highest it leaves the numbers between missing, else it is
-- missing no more
abbrev pub runs_after : Gaps → ℕ → List Run
runs_after g k = cond (ltb g.highest k) (join g.runs (span (g.highest + 1) k)) (without g.runs k)

-- 01 "Sequence and gaps": the gaps when a number is taken; highest is the highest number taken
abbrev pub after : Gaps → ℕ → Gaps
after g k = record { start = g.start; highest = max g.highest k; runs = runs_after g k }

-- 01, the table's row 14: more than 64 runs would stand
abbrev pub full : Gaps → ℕ → Bool
full g k = ltb most (length (runs_after g k))

-- a word of our own: the same start and highest with other runs
abbrev pub with_runs : Gaps → List Run → Gaps
with_runs g rs = record { start = g.start; highest = g.highest; runs = rs }

-- 01 "Sequence and gaps": "A write-off removes the lowest run"
abbrev pub without_lowest : List Run → List Run
without_lowest [] = []
without_lowest (r ∷ rs) = rs

-- 01 "Sequence and gaps": the gaps without their lowest run
abbrev pub wrote_off : Gaps → Gaps
wrote_off g = with_runs g (without_lowest g.runs)
