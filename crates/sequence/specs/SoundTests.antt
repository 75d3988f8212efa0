-- The test of a segment's gaps, as it computes: `sound_exactly` (SoundLaws) says that it holds exactly where `SoundGaps` does.
use Rattle.std.specs.Prelude.{ℕ, ◌+◌, ◌-◌, Bool, true, ◌&&◌, List, [], ◌∷◌, leb, ltb, length}
use Rattle.sequence.specs.Runs.{Run}
use Rattle.sequence.specs.Gaps.{Gaps, most}

-- 01, the table's row 18, its runs as a test, which goes through them once: each may begin from a number on, two above the last
-- before it
abbrev pub sound_runs : ℕ → List Run → ℕ → Bool
sound_runs from [] highest = true
sound_runs from (r ∷ rs) highest =
    leb from r.first && leb r.first r.last && leb r.last highest && sound_runs (r.last + 2) rs highest

-- 01, the table's row 18, as a test
abbrev pub sound_gaps : Gaps → Bool
sound_gaps g =
    ltb 0 g.start && leb (g.start - 1) g.highest && leb (length g.runs) most
    && sound_runs g.start g.runs g.highest
