-- Sound gaps: 01, the table of refusals, 18.
use Rattle.std.specs.Prelude.{ℕ, suc, ◌+◌, ◌-◌, ◌≤◌, ◌<◌, length}
use Rattle.sequence.specs.Runs.{run}
use Rattle.sequence.specs.Gaps.{Gaps, most}

-- 01, the table's row 18, given where one of these fails: start not 0, highest not under start - 1, not over 64 runs, no run's
-- first above its last, runs ascending and not touching, and inside start to highest
pub record SoundGaps (g : Gaps) : Type 0 where
  pub started : 0 < g.start
  pub reached : g.start - 1 ≤ g.highest
  pub few : length g.runs ≤ most
  pub proper : (i : ℕ) → i < length g.runs → (run g.runs i).first ≤ (run g.runs i).last
  pub ascending : (i : ℕ) → suc i < length g.runs → (run g.runs i).last + 1 < (run g.runs (suc i)).first
  pub inside : (i : ℕ) → i < length g.runs → (g.start ≤ (run g.runs i).first) × ((run g.runs i).last ≤ g.highest)
