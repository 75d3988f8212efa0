-- A segment's gaps beside what its past says: the words of the laws on every step of a history.
use Rattle.std.specs.Prelude.{ℕ, ◌≤◌, ◌≡◌, Bool, true, List}
use Rattle.sequence.specs.Runs.{missing}
use Rattle.sequence.specs.Gaps.{Gaps}
use Rattle.sequence.specs.Sound.{SoundGaps}
use Rattle.message.specs.Message.{Message}
use Rattle.history.specs.Machine.{highest_of, missing_by}

-- demand 3: gaps that name exactly the missing numbers
pub record Fits (start : ℕ) (taken : List Message) (written_off : ℕ → Bool) (g : Gaps) : Type 0 where
  pub sound : SoundGaps g
  pub start_is : g.start ≡ start
  pub highest_is : g.highest ≡ highest_of start taken
  pub missing_is : (n : ℕ) → missing g.runs n ≡ missing_by start taken written_off n
  pub off_below : (n : ℕ) → written_off n ≡ true → n ≤ g.highest
