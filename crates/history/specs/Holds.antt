-- What holds after every history: the words of the laws on its steps.
use Rattle.std.specs.Prelude.{ℕ, ◌<◌, List}
use Rattle.files.specs.File.{segments_of}
use Rattle.pairs.specs.Lists.{SoundLists}
use Rattle.sequence.specs.Row.{gaps_of}
use Rattle.state.specs.Memory.{Lent, gap_row_of}
use Rattle.starting.specs.Start.{start_of}
use Rattle.state.specs.GoodState.{GoodState}
use Rattle.history.specs.Past.{Event, taken_of, wrote_off_in}
use Rattle.history.specs.Segment.{Fits}
use Rattle.history.specs.Kept.{RecordsFit}

-- demand 3: the lists are sound, the state good, the gaps those of the past, and each record its newest update
pub record Holds (starts : List ℕ) (lent : Lent) (past : List Event) : Type 0 where
  pub lists_sound : SoundLists lent.lists
  -- 16, 15 and 18 are not given
  pub state : GoodState lent
  pub gaps_fit : (i : ℕ) → i < segments_of lent.lists.contracts
      → Fits (start_of starts i) (taken_of i (start_of starts i) past) (wrote_off_in i past) (gaps_of (gap_row_of lent.rows i))
  pub records_fit : RecordsFit lent.lists starts lent.records past
