-- The box of a batch beside what the past says, as its messages act in turn.
use Rattle.std.specs.Prelude.{ℕ, ◌+◌, ◌≤◌, ◌≡◌, true, List, length}
use Rattle.pairs.specs.Lists.{Lists, Headers}
use Rattle.sequence.specs.Row.{gaps_of}
use Rattle.sequence.specs.RowLaid.{sound_gap_row}
use Rattle.message.specs.Message.{Message}
use Rattle.turns.specs.Turns.{Box}
use Rattle.slots.specs.Slots.{records_wanted}
use Rattle.starting.specs.Start.{start_of}
use Rattle.history.specs.Past.{Event, wrote_off_in, taken_of, is_taken, is_old, how_many, all_came}
use Rattle.history.specs.Segment.{Fits}
use Rattle.history.specs.Kept.{RecordsFit}
use Rattle.history.specs.Machine.{is_heartbeat}

-- demand 3: the gap row of segment i, which is the batch's, and all records are those of the past
pub record BoxFits (lists : Lists) (starts : List ℕ) (i : ℕ) (past : List Event) (box : Box) : Type 0 where
  -- the lists pass the short check of 16
  pub headers : Headers lists
  pub row_sound : sound_gap_row box.row ≡ true
  pub gaps_fit : Fits (start_of starts i) (taken_of i (start_of starts i) past) (wrote_off_in i past) (gaps_of box.row)
  pub records_fit : RecordsFit lists starts box.records past
  pub records_long : records_wanted lists ≤ length box.records

-- demand 3: and so are they after messages that came, with the counts by what became of each
pub record Turned (lists : Lists) (starts : List ℕ) (i : ℕ) (past : List Event) (box : Box) (ms : List Message) (box' : Box) : Type 0 where
  pub fits : BoxFits lists starts i (all_came i ms past) box'
  pub taken_are : box'.taken ≡ box.taken + how_many (is_taken i (start_of starts i)) i ms past
  pub old_are : box'.old ≡ box.old + how_many (is_old i (start_of starts i)) i ms past
  pub heartbeats_are : box'.heartbeats ≡ box.heartbeats + how_many (λ before m. is_heartbeat m.what) i ms past
