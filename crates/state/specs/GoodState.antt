-- A good state, rule by rule: the table's rows 15, 16 and 18.
use Rattle.std.specs.Prelude.{ℕ, ◌≤◌, ◌<◌, ◌≡◌, true, length}
use Rattle.files.specs.File.{segments_of}
use Rattle.pairs.specs.Lists.{Headers}
use Rattle.sequence.specs.RowLaid.{sound_gap_row}
use Rattle.state.specs.Memory.{Lent, gap_rows_wanted, gap_row_of}
use Rattle.slots.specs.Slots.{records_wanted}

-- 01, the table's rows 16, 15 and 18: what calls after start are handed is such that none of the three is given
pub record GoodState (lent : Lent) : Type 0 where
  -- 16
  pub headers : Headers lent.lists
  -- 15
  pub rows_lent : gap_rows_wanted lent.lists ≤ length lent.rows
  pub records_lent : records_wanted lent.lists ≤ length lent.records
  -- 18
  pub rows_sound : (i : ℕ) → i < segments_of lent.lists.contracts → sound_gap_row (gap_row_of lent.rows i) ≡ true
