-- The wanted front of lent memory: 01 "What may be asked", the cells wanted for state, "a number that the lists' counts alone
-- fix". What a call answers, and what it leaves of that front, follows from that front alone. `FrontLaws` proves it.
use Rattle.std.specs.Prelude.{◌≤◌, ◌≡◌, length, take}
use Rattle.state.specs.Memory.{Lent, lends, gap_rows_wanted}
use Rattle.slots.specs.Slots.{records_wanted}
use Rattle.history.specs.Calls.{Call, start, judge, take as taking, list_gaps, write_off, read_record, write_message, write_spread, no_spreads, with_lists}
use Rattle.history.specs.Step.{step}

-- 01 "What may be asked": the first cells of lent memory, as many as are wanted
abbrev pub front_of : Lent → Lent
front_of lent =
    lends lent.lists (take (gap_rows_wanted lent.lists) lent.rows) (take (records_wanted lent.lists) lent.records)

-- 01, the table's row 15: as many cells are lent as are wanted
pub record Enough (lent : Lent) : Type 0 where
  pub rows_lent : gap_rows_wanted lent.lists ≤ length lent.rows
  pub records_lent : records_wanted lent.lists ≤ length lent.records

-- 01 "What may be asked": what a call is handed: a start has lists of its own
abbrev pub handed : Lent → Call → Lent
handed lent (start lists starts) = with_lists lists lent
handed lent (judge batch) = lent
handed lent (taking batch) = lent
handed lent (list_gaps letter cells) = lent
handed lent (write_off letter) = lent
handed lent (read_record item letter key level) = lent
handed lent (write_message code level number key quote out) = lent
handed lent (write_spread code level number key quote out) = lent
handed lent (no_spreads list out) = lent

-- 01 "What may be asked": two lent memories of the same lists, both with enough cells, whose wanted cells are the same
pub record SameFront (lent lent' : Lent) : Type 0 where
  pub enough : Enough lent
  pub enough' : Enough lent'
  pub same_front : front_of lent ≡ front_of lent'

-- 01 "What may be asked": then a call answers the same, and leaves the same in the wanted cells
pub record SameOutcome (lent lent' : Lent) (c : Call) : Type 0 where
  pub same_answer : (step lent c).answer ≡ (step lent' c).answer
  pub same_left : front_of (handed (step lent c).left c) ≡ front_of (handed (step lent' c).left c)
