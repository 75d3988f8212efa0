-- The messages of a batch on a copy of their segment's gap row: the words of the inner contracts.
use Rattle.std.specs.Prelude.{ℕ, ◌+◌, ◌*◌, ◌≤◌, ◌<◌, ◌≡◌, true, List, length}
use Rattle.std.proofs.Math.Option.{Option, some}
use Rattle.files.specs.File.{segments_of}
use Rattle.pairs.specs.Lists.{Lists, Headers}
use Rattle.head.specs.Fields.{segment_letter_of}
use Rattle.sequence.specs.RowLaid.{sound_gap_row}
use Rattle.state.specs.declared.answers.Judged.{Judged}
use Rattle.state.specs.Answers.{judged_numbers}
use Rattle.turns.specs.Compared.{compared_in, reached_by, counted_numbers}
use Rattle.turns.specs.Turns.{Acted, messages_act}
use Rattle.batch.specs.Acts.{box_of, lent_after}
use Rattle.state.specs.Memory.{Lent, lends, gap_row_cells, gap_rows_wanted, gap_row_of}
use Rattle.state.specs.MemoryRows.{gap_rows_sound}

-- a word of our own: every listed segment has a sound row
pub record RowsReady (lists : Lists) (rows : List ℕ) : Type 0 where
  pub enough : gap_rows_wanted lists ≤ length rows
  pub sound : gap_rows_sound (segments_of lists.contracts) rows ≡ true

-- a word of our own: the row of a segment is lent, where there is one, and sound
abbrev pub RowReady : List ℕ → Option ℕ → Type 0
RowReady rows segment = (i : ℕ) → segment ≡ some i → (gap_row_cells * i + gap_row_cells ≤ length rows) × (sound_gap_row (gap_row_of rows i) ≡ true)

-- a word of our own: the row of a segment, or a sound row where there is none
pub record ScratchRow (rows : List ℕ) (segment : Option ℕ) (row : List ℕ) : Type 0 where
  pub sound : sound_gap_row row ≡ true
  pub is : (i : ℕ) → segment ≡ some i → row ≡ gap_row_of rows i

-- a word of our own: the list and the gap rows were checked, and there are messages
pub record DataReady (lists : Lists) (rows : List ℕ) (count : ℕ) : Type 0 where
  pub headers : Headers lists
  pub rows_ready : RowsReady lists rows
  pub some_messages : 0 < count
  pub few : count < 65536

-- a word of our own: what the messages of a batch do
abbrev pub data_acts : Lent → List ℕ → ℕ → Acted
data_acts lent bytes count = messages_act count lent.lists (segment_letter_of bytes) 0 (box_of lent (segment_letter_of bytes)) bytes

-- a word of our own: the numbers of that, and of the keys compared
abbrev pub data_numbers : Lent → List ℕ → ℕ → List ℕ
data_numbers lent bytes count =
    counted_numbers (data_acts lent bytes count) (compared_in (reached_by count (data_acts lent bytes count)) lent.lists (segment_letter_of bytes) bytes)

-- a word of our own: they are judged, whatever the records are
pub record JudgedData (lists : Lists) (rows bytes : List ℕ) (count : ℕ) (answer : Judged) : Type 0 where
  pub answers : (records : List ℕ) → judged_numbers answer ≡ data_numbers (lends lists rows records) bytes count

-- a word of our own: they are taken
pub record TookData (lent : Lent) (bytes : List ℕ) (count : ℕ) (answer : Judged) (lent' : Lent) : Type 0 where
  pub answers : judged_numbers answer ≡ data_numbers lent bytes count
  pub left : lent' ≡ lent_after lent (segment_letter_of bytes) (data_acts lent bytes count)
