-- A batch before its messages: 01 "The batch", and the rules 1 to 4 in their order.
use Rattle.std.specs.Prelude.{ℕ, ◌+◌, ◌&&◌, List, [], ◌∷◌, leb, ltb, eqb, length, drop}
use Rattle.wire.specs.Number.{number_at}
use Rattle.head.specs.Fields.{segment_letter_of}
use Rattle.state.specs.declared.refusal.Refusal.TheVariants.{Size, Packed, Flag, Count}
use Rattle.state.specs.Refusals.{Rule}

-- 01 "The batch": flag (1 byte)
unfoldable pub flag_of : List ℕ → ℕ
flag_of batch = number_at 1 batch 0

-- 01 "The batch": data size (2), behind the flag
unfoldable pub size_of : List ℕ → ℕ
size_of batch = number_at 2 batch 1

-- 01 "The batch": number of messages (2), behind the size
unfoldable pub count_of : List ℕ → ℕ
count_of batch = number_at 2 batch 3

-- 01 "The batch": five bytes, then the data
abbrev pub batch_data : List ℕ → List ℕ
batch_data batch = drop 5 batch

-- 01, the order of checks of a batch: the checks before the messages: under 5 bytes (1), flag (2, 3), the rest of 1, no
-- messages (4)
abbrev pub batch_rules : List ℕ → List Rule
batch_rules batch =
    record { holds = leb 5 (length batch); refusal = Size }
    ∷ record { holds = ltb 0 (flag_of batch); refusal = Packed }
    ∷ record { holds = leb (flag_of batch) 1; refusal = Flag }
    ∷ record { holds = leb (size_of batch) 32767 && eqb (length batch) (size_of batch + 5); refusal = Size }
    ∷ record { holds = ltb 0 (count_of batch); refusal = Count }
    ∷ []

-- 01, the table's row 6, M-104: the segment of the first message is the batch's
abbrev pub batch_letter : List ℕ → ℕ
batch_letter batch = segment_letter_of (batch_data batch)
