-- M-102: how many keys the lookups of a batch compare; on a refusal, those done so far.
use Rattle.std.specs.Prelude.{ℕ, zero, suc, ◌+◌, List, [], ◌∷◌, ◌++◌, drop}
use Rattle.pairs.specs.Lists.{Lists}
use Rattle.head.specs.Fields.{length_of}
use Rattle.message.specs.Compared.{message_compared}
use Rattle.state.specs.declared.refusal.Refusal.{Refusal}
use Rattle.state.specs.declared.refusal.Refusal.TheVariants.{Size, Packed, Flag, Count, Frame, Code, Trailer, Length, Checksum, Numbering, Field, Range, Contract, Gaps, Memory, List as ListOf, NoGap, State}
use Rattle.state.specs.declared.answers.Judged.{Judged}
use Rattle.turns.specs.Turns.{Acted, acted, refused, acted_numbers}

-- M-102, "add up the counts of a batch's lookups": of so many messages, each of which begins where the one before it ends
abbrev pub compared_in : ℕ → Lists → ℕ → List ℕ → ℕ
compared_in zero lists letter bytes = 0
compared_in (suc more) lists letter bytes = message_compared lists letter bytes + compared_in more lists letter (drop (length_of bytes) bytes)

-- M-102, "those done so far", and the order of checks: how many of a batch's messages have come to their lookup: all before the one that
-- 5 to 12 refuse, that one too where it is 13 or 14, all where bytes are left over (4), and none where a rule before the messages refuses
abbrev pub reached : ℕ → Refusal → ℕ
reached count Size = 0
reached count Packed = 0
reached count Flag = 0
reached count Count = count
reached count (Frame message) = message
reached count (Code message) = message
reached count (Trailer message) = message
reached count (Length message) = message
reached count (Checksum message) = message
reached count (Numbering message) = message
reached count (Field message row) = message
reached count (Range message row) = message
reached count (Contract message) = message + 1
reached count (Gaps message) = message + 1
reached count (Memory wanted) = 0
reached count ListOf = 0
reached count NoGap = 0
reached count State = 0

-- M-102: the same of what so many messages did: all of them where none is refused
abbrev pub reached_by : ℕ → Acted → ℕ
reached_by count (acted box) = count
reached_by count (refused refusal) = reached count refusal

-- M-102: the numbers of what messages did, and how many keys were compared behind them
abbrev pub counted_numbers : Acted → ℕ → List ℕ
counted_numbers acts compared = acted_numbers acts ++ (compared ∷ [])

-- M-102: how many keys an answer says
abbrev pub compared_of : Judged → ℕ
compared_of (Judged.Accepted taken old heartbeats compared) = compared
compared_of (Judged.Refused refusal compared) = compared

-- M-102: how many of a batch's messages have come to their lookup, by its answer: the place of a refusal tells it
abbrev pub reached_in : ℕ → Judged → ℕ
reached_in count (Judged.Accepted taken old heartbeats compared) = count
reached_in count (Judged.Refused refusal compared) = reached count refusal
