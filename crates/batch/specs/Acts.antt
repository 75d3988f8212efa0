-- What a batch does, as it computes: `accepted_exact`, `refused_exact` (OrderLaws), and after every history `history`'s
-- `judged_exactly` and `refines` say what that is.
use Rattle.std.specs.Prelude.{ℕ, List, ◌++◌}
use Rattle.std.proofs.Math.Option.{Option, none, some}
use Rattle.laws.specs.Rules.{first_broken}
use Rattle.state.specs.declared.answers.Judged.{Judged}
use Rattle.state.specs.declared.answers.Judged.TheVariants.{Accepted, Refused}
use Rattle.state.specs.declared.refusal.Refusal.{Refusal}
use Rattle.state.specs.Memory.{Lent, lends, gap_row_of_letter}
use Rattle.state.specs.MemoryRows.{with_gap_row_of_letter}
use Rattle.state.specs.State.{state_rules}
use Rattle.pairs.specs.Lists.{Lists}
use Rattle.turns.specs.Compared.{compared_in, reached_by, counted_numbers}
use Rattle.turns.specs.Turns.{Box, Acted, acted, refused, messages_act}
use Rattle.batch.specs.Batch.{batch_data, batch_letter, batch_rules, count_of}

-- 01 "Sequence and gaps": the box before the first message
abbrev pub box_of : Lent → ℕ → Box
box_of lent letter = record { row = gap_row_of_letter lent.lists letter lent.rows; records = lent.records; taken = 0; old = 0; heartbeats = 0 }

-- 01, the order of checks: what a batch does, unless a rule before it is broken
abbrev pub unless_broken : Option Refusal → Acted → Acted
unless_broken (some refusal) more = refused refusal
unless_broken none more = more

-- 01, the order of checks: a whole batch: its checks, then its messages
unfoldable pub batch_acts : Lent → List ℕ → Acted
batch_acts lent batch =
    unless_broken (first_broken (state_rules lent ++ batch_rules batch))
    (messages_act (count_of batch) lent.lists (batch_letter batch) 0 (box_of lent (batch_letter batch)) (batch_data batch))

-- M-102: how many keys the lookups of a batch compare, by what it did: all of its messages', or those that came so far
abbrev pub batch_compared : Lists → List ℕ → Acted → ℕ
batch_compared lists batch acts = compared_in (reached_by (count_of batch) acts) lists (batch_letter batch) (batch_data batch)

-- 01 "What may be asked", M-102: the numbers of what a batch does, and of the keys compared
abbrev pub batch_numbers : Lent → List ℕ → List ℕ
batch_numbers lent batch = counted_numbers (batch_acts lent batch) (batch_compared lent.lists batch (batch_acts lent batch))

-- 01 "What may be asked", M-102: the answer of what a batch does, with so many keys compared
abbrev pub answer_of : ℕ → Acted → Judged
answer_of compared (acted box) = Accepted box.taken box.old box.heartbeats compared
answer_of compared (refused refusal) = Refused refusal compared

-- 01 "What may be asked": what a batch leaves: "A refusal leaves all lent memory as before"
abbrev pub lent_after : Lent → ℕ → Acted → Lent
lent_after lent letter (acted box) = lends lent.lists (with_gap_row_of_letter lent.lists letter lent.rows box.row) box.records
lent_after lent letter (refused refusal) = lent
