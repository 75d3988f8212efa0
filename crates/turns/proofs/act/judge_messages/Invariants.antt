use Rattle.std.proofs.Common.{◌*◌, ◌≤◌, ◌≡◌, true, length}
use Rattle.pairs.specs.Lists.{lists}
use Rattle.sequence.specs.RowLaid.{sound_gap_row}
use Rattle.turns.specs.Acts.{total}
use Rattle.turns.proofs.MessagesLaws.{Going}
use Rattle.turns.proofs.act.judge_messages.Given as goal

abbrev pub invariant-loop-i : goal.invariant-loop-i
invariant-loop-i l =
    (l.i ≤ l.count) × (l.at ≤ length l.data) × (sound_gap_row l.row ≡ true) × (total l.counts ≡ l.i) × (length l.stores ≡ length l.initial.stores) × Going (lists l.list l.spreads) l.letter l.initial.row (length l.initial.stores) l.data l.count l.row l.stores l.kept l.counts l.compared l.at l.i
    × (l.compared ≤ 13 * l.i)
