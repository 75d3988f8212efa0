-- Each turn reads a byte or more, and the room ends; what is there stays.
use Rattle.std.proofs.Common.{◌≡◌, ◌-◌, ◌≤◌, length, take}
use Rattle.console.proofs.room.read_until.Given as goal

abbrev pub invariant-loop-end : goal.invariant-loop-end
invariant-loop-end g l =
    (l.from ≤ l.end) × (l.end ≤ length l.initial.room) × (length l.room ≡ length l.initial.room) × (take l.from l.room ≡ take l.from l.initial.room)

abbrev pub decreases-loop-end : goal.decreases-loop-end
decreases-loop-end g l = length l.initial.room - l.end
