use Rattle.std.proofs.Common.{◌+◌, ◌≤◌, ◌≡◌}
use Rattle.files.specs.File.{count_at}
use Rattle.lookup.specs.Halving.{halved_from}
use Rattle.lookup.specs.Lookup.{lookup, stands_to}
use Rattle.lookup.proofs.lookup.place_of.Given as goal

abbrev pub invariant-loop-left : goal.invariant-loop-left
invariant-loop-left l = (l.low + l.left ≤ count_at l.list l.segment)
    × (l.compared + l.left ≤ count_at l.list l.segment)
    × ((lookup l.habit l.list l.segment l.wanted).place ≡ (halved_from (stands_to l.habit l.list l.segment l.wanted) l.low l.left).place)
    × ((lookup l.habit l.list l.segment l.wanted).compared ≡ l.compared + (halved_from (stands_to l.habit l.list l.segment l.wanted) l.low l.left).compared)

abbrev pub decreases-loop-left : goal.decreases-loop-left
decreases-loop-left l = l.left
