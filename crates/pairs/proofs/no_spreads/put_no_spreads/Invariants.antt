use Rattle.std.proofs.Common.{◌≡◌}
use lib.Seq.{sets}
use Rattle.pairs.specs.NoSpreads.{empty_entries}
use Rattle.pairs.proofs.no_spreads.put_no_spreads.Given as goal

abbrev pub invariant-loop-i : goal.invariant-loop-i
invariant-loop-i l = l.out ≡ sets l.initial.out 2 (empty_entries l.list l.i)
