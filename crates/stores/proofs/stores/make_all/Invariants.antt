use Rattle.std.proofs.Common.{◌≡◌, length}
use Rattle.stores.specs.Stores.{made}
use Rattle.stores.proofs.stores.make_all.Given as goal

abbrev pub invariant-loop-i : goal.invariant-loop-i
invariant-loop-i l = (length l.records ≡ length l.initial.records) × (l.records ≡ made l.i l.stores l.initial.records)
