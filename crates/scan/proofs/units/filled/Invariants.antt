use Rattle.std.proofs.Common.{◌≡◌, ◌*◌, ◌^◌, ◌-◌}
use Rattle.scan.proofs.units.filled.Given as goal

abbrev pub invariant-loop : goal.invariant-loop
invariant-loop l = l.n * 10 ^ (l.noughts - l.counter) ≡ l.amount * 10 ^ l.noughts
