use Rattle.std.proofs.Common.{◌*◌, ◌≡◌, drop}
use Rattle.files.specs.Keys.{order_of}
use Rattle.files.proofs.key.order_of.Given as goal

abbrev pub invariant-loop-i : goal.invariant-loop-i
invariant-loop-i l = order_of l.a l.b ≡ order_of (drop (8 * l.i) l.a) (drop (8 * l.i) l.b)
