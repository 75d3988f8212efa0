-- `point_at` tests what `point_at` does: a point that stands is tested last.
use Rattle.std.proofs.Common.{arith, lt-ltb, le-ltb, ne_eqb}
use Rattle.scan.specs.Parts.{point_at}
use Rattle.scan.proofs.text.point_at.Goals as goal

pub returns-then-places-ne0 : goal.returns-then-places-ne0
unfolding point_at
returns-then-places-ne0 c = simp (lt-ltb _ _ c.if-places-ne0.true.0, ne_eqb _ _ c.if-places-ne0.true.1)

pub returns-else-places-ne0 : goal.returns-else-places-ne0
unfolding point_at
returns-else-places-ne0 c = grind (arith, lt-ltb, le-ltb)
