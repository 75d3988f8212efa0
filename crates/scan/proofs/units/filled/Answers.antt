-- `filled` puts one nought behind the amount after another: with those that are left to put it is what was asked for.
use Rattle.std.proofs.Common.{◌≡◌, suc, ◌+◌, ◌-◌, ap, sym, ◌∙◌, arith}
use Rattle.scan.specs.CapLaws.{one_nought, noughts_over}
use Rattle.scan.specs.Parts.{cap}
use Rattle.scan.proofs.units.filled.Goals as goal

pub returns-then-is_full : goal.returns-then-is_full
returns-then-is_full c =
    let down : c.args.noughts - c.loop.counter ≡ suc (c.args.noughts - c.loop.counter - 1) = omega arith in
    sym (noughts_over c.loop.n _ (omega (arith, c.is_full.ensures.full c.if-is_full.true))) ∙ ap cap (rw down at c.loop.invariant)

pub loop-preserved : goal.loop-preserved
loop-preserved c =
    let down : c.args.noughts - c.loop.counter ≡ suc (c.args.noughts - (c.loop.counter + 1)) = omega arith in
    rw (one_nought c.loop.n (c.args.noughts - (c.loop.counter + 1)), ← down) c.loop.invariant
