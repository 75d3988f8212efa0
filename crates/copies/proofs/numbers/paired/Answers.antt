-- The loop's invariant: the first i runs are those of the numbers.
use Rattle.std.proofs.Common.{◌≡◌, ◌∙◌, arith, length, length-set}
use Rattle.copies.specs.Rows.{most}
use Rattle.copies.specs.FlatLaws.{paired_more}
use Rattle.copies.proofs.numbers.paired.Goals as goal

pub loop-i-preserved : goal.loop-i-preserved
loop-i-preserved c =
    let l = c.loop-i in
    let long : length c.args.numbers ≡ most = c.well_formed.0.1.0.1 in
    (length-set l.run-items l.i _ ∙ l.invariant.0, paired_more l.run-items c.args.numbers l.i (omega (arith, l.invariant.0)) (omega (arith, long)) l.invariant.1)
