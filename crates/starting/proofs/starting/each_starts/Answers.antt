-- The test of every segment's start number.
use Rattle.std.proofs.Common.{rules, ltb}
use Rattle.files.proofs.Ranges.{all_told}
use Rattle.starting.specs.Start.{start_of, each_starts}
use Rattle.starting.proofs.starting.each_starts.Goals as goal

pub returns : goal.returns
unfolding each_starts
returns c = all_told (λ i. ltb 0 (start_of c.args.starts.now i)) c.args.segments c.all.ensures.ran (λ x b q k. search rules)
