-- Both halves of every pair of the segment.
use Rattle.std.proofs.Common.{ap, ◌∙◌, rules}
use Rattle.files.proofs.Ranges.{all_told}
use Rattle.files.specs.Below.{all_below}
use Rattle.pairs.specs.SpreadTests.{pair_listed, pairs_listed}
use Rattle.pairs.proofs.spreads.pairs_listed.Goals as goal

pub returns : goal.returns
unfolding pairs_listed
returns c =
    let test = pair_listed c.args.list.now c.args.spreads.now c.args.segment in
    all_told test c.count_at.result c.all.ensures.ran (λ x b q k. search rules) ∙ ap (λ n. all_below n test) c.count_at.ensures
