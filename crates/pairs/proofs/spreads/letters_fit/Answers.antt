-- Every segment's letter.
use Rattle.std.proofs.Common.{ap, ◌∙◌, rules}
use Rattle.files.proofs.Ranges.{all_told}
use Rattle.files.specs.Below.{all_below}
use Rattle.pairs.specs.SpreadTests.{same_letter}
use Rattle.pairs.proofs.spreads.letters_fit.Goals as goal

pub returns : goal.returns
returns c =
    let test = same_letter c.args.list.now c.args.spreads.now in
    all_told test c.segments.result c.all.ensures.ran (λ x b q k. search rules) ∙ ap (λ n. all_below n test) c.segments.ensures
