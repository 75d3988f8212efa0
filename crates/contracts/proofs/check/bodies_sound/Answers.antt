-- The test of every segment's body.
use Rattle.std.proofs.Common.{ap, ◌∙◌, rules}
use Rattle.files.proofs.Ranges.{all_told}
use Rattle.files.specs.Below.{all_below}
use Rattle.contracts.specs.SoundTests.{body_sound}
use Rattle.contracts.proofs.check.bodies_sound.Goals as goal

pub returns : goal.returns
returns c =
    let body = body_sound c.args.habit c.args.list.now in
    all_told body c.segments.result c.all.ensures.ran (λ x b q k. search rules) ∙ ap (λ n. all_below n body) c.segments.ensures
