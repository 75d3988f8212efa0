-- The test of every segment's entry.
use Rattle.std.proofs.Common.{ap, ◌∙◌, rules}
use Rattle.files.proofs.Ranges.{all_told}
use Rattle.files.specs.Below.{all_below}
use Rattle.contracts.specs.SoundTests.{entry_sound}
use Rattle.contracts.proofs.check.entries_sound.Goals as goal

pub returns : goal.returns
returns c =
    let entry = entry_sound c.args.habit c.args.list.now in
    all_told entry c.segments.result c.all.ensures.ran (λ x b q k. search rules) ∙ ap (λ n. all_below n entry) c.segments.ensures
