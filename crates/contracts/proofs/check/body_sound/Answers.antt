-- The test of every key of the segment.
use Rattle.std.proofs.Common.{ap, ◌∙◌, rules}
use Rattle.files.proofs.Ranges.{all_told}
use Rattle.files.specs.Below.{all_below}
use Rattle.contracts.specs.SoundTests.{key_sound, body_sound}
use Rattle.contracts.proofs.check.body_sound.Goals as goal

pub returns : goal.returns
unfolding body_sound
returns c =
    let key = key_sound c.args.habit c.args.list.now c.args.segment in
    all_told key c.count_at.result c.all.ensures.ran (λ x b q k. search rules) ∙ ap (λ n. all_below n key) c.count_at.ensures
