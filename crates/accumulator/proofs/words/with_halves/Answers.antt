-- A word of twice as many bits is its halves in turn.
use Rattle.std.proofs.Common.{ℕ, ◌*◌, ap, ◌∙◌}
use Rattle.accumulator.specs.Words.{word_step}
use Rattle.accumulator.specs.WordsLaws.{halves}
use Rattle.accumulator.proofs.words.with_halves.Goals as goal

pub returns : goal.returns
returns c =
    let start = c in
    let q = start.args.quarter in
    c.with_word-2.ensures ∙ ap (λ (acc : ℕ). word_step (4 * q) acc start.args.word) c.with_word.ensures
    ∙ halves q _ start.args.word
