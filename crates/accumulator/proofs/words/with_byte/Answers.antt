-- A byte is a word of eight bits.
use Rattle.std.proofs.Common.{◌∙◌}
use Rattle.accumulator.specs.WordsLaws.{lowest_byte_lem}
use Rattle.accumulator.proofs.words.with_byte.Goals as goal

pub returns : goal.returns
returns c = c.byte_step.ensures ∙ lowest_byte_lem c.args.acc c.args.word
