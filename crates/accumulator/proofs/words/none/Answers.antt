-- No word says anything.
use Rattle.accumulator.specs.WordsLaws.{all_zeros}
use Rattle.accumulator.proofs.words.none.Goals as goal

pub returns : goal.returns
returns c width = all_zeros width
