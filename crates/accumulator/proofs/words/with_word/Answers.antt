-- The word that leaves, taken over by the four.
use Rattle.accumulator.specs.WordsLaws.{word_on}
use Rattle.accumulator.proofs.words.with_word.Goals as goal

pub returns : goal.returns
returns c =
    let start = c in
    let words = start.args.words in
    word_on start.args.quarter words.first start.requires words.second words.third words.fourth start.args.word
