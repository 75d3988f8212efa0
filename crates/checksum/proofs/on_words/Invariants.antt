use Rattle.std.proofs.Common.{◌*◌, ◌≡◌, take}
use Rattle.accumulator.specs.Words.{after_four}
use Rattle.checksum.specs.Checksum.{sum_of}
use Rattle.checksum.proofs.on_words.Given as goal

abbrev pub invariant-loop-word : goal.invariant-loop-word
invariant-loop-word l = after_four 64 l.words ≡ sum_of (take (8 * l.word) l.text)
