-- The accumulator's way over words of any number of bits, by the bit steps of 01 "The checksum".
use Rattle.std.specs.Prelude.{ℕ}
use Rattle.accumulator.specs.Accumulator.{bits, bit_steps}
use Rattle.accumulator.specs.declared.words.Words.{Words}

-- a word of our own: the accumulator after a word of so many bits, the highest first
unfoldable pub word_step : ℕ → ℕ → ℕ → ℕ
word_step width acc word = bit_steps acc (bits width word)

-- a word of our own: the accumulator after four such words, from 0
abbrev pub after_four : ℕ → Words → ℕ
after_four width words =
    word_step width (word_step width (word_step width (word_step width 0 words.first) words.second) words.third) words.fourth
