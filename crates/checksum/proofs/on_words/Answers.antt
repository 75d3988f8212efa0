-- The loop's invariant: the four words stand for the sum of the whole words passed.
use Rattle.std.proofs.Common.{ℕ, ◌<◌, ◌+◌, ◌-◌, ◌*◌, ◌≡◌, ap, sym, ◌∙◌, arith, length, get_or, take, drop, take_all}
use Rattle.checksum.specs.Checksum.{sum_of}
use Rattle.checksum.specs.ChecksumLaws.{sum_eight}
use Rattle.wire.specs.Number.{number_at}
use Rattle.checksum.proofs.on_words.Goals as goal

pub loop-word-preserved : goal.loop-word-preserved
loop-word-preserved c =
    let text = c.args.text.now in
    let i : ℕ = 8 * c.loop-word.word in
    let byte : (j : ℕ) → get_or text j 0 < 256 = λ j. (c.type_inv.text j).fits in
    let eight : i + 8 - i ≡ 8 = omega arith in
    let on : 8 * (c.loop-word.word + 1) ≡ i + 8 = omega arith in
    let word : c.u64_at.result ≡ number_at 8 (take 8 (drop i text)) 0 =
    c.u64_at.ensures ∙ ap (λ (n : ℕ). number_at 8 (take n (drop i text)) 0) eight in
    rw (on, c.next-words.ensures, word, c.loop-word.invariant) (sym (sum_eight text byte i (omega arith)))

pub returns : goal.returns
returns c =
    let text = c.args.text.now in
    let whole : 8 * c.loop-word.word ≡ length text = omega arith in
    c.settled.ensures ∙ c.loop-word.invariant
    ∙ ap (λ (n : ℕ). sum_of (take n text)) whole
    ∙ ap sum_of (take_all (length text) text (omega arith))
