-- The whole words of a text, then what is behind them.
use Rattle.std.proofs.Common.{ℕ, ◌-◌, ◌*◌, ◌/◌, ◌≡◌, ap, ap₂, ◌∙◌, arith, length, take, drop, length-drop, take_all}
use Rattle.checksum.specs.Checksum.{sum_from, sum_of}
use Rattle.checksum.specs.ChecksumLaws.{sum_cut}
use Rattle.checksum.proofs.sum.Goals as goal

pub returns : goal.returns
returns c =
    let text = c.args.text.now in
    let whole = length text / 8 * 8 in
    let front : whole - 0 ≡ whole = omega arith in
    let behind : take (length text - whole) (drop whole text) ≡ drop whole text = take_all (length text - whole) (drop whole text) (rw (length-drop whole text) (omega arith)) in
    c.on_bytes.ensures
    ∙ ap₂ sum_from (c.on_words.ensures ∙ ap (λ (n : ℕ). sum_of (take n text)) front) behind
    ∙ sum_cut text whole
