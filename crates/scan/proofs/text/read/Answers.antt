-- `read` answers what `read_as` does: none, what stands behind a minus, or what stands where there is none.
use Rattle.std.proofs.Common.{◌≡◌, ◌&&◌, ◌==◌, slice_index, true, false, sym, ◌∙◌, arith}
use Rattle.decimal.specs.Denotes.{minus_char}
use Rattle.scan.specs.Read.{with_sign}
use Rattle.scan.specs.PartsLaws.{no_sign, reads_first, reads_none, reads_minus, first_wants, minus_wants}
use Rattle.scan.proofs.text.read.Goals as goal

pub returns-then-text-first : goal.returns-then-text-first
returns-then-text-first c = sym (reads_none _ _ _ c.spaces-first.ensures c.if-text-first.true)

pub returns-then-text-first-eq-MINUS : goal.returns-then-text-first-eq-MINUS
returns-then-text-first-eq-MINUS c =
    let mapped : c.map.result ≡ with_sign true c.unsigned.result = grind arith in
    let minus : c.args.kind.signed && (slice_index c.args.text.now c.spaces-first.result == minus_char) ≡ true = grind arith in
    mapped
    ∙ c.unsigned.ensures true (minus_wants _ _ _)
    ∙ sym (reads_minus _ _ _ c.spaces-first.ensures c.if-text-first.false minus)

pub returns : goal.returns
returns c =
    let none : c.args.kind.signed && (slice_index c.args.text.now c.spaces-first.result == minus_char) ≡ false = grind arith in
    sym (no_sign c.unsigned-2.result)
    ∙ c.unsigned-2.ensures false (first_wants _ _ _ c.spaces-first.ensures c.if-text-first.false none)
    ∙ sym (reads_first _ _ _ c.spaces-first.ensures)
