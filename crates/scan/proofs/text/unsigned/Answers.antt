-- `unsigned` answers what the rest of the text is, whichever sign was read before: there is a law for each place at which the
-- sentence may break off or end.
use Rattle.std.proofs.Common.{sym, ◌∙◌, arith}
use Rattle.scan.specs.PartsLaws.{point_there, reads_whole, reads_no_fraction, reads_fraction}
use Rattle.scan.proofs.text.unsigned.Goals as goal

pub returns-then-not-point_at : goal.returns-then-not-point_at
returns-then-not-point_at c = λ minus _.
    c.behind.ensures minus
    ∙ sym (reads_whole _ _ minus _ _ c.digits-whole.ensures c.requires.small c.if-point-first.false (sym c.point_at.ensures ∙ c.if-not-point_at.true))

pub returns-then-end-tenths : goal.returns-then-end-tenths
returns-then-end-tenths c = λ minus _.
    sym (reads_no_fraction _ _ minus _ _ c.digits-whole.ensures c.requires.small c.if-point-first.false
    (sym c.point_at.ensures ∙ c.if-not-point_at.false)
    _ c.digits-fraction.ensures c.if-end-tenths.true)

pub returns : goal.returns
returns c = λ minus _.
    c.behind-2.ensures minus
    ∙ sym (reads_fraction _ _ minus _ _ c.digits-whole.ensures c.requires.small c.if-point-first.false
    (sym c.point_at.ensures ∙ c.if-not-point_at.false)
    _ c.digits-fraction.ensures c.if-end-tenths.false)

pub digits-fraction-requires : goal.digits-fraction-requires
digits-fraction-requires c =
    let there = point_there _ _ _ (sym c.point_at.ensures ∙ c.if-not-point_at.false) in
    omega (arith, there.0)
