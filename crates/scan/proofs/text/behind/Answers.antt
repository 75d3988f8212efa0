-- `behind` passes the spaces, and what stands behind them is malformed.
use Rattle.std.proofs.Common.{sym, ap, ◌∙◌}
use Rattle.scan.specs.Read.{with_sign}
use Rattle.scan.specs.PartsLaws.{behind_ended, behind_malformed}
use Rattle.scan.proofs.text.behind.Goals as goal

pub returns-then-end-text : goal.returns-then-end-text
returns-then-end-text c = λ minus. sym (behind_malformed _ _ minus _ _ _ _ c.spaces-end.ensures c.if-end-text.true)

pub returns : goal.returns
returns c = λ minus.
    ap (with_sign minus) c.ranged.ensures
    ∙ sym (behind_ended _ _ minus _ _ _ _ c.spaces-end.ensures c.if-end-text.false)
