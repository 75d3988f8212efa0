-- `sequence::write_off` meets its contract: with no run it answers 17.
use Rattle.std.proofs.Common.{◌≡◌, arith, rules, length}
use Rattle.sequence.proofs.Calls.{no_gap}
use Rattle.sequence.proofs.write_off.Goals as goal

pub returns-then-number-eq0 : goal.returns-then-number-eq0
returns-then-number-eq0 c =
    let wide : length c.args.row.now ≡ 132 = search rules in
    no_gap c.args.row.now wide (omega arith)
