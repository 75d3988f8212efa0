-- The runs lent, as numbers, are what the write-off over numbers is lent and leaves.
use Rattle.std.proofs.Common.{◌≡◌, arith, length}
use Rattle.copies.specs.Rows.{most_runs}
use Rattle.runs.specs.ArrayLaws.{array_left}
use Rattle.runs.proofs.front.write_off.Goals as goal

pub returns : goal.returns
returns c =
    let t = c.write_off_numbers-answer in
    let count = c.min-count in
    let numbers = c.flat-numbers in
    let a = c.args in
    let long : length a.runs ≡ most_runs = omega arith in
    let long' : length c.paired.result ≡ most_runs = omega arith in
    array_left _ _ a.runs a.lent count.result numbers.result long count.ensures numbers.ensures t.result _ c.written_off.ensures _
    c.paired.result t.new.numbers long' c.paired.ensures t.ensures
