-- The runs lent, as numbers, are what the listing over numbers looks at.
use Rattle.std.proofs.Common.{◌≡◌, arith, length}
use Rattle.copies.specs.Rows.{most_runs}
use Rattle.runs.specs.ArrayLaws.{array_seen}
use Rattle.runs.proofs.front.list_gaps.Goals as goal

pub returns : goal.returns
returns c =
    let t = c.list_numbers-answer in
    let count = c.min-count in
    let numbers = c.flat-numbers in
    let a = c.args in
    let long : length a.runs ≡ most_runs = omega arith in
    array_seen _ _ a.runs a.lent count.result numbers.result long count.ensures numbers.ensures t.result _ c.listed.ensures _ t.ensures
