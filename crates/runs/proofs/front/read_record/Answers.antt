-- The runs lent, as numbers, are what reading over numbers looks at; the quote goes on as it is.
use Rattle.std.proofs.Common.{◌≡◌, arith, length}
use Rattle.copies.specs.Rows.{most_runs}
use Rattle.runs.specs.ArrayLaws.{array_seen}
use Rattle.runs.proofs.front.read_record.Goals as goal

pub returns : goal.returns
returns c =
    let t = c.read_numbers-reading in
    let count = c.min-count in
    let numbers = c.flat-numbers in
    let a = c.args in
    let long : length a.runs ≡ most_runs = omega arith in
    array_seen _ _ a.runs a.lent count.result numbers.result long count.ensures numbers.ensures t.result.answer _ c.recorded.ensures _ t.ensures
