-- What was read of each kind has a cell.
use Rattle.std.proofs.Common.{ap, lit<}
use Rattle.decimal.specs.Kinds.{price, quantity, turnover, difference}
use Rattle.scan.specs.Answers.{number_numbers}
use Rattle.layout.specs.ReadLaws.{read_small}
use Rattle.layout.proofs.read.read_row.Goals as goal

pub of_number-requires : goal.of_number-requires
of_number-requires c = read_small price (lit< tt) c.args.field.now c.read.result (ap number_numbers c.read.ensures)

pub of_number-requires-in-Quantity : goal.of_number-requires-in-Quantity
of_number-requires-in-Quantity c = read_small quantity (lit< tt) c.args.field.now c.read-in-Quantity.result (ap number_numbers c.read-in-Quantity.ensures)

pub of_number-requires-in-Turnover : goal.of_number-requires-in-Turnover
of_number-requires-in-Turnover c = read_small turnover (lit< tt) c.args.field.now c.read-in-Turnover.result (ap number_numbers c.read-in-Turnover.ensures)

pub of_number-requires-in-Difference : goal.of_number-requires-in-Difference
of_number-requires-in-Difference c = read_small difference (lit< tt) c.args.field.now c.read-in-Difference.result (ap number_numbers c.read-in-Difference.ensures)
