-- The rows behind the key.
use Rattle.std.proofs.Common.{arith, ap, ◌∙◌}
use Rattle.std.proofs.lemmas.List.Edits.{sets}
use Rattle.stores.proofs.Parts.{few_rows, part_is}
use Rattle.stores.proofs.stores.put_pair.Goals as goal

pub slice_bounds-put-end : goal.slice_bounds-put-end
slice_bounds-put-end c = omega (arith, few_rows c.args.form c.args.cells.now _ c.count_of-end.ensures c.told-cells, c.told-cells)

pub put-requires : goal.put-requires
put-requires c = rw (part_is c.args.form c.args.cells.now 10 _ c.count_of-end.ensures c.told-cells) c.requires.1

pub returns : goal.returns
returns c = c.put.ensures ∙ ap (sets c.args.stores.now c.args.at) (part_is c.args.form c.args.cells.now 10 _ c.count_of-end.ensures c.told-cells)
