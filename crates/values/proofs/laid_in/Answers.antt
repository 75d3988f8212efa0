-- The values stand in the cells behind the key's, and every other cell is 0.
use Rattle.std.proofs.Common.{arith, rules, replicate}
use Rattle.forms.specs.Sizes.{most_rows}
use Rattle.values.specs.ValuesLaws.{rows_room, values_room, copied_in}
use Rattle.values.proofs.laid_in.Goals as goal

pub overflow_add-at : goal.overflow_add-at
overflow_add-at c = omega (arith, rows_room c.args.item c.args.level)

pub slice_bounds-laid-end : goal.slice_bounds-laid-end
slice_bounds-laid-end c = omega (arith, rows_room c.args.item c.args.level)

pub returns : goal.returns
returns c =
    let a = c.args in (
      search rules,
      rw (c.copy_from_slice.ensures.after, c.key_rows_of-at.ensures, c.cells_in_front-from.ensures, c.record_rows-count.ensures)
          (copied_in (replicate most_rows 0) a.values.now _ _ _ (omega (arith, rows_room a.item a.level)) (omega (arith, values_room a.item a.level))),
    )
