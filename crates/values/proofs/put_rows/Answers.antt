-- As many cells as the record has rows, behind the key's.
use Rattle.std.proofs.Common.{arith}
use Rattle.values.specs.ValuesLaws.{rows_room, values_room, copied_in}
use Rattle.values.proofs.put_rows.Goals as goal

pub overflow_add-at : goal.overflow_add-at
overflow_add-at c = omega (arith, values_room c.args.item c.args.level)

pub slice_bounds-copy_from_slice-end : goal.slice_bounds-copy_from_slice-end
slice_bounds-copy_from_slice-end c = omega (arith, values_room c.args.item c.args.level)

pub slice_bounds-copy_from_slice-end-2 : goal.slice_bounds-copy_from_slice-end-2
slice_bounds-copy_from_slice-end-2 c = omega (arith, rows_room c.args.item c.args.level)

pub returns : goal.returns
returns c =
    let a = c.args in
    rw (c.copy_from_slice.ensures.after, c.key_rows_of-behind.ensures, c.cells_in_front-at.ensures, c.record_rows-rows.ensures)
    (copied_in a.values.now a.laid.now _ _ _ (omega (arith, values_room a.item a.level)) (omega (arith, rows_room a.item a.level)))
