-- The record's place, the number of its cells and the update's number before its other cells, where there is room.
use Rattle.std.proofs.Common.{ℕ, suc, ◌+◌, ◌*◌, ◌≤◌, ap, sym, ◌∙◌, ◌∷◌, inr, add-one, arith, length, length-set}
use Rattle.std.proofs.lemmas.List.Edits.{sets}
use Rattle.slots.specs.Places.{record_of}
use Rattle.slots.specs.SlotsLaws.{record_long, rows_behind, level_most}
use Rattle.stores.specs.StoresLaws.{store_laid}
use Rattle.stores.proofs.stores.keep.Goals as goal

pub put_record-requires : goal.put_record-requires
put_record-requires c =
    let a = c.args in
    let cells = record_of a.item a.form a.cells.now in
    let long_is = record_long a.form a.item a.level c.requires.1 a.cells.now c.told-cells in
    let few : suc (length cells) ≤ 35 = omega (arith, long_is, level_most a.item a.level) in
    let room : 37 * a.kept + 37 ≤ length a.stores.now = omega (arith, c.if-stores-at-lt-STORE.false, c.requires.0) in
    (rows_behind a.form a.item a.level c.requires.1, simp length-set (omega (arith, room, few)))

pub returns : goal.returns
returns c =
    let a = c.args in
    let cells = record_of a.item a.form a.cells.now in
    let long_is = record_long a.form a.item a.level c.requires.1 a.cells.now c.told-cells in
    inr (
      omega (arith, c.if-stores-at-lt-STORE.false, c.requires.0),
      add-one a.kept,
      c.put_record.ensures ∙ store_laid a.stores.now (37 * a.kept) a.slot _ a.number cells
          ∙ ap (λ (n : ℕ). sets a.stores.now (37 * a.kept) (a.slot ∷ n ∷ a.number ∷ cells)) (c.level_cells.ensures ∙ sym long_is),
    )
