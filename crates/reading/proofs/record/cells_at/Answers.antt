-- The cells of the record stand behind the key's, and every other is 0.
use Rattle.std.proofs.Common.{ℕ, ◌+◌, ◌-◌, ◌≤◌, ◌≡◌, sym, ap, ◌∙◌, Bool, List, ◌++◌, arith, take, drop, replicate, length, length-drop, length-take-le, take_all}
use Rattle.std.proofs.Math.Seq.{paste}
use Rattle.std.proofs.lemmas.Slice.{put_mid-paste}
use borrow.Rule.Slice.PartMut.{put_mid}
use Rattle.forms.specs.declared.rows.Level.{Level}
use Rattle.forms.specs.declared.forms.Item.{Item}
use Rattle.forms.specs.Forms.{key_rows_of, record_form}
use Rattle.forms.specs.FormsLaws.{fits}
use Rattle.forms.specs.Sizes.{most_rows}
use Rattle.slots.specs.Slots.{cells_in_front}
use Rattle.slots.specs.Places.{record_rows}
use Rattle.slots.specs.SlotsLaws.{rows_kept}
use Rattle.reading.specs.Record.{stamp_seen, cells_at}
use Rattle.reading.specs.RecordLaws.{cells_copied}
use Rattle.reading.proofs.record.cells_at.Goals as goal

-- no record has more rows than cells are left behind the key's
few : (item : Item) (level : Level) (key count : ℕ) → key ≡ key_rows_of item → count ≡ record_rows item level → key + count ≤ most_rows
few item level key count key_is count_is = omega (arith, key_is, count_is, rows_kept item level, (fits (record_form item level)).rows_fit)

-- the record's cells, copied
copied : (item : Item) (stamped seen : Bool) (records : List ℕ) (at : ℕ) (level : Level) (key count front : ℕ)
    → key ≡ key_rows_of item → count ≡ record_rows item level → front ≡ cells_in_front item
    → at + cells_in_front item + record_rows item level ≤ length records → stamped ≡ seen
    → stamp_seen seen (put_mid key (key + count - key) (replicate most_rows 0) (take (at + front + count - (at + front)) (drop (at + front) records))) ≡ cells_at item stamped records at level
copied item stamped seen records at level key count front key_is count_is front_is room is =
    let behind : List ℕ = drop (at + front) records in
    let part : List ℕ = take count behind in
    let long : length part ≡ count = length-take-le count behind (simp length-drop (omega (arith, count_is, front_is))) in
    ap (λ (s : Bool). stamp_seen s (put_mid key (key + count - key) (replicate most_rows 0) (take (at + front + count - (at + front)) behind))) (sym is)
    ∙ ap (stamp_seen stamped)
    (put_mid-paste key _ (replicate most_rows 0) _ part count (ap (λ (n : ℕ). take n behind) (omega arith)) (omega arith) (sym long)
    ∙ ap (λ (l : List ℕ). take key (replicate most_rows 0) ++ l ++ drop (key + count) (replicate most_rows 0)) (take_all count part (omega (arith, long)))
    ∙ (λ i. paste (replicate most_rows 0) (key_is i) (drop (at + front_is i) records) (count_is i)))
    ∙ cells_copied item stamped records at level room

pub slice_bounds-cells-end : goal.slice_bounds-cells-end
slice_bounds-cells-end c = omega (arith, few c.args.item c.args.level _ _ c.key_rows_of-key.ensures c.record_rows-count.ensures)

pub returns-then-stamped : goal.returns-then-stamped
returns-then-stamped c =
    let a = c.args in
    rw c.copy_from_slice.ensures.after
    (copied a.item a.stamped _ a.records.now a.at a.level _ _ _ c.key_rows_of-key.ensures c.record_rows-count.ensures c.cells_in_front.ensures c.requires c.if-stamped.true)

pub returns : goal.returns
returns c =
    let a = c.args in
    rw c.copy_from_slice.ensures.after
    (copied a.item a.stamped _ a.records.now a.at a.level _ _ _ c.key_rows_of-key.ensures c.record_rows-count.ensures c.cells_in_front.ensures c.requires c.if-stamped.false)
