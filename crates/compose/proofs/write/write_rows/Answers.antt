-- The loop's invariant: the writing has gone on for `i` rows, `at` bytes and `used` bytes of the key.
use Rattle.std.proofs.Common.{rules, ℕ, ◌≤◌, ◌<◌, ◌+◌, ◌-◌, min, ◌≡◌, refl, ◌∙◌, List, ◌++◌, append_assoc, arith, length, get_or, take, drop, length-drop, length-append, length-take-le, take_at, take_all, Ok, Err}
use borrow.Rule.Slice.PartMut.{mid_of, put_mid, mid_len, same_len_mid, take_put}
use Rattle.print.specs.Write.{Put}
use Rattle.decimal.specs.declared.FieldFault.{FieldFault}
use Rattle.forms.specs.declared.rows.Row.{Row}
use Rattle.forms.specs.declared.rows.Row.TheVariants.{Key}
use Rattle.forms.specs.Rows.{width_of}
use Rattle.forms.specs.Sizes.{most_data}
use Rattle.layout.specs.Cells.{key_used}
use Rattle.layout.specs.Read.{bad_row}
use Rattle.compose.specs.Write.{PutsRow, row_text, write_rows, WritesRows}
use Rattle.compose.specs.PutLaws.{fits_text, refused_then}
use Rattle.compose.specs.WriteLaws.{Writing, room, goes_on, stops}
use Rattle.compose.proofs.write.write_rows.Goals.{After-put_row}
use Rattle.compose.proofs.write.write_rows.Goals as goal

module _ (c : After-put_row) where
  abbrev i : ℕ
  i = c.loop-i.i-counter

  abbrev at : ℕ
  at = c.loop-i.at

  abbrev used : ℕ
  used = c.loop-i.used

  abbrev bytes : List ℕ
  bytes = c.loop-i.bytes

  abbrev rows : List Row
  rows = c.args.rows.now

  abbrev key : List ℕ
  key = c.args.key.now

  abbrev values : List ℕ
  values = c.args.values.now

  abbrev writing : Writing rows key values bytes at used i
  writing = c.loop-i.invariant

  more : i < length rows
  more = c.loop-i-test.true

  abbrev width : ℕ
  width = c.width_of.result

  abbrev part : List ℕ
  part = c.put_row.new.field

  abbrev bytes' : List ℕ
  bytes' = put_mid at (at + width - at) bytes part

  is_width : width ≡ width_of (get_or rows i (Key 0))
  is_width = c.width_of.ensures

  fits : at + width ≤ length bytes
  fits = omega (arith, is_width, room rows key values bytes at used i more writing, writing.1)

  part_length : length part ≡ width
  part_length =
      let same : at + width - at ≡ width = omega arith in
      c.put_row.auto.field ∙ mid_len at (at + width) bytes fits ∙ same

  whole : length bytes' ≡ most_data
  whole = same_len_mid at (at + width - at) bytes part c.put_row.auto.field ∙ writing.1

  before-kept : take at bytes' ≡ take at bytes
  before-kept = take_put at (at + width - at) bytes part (omega (arith, fits))

  in_front : take (at + width) bytes' ≡ take at bytes ++ part
  in_front =
      let long : length (take at bytes ++ part) ≡ at + width =
      rw (length-append (take at bytes) part, part_length, length-take-le at bytes (omega (arith, fits))) in
      rw (← append_assoc (take at bytes) part) (take_at (take at bytes ++ part) _ (at + width) long)

  row_put : PutsRow (row_text (get_or rows i (Key 0)) (drop used key) (get_or values i 0)) (mid_of at (at + width - at) bytes) c.put_row.result part
  row_put =
      let left : take (length key - used) (drop used key) ≡ drop used key =
      take_all (length key - used) (drop used key) (omega (arith, length-drop used key)) in
      rw left at c.put_row.ensures

  ended : (fault : FieldFault) → c.put_row.result ≡ Err fault → WritesRows (write_rows 0 rows key values) (Err (bad_row fault i)) bytes'
  ended fault e =
      stops rows key values bytes at used i more writing bytes' (Err (bad_row fault i)) refl (λ rest. refused_then _ fault row_put e i rest) before-kept

-- a row fits or is refused
by_put : {P : Type 0} (put : Put) → (put ≡ Ok tt → P) → ((fault : FieldFault) → put ≡ Err fault → P) → P
by_put (Ok done) fit refused = fit refl
by_put (Err fault) fit refused = refused fault refl

pub returns-in_err-map_err : goal.returns-in_err-map_err
returns-in_err-map_err c =
    let d = (goal.at.returns-in_err-map_err c).After-put_row in
    by_put c.put_row.result (λ e. let no : ⊥ = search rules in absurd no)
    (λ fault e. let same : c.from_residual.result ≡ Err (bad_row fault (i d)) = search rules in rw same (ended d fault e))

pub loop-i-preserved : goal.loop-i-preserved
loop-i-preserved c =
    let d = (goal.at.loop-i-preserved c).After-put_row in
    let good : c.put_row.result ≡ Ok tt = search rules in
    let is_taken_lem : c.min-used.result ≡ min (key_used (get_or (rows d) (i d) (Key 0))) (length (key d) - used d) =
    rw (← c.key_used.ensures) c.min-used.ensures in
    goes_on (rows d) (key d) (values d) (bytes d) (at d) (used d) (i d) (more d) (writing d) (bytes' d) (width d) c.min-used.result (is_width d) is_taken_lem (fits_text _ (row_put d) good) (whole d) (in_front d)
