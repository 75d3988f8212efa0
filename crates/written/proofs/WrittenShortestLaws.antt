-- Every number of a written message stands in its field as the shortest text.
use Rattle.std.specs.Prelude.{ℕ, ◌-◌, ◌≤◌, ◌<◌, ◌≡◌, refl, Bool, true, false, List, eqb, length, take, Some, Ok}
use Rattle.std.proofs.Common.{ap, sym, ◌∙◌, ⊎_elim, arith, lit<}
use Rattle.laws.specs.Order.{order}
use Rattle.decimal.specs.declared.Kind.{Kind}
use Rattle.decimal.specs.Kinds.{price, quantity, turnover, difference}
use Rattle.decimal.specs.Denotes.{below_zero}
use Rattle.print.specs.Write.{written_as, filled, refused, signed_text, blank_text, spaced}
use Rattle.print.proofs.WriteTexts.{fills_right, shortest}
use Rattle.print.specs.WriteLaws.{none_spaces, within, fitting, narrow}
use Rattle.forms.specs.declared.rows.Level.{Level}
use Rattle.forms.specs.declared.forms.Item.{Item}
use Rattle.forms.specs.declared.forms.Form.{Form}
use Rattle.forms.specs.declared.rows.Row.{Row}
use Rattle.forms.specs.declared.rows.Row.TheVariants.{Key, MarketType, Status, Price, Quantity, Turnover, Difference}
use Rattle.decimal.specs.declared.Held.{Held}
use Rattle.layout.specs.Cells.{minus, sided}
use Rattle.layout.specs.Plain.{no_room, value_of, held_of as held_by}
use Rattle.layout.specs.CellsLaws.{MayHold, sided_so}
use Rattle.layout.specs.PlainLaws.{held_back}
use Rattle.layout.specs.Says.{row_at, field_at}
use Rattle.forms.specs.Forms.{rows_of}
use Rattle.compose.specs.RowTextLaws.{filled_is as text_filled}
use Rattle.compose.specs.Write.{text, of_written, row_text, held_text, write_refusal}
use Rattle.forms.specs.Names.{Name}
use Rattle.head.specs.Fields.{data_of}
use Rattle.writer.specs.declared.writing.Code.{Code}
use Rattle.writer.specs.Chosen.{form_written}
use Rattle.writer.specs.WriterPromises.{WroteValues}
use Rattle.written.specs.WrittenFieldsLaws.{field_written}
use Rattle.written.specs.WrittenRefusals.{Value, letter, nothing, amount, value_at, part_at}
use Rattle.written.proofs.WrittenRowsLaws.{held_of, plain_in, Given, Refuses, held_exact, far, unsigned}
use Rattle.written.proofs.WrittenUpdateLaws.{rows_good, data_there}
use Rattle.written.specs.WrittenShortest.{Shortest, FieldOf, NumberField}

-- ---- the field of a number

apart : {characters : List ℕ} → refused ≡ filled characters → ⊥
apart e = let z : ◌≡◌ {A = ℕ} 0 1 = cc in omega arith

-- what fills a field is the shortest text behind spaces
module _ (kind : Kind) (width : ℕ) (minus : Bool) (n : ℕ) (field : List ℕ) (e : written_as kind width minus n ≡ filled field) where
  abbrev own : List ℕ
  own = signed_text (below_zero minus n) kind.places n

  filled_is : field ≡ spaced width own
  filled_is =
      let right = fills_right kind width minus n field e in
      let laid = within kind width minus n right.side right.small in
      ⊎_elim (λ (room : length own ≤ width).
      let same : filled field ≡ filled (spaced width own) = sym e ∙ laid ∙ fitting width own room in cc)
      (λ (none : width < length own). absurd (apart (sym (laid ∙ narrow width own none) ∙ e)))
      (order (length own) width)

  pub filled_shortest : Shortest kind minus n field
  filled_shortest =
      record {
        spaces = width - length own;
        characters = own;
        laid_out = filled_is;
        means = (fills_right kind width minus n field e).means;
        no_shorter = λ other d. shortest d;
      }

-- ---- the field of a number's row

module _ (kind : Kind) (width : ℕ) (field : List ℕ) where
  -- what has a text is not refused
  unrefused : (held : Held) → held_text kind width held ≡ text field → Refuses kind width held → ⊥
  unrefused held e r = omega (arith, ap write_refusal e, (held_exact kind width held).1 r)

  -- a number is written on its side of zero
  sided_text : (given : Bool) (n : ℕ) → held_text kind width (sided given n) ≡ of_written (written_as kind width given n)
  sided_text false n = refl
  sided_text true n = go (eqb n 0) refl
    where
      go : (zero : Bool) → eqb n 0 ≡ zero → held_text kind width (sided true n) ≡ of_written (written_as kind width true n)
      go true z = rw z
      go false z = rw z (rw z)

  value_field : (value : Value) → held_text kind width (held_of value) ≡ text field → FieldOf kind value field
  value_field (letter byte) e = tt
  value_field nothing e =
      let same : field ≡ blank_text width = cc in
      rw same (none_spaces width)
  value_field (amount given n) e = filled_shortest kind width given n field (text_filled (written_as kind width given n) (sym (sided_text given n) ∙ e))

  module _ (small : kind.most < minus - 2) where
    -- a number that has a text is one that its row may hold
    may_hold : (signed : Bool) (given : Bool) (n : ℕ) → (Refuses kind width (held_by signed (value_of signed (sided given n))) → ⊥) → MayHold signed (sided given n)
    may_hold true given n fine = sided_so given n
    may_hold false false n fine = tt
    may_hold false true n fine = go (eqb n 0) refl
      where
        go : (zero : Bool) → eqb n 0 ≡ zero → MayHold false (sided true n)
        go true z = rw z tt
        go false z = absurd (fine (rw z (unsigned kind width small n)))

    -- and the one that its value stands for
    held_there : (signed : Bool) (value : Value) → held_text kind width (held_by signed (value_of signed (held_of value))) ≡ text field
        → held_text kind width (held_of value) ≡ text field
    held_there signed (letter byte) e = e
    held_there signed nothing e = e
    held_there signed (amount given n) e =
        let fine = unrefused (held_by signed (value_of signed (sided given n))) e in
        let has : value_of signed (sided given n) ≡ no_room → ⊥ = λ no. fine (rw no (far kind width small signed)) in
        rw (held_back signed (sided given n) (may_hold signed given n fine) has) at e

    number_field : (signed : Bool) (value : Value) → held_text kind width (held_by signed (value_of signed (held_of value))) ≡ text field → FieldOf kind value field
    number_field signed value e = value_field value (held_there signed value e)

row_number : (row : Row) (part : List ℕ) (value : Value) (field : List ℕ) → row_text row part (plain_in row value) ≡ text field → NumberField row value field
unfolding row_text
row_number (Key width) part value field e = tt
row_number (MarketType markets) part value field e = tt
row_number Status part value field e = tt
row_number (Price width) part value field e = number_field price width field (lit< tt) false value e
row_number (Quantity width) part value field e = number_field quantity width field (lit< tt) false value e
row_number (Turnover width) part value field e = number_field turnover width field (lit< tt) false value e
row_number (Difference width) part value field e = number_field difference width field (lit< tt) true value e

-- ---- a written message

module _ (item : Item) (code : Code) (level : Level) (number : ℕ) (key : List ℕ) (values : Form → List ℕ) (out out' : List ℕ) (n : ℕ)
    (form : Form) (chose : form_written item code level ≡ Some form) (wrote : WroteValues item code level number key values out (Ok n) out')
    (given : Name → Value) (from : Given item form given (values form))
  where
    -- row k's field in the message that was written
    abbrev pub field_in : ℕ → List ℕ
    field_in k = field_at (rows_of form) (data_of (take n out')) k

    pub written_shortest : (k : ℕ) → k < length (rows_of form) → NumberField (row_at (rows_of form) k) (value_at form given k) (field_in k)
    written_shortest k inside =
        let good = rows_good item code level number key values out out' n form chose wrote in
        let holds = field_written 0 (rows_of form) key (values form) good k inside in
        rw (data_there item code level number key values out out' n form chose wrote)
        (row_number (row_at (rows_of form) k) (part_at form key k) (value_at form given k) _ (rw (from.plain_at k inside) at holds))
