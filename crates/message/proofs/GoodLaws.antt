-- A message has no fault exactly when it is good.
use Rattle.std.specs.Prelude.{ℕ, zero, suc, ◌≡◌, refl, true, ◌↔◌, List, [], ◌∷◌, take, drop, Ok, Err, Result}
use Rattle.layout.specs.declared.read.BadRow.TheVariants as bad_row
use Rattle.decimal.specs.declared.FieldFault.TheVariants.{Malformed, OutOfRange}
use Rattle.layout.specs.Answers.{RowRead, Verdict}
use Rattle.std.proofs.Common.{ap, sym, subst, ◌∙◌, arith, drop-drop}
use Rattle.std.proofs.lemmas.Bool.{false≢true}
use Rattle.std.proofs.Math.Option.{Option, none, some}
use Rattle.laws.specs.Rules.{Hold}
use Rattle.laws.specs.RulesLaws.{hold_append}
use Rattle.forms.specs.declared.rows.Row.{Row}
use Rattle.layout.specs.Says.{row_at, field_at, RowSays}
use Rattle.layout.specs.Read.{read_row}
use Rattle.layout.proofs.SaysLaws.{row_exactly}
use Rattle.forms.specs.Rows.{width_of, offset_of}
use Rattle.forms.specs.declared.forms.Item.{Item}
use Rattle.forms.specs.declared.forms.Named.{Named}
use Rattle.forms.specs.declared.forms.Named.TheVariants as is
use Rattle.forms.specs.declared.forms.Subject.{Subject}
use Rattle.forms.specs.declared.forms.Subject.TheVariants.{Nothing, Of}
use Rattle.lookup.specs.Lookup.{segment_of}
use Rattle.pairs.specs.Lists.{Lists}
use Rattle.forms.specs.Forms.{subject_of}
use Rattle.message.specs.Good.{GoodMessage, GoodRows, PlaceFor, HasContract}
use Rattle.head.specs.Fields.{length_of, number_of, data_of, form_in}
use Rattle.head.specs.Head.{head_rules}
use Rattle.head.specs.Rules.{head_of}
use Rattle.head.specs.HeadLaws.{framed_exact, coded_exact, trailed_exact, length_exact, summed_exact, number_exact}
use Rattle.message.specs.declared.body.What.{What}
use Rattle.head.specs.declared.head.Fault.{Fault}
use Rattle.head.specs.Faults.{Head}
use Rattle.message.specs.Message.{message_place, acts_as, rows_in, of_named}
use Rattle.message.specs.Reads.{rows_read, of_verdict, contents_by, contents_of, of_head, message_of}
use Rattle.message.specs.Order.{row_rules, subject_rules, key_rules, body_rules, message_rules}
use Rattle.head.specs.Tests.{is_some, is_formed, is_in_range}
use Rattle.message.specs.Numbers.{verdict_of}
use Rattle.message.proofs.OrderLaws.{message_first}
use Rattle.head.specs.RulesLaws.{good_hold, hold_good}

-- a row that is well formed and in range has a cell
cell_exact : (answer : RowRead) → (is_formed answer ≡ true) × (is_in_range answer ≡ true) ↔ (cell : ℕ) × (answer ≡ Ok cell)
cell_exact (Ok cell) = ((λ h. (cell, refl)), (λ h. (refl, refl)))
cell_exact (Err Malformed) = ((λ h. absurd (false≢true h.0)), (λ h. (cc, refl)))
cell_exact (Err OutOfRange) = ((λ h. absurd (false≢true h.1)), (λ h. (refl, cc)))

-- the rows behind the first are the rows of the bytes behind it
module _ (row : Row) (rows : List Row) (bytes : List ℕ) where
  field_behind : (i : ℕ) → field_at (row ∷ rows) bytes (suc i) ≡ field_at rows (drop (width_of row) bytes) i
  field_behind i = ap (take (width_of (row_at rows i))) (sym (drop-drop (offset_of rows i) (width_of row) bytes))

  abbrev Split : Type 0
  Split = ((cell : ℕ) × RowSays row (take (width_of row) bytes) (Ok cell)) × GoodRows rows (drop (width_of row) bytes)

  rows_split : GoodRows (row ∷ rows) bytes ↔ Split
  rows_split = (apart, joined)
    where
      apart : GoodRows (row ∷ rows) bytes → Split
      apart h =
          (h 0 (omega arith), (λ i l. let p = h (suc i) (omega arith) in (p.0, subst (λ (f : List ℕ). RowSays (row_at rows i) f (Ok p.0)) (field_behind i) p.1)))

      joined : Split → GoodRows (row ∷ rows) bytes
      joined h zero l = h.0
      joined h (suc i) l =
          let p = h.1 i (omega arith) in
          (p.0, subst (λ (f : List ℕ). RowSays (row_at rows i) f (Ok p.0)) (sym (field_behind i)) p.1)

-- a row's field reads as a cell exactly when it says one
cell_said : (row : Row) (field : List ℕ) → (is_formed (read_row row field) ≡ true) × (is_in_range (read_row row field) ≡ true) ↔ (cell : ℕ) × RowSays row field (Ok cell)
cell_said row field =
    let reads = cell_exact (read_row row field) in (
      (λ h. let p = reads.0 h in (p.0, (row_exactly row field (Ok p.0)).0 p.1)),
      (λ h. reads.1 (h.0, (row_exactly row field (Ok h.0)).1 h.1)),
    )

-- 11 and 12
rows_exact : (i : ℕ) (rows : List Row) (bytes : List ℕ) → Hold (row_rules i rows bytes) ↔ GoodRows rows bytes
rows_exact i [] bytes = ((λ h j l. absurd (omega arith)), (λ h. tt))
rows_exact i (row ∷ rows) bytes =
    let here = cell_said row (take (width_of row) bytes) in
    let rest = rows_exact (suc i) rows (drop (width_of row) bytes) in
    let parts = rows_split row rows bytes in (
      (λ h. parts.1 (here.0 (h.0, h.1.0), rest.0 h.1.1)),
      (λ g. let p = parts.0 g in let r = here.1 p.0 in (r.0, (r.1, rest.1 p.1))),
    )

-- 13
subject_exact : (subject : Subject) (place : Item → Option ℕ) → Hold (subject_rules subject place) ↔ PlaceFor subject place
subject_exact Nothing place = ((λ h. tt), (λ h. tt))
subject_exact (Of item level) place = go (place item)
  where
    go : (found : Option ℕ) → (is_some found ≡ true) × Unit {0} ↔ ((k : ℕ) × (found ≡ some k))
    go none = ((λ h. absurd (false≢true h.0)), (λ h. (cc, tt)))
    go (some k) = ((λ h. (k, refl)), (λ h. (refl, tt)))

contract_exact : (named : Named) (place : Item → Option ℕ) → Hold (key_rules named place) ↔ HasContract named place
contract_exact (is.Form form) place = subject_exact (subject_of form) place
contract_exact is.NoLength place = ((λ h. tt), (λ h. tt))
contract_exact is.PassedOver place = ((λ h. tt), (λ h. tt))

module _ (lists : Lists) (letter : ℕ) (bytes : List ℕ) where
  pub rules_exact : Hold (message_rules lists letter bytes) ↔ GoodMessage lists letter bytes
  rules_exact =
      let head = hold_append (head_rules letter (segment_of lists.contracts letter) bytes) (body_rules lists letter bytes) in
      let body = hold_append (row_rules 0 (rows_in (form_in bytes)) (data_of bytes)) (key_rules (acts_as bytes) (message_place lists letter bytes)) in
      let rows = rows_exact 0 (rows_in (form_in bytes)) (data_of bytes) in
      let key = contract_exact (acts_as bytes) (message_place lists letter bytes) in (
        (λ h.
            let p = head.0 h in
            let q = body.0 p.1 in
            record {
              frame = (framed_exact bytes).0 p.0.0;
              code = (coded_exact lists.contracts letter bytes).0 p.0.1.0;
              trailer = (trailed_exact bytes).0 p.0.1.1.0;
              length_of_code = (length_exact bytes).0 p.0.1.1.1.0;
              checksum = (summed_exact bytes).0 p.0.1.1.1.1.0;
              numbering = (number_exact (form_in bytes) (number_of bytes)).0 p.0.1.1.1.1.1.0;
              rows = rows.0 q.0;
              contract = key.0 q.1;
            }),
        (λ g.
            let five = (framed_exact bytes).1 g.frame in
            let six = (coded_exact lists.contracts letter bytes).1 g.code in
            let seven = (trailed_exact bytes).1 g.trailer in
            let eight = (length_exact bytes).1 g.length_of_code in
            let nine = (summed_exact bytes).1 g.checksum in
            let ten = (number_exact (form_in bytes) (number_of bytes)).1 g.numbering in
            head.1 ((five, (six, (seven, (eight, (nine, (ten, tt)))))), body.1 (rows.1 g.rows, key.1 g.contract))),
      )

  -- no fault is answered exactly when the message is good
  pub good_exact : verdict_of (message_of lists letter bytes).what ≡ Ok tt ↔ GoodMessage lists letter bytes
  good_exact = (
    (λ e. rules_exact.0 (good_hold (message_rules lists letter bytes) (sym (message_first lists letter bytes) ∙ e))),
    (λ g. message_first lists letter bytes ∙ hold_good (message_rules lists letter bytes) (rules_exact.1 g)),
  )

-- what a good message is, by its code and length, its number and its key
pub good_what : (lists : Lists) (letter : ℕ) (bytes : List ℕ) → GoodMessage lists letter bytes
    → (message_of lists letter bytes).what ≡ of_named (acts_as bytes) (number_of bytes) (message_place lists letter bytes)
unfolding message_of contents_by
good_what lists letter bytes g = by_head (head_of letter (segment_of lists.contracts letter) bytes) ((good_exact lists letter bytes).1 g)
  where
    named : Result What Fault
    named = of_named (acts_as bytes) (number_of bytes) (message_place lists letter bytes)

    by_rows : (v : Verdict) → verdict_of (of_verdict v named) ≡ Ok tt → of_verdict v named ≡ named
    by_rows (Ok good) e = refl
    by_rows (Err (bad_row.Field row)) e = cc
    by_rows (Err (bad_row.Range row)) e = cc

    by_head : (h : Head) → verdict_of (of_head h (length_of bytes) (contents_of lists letter bytes)).what ≡ Ok tt
        → (of_head h (length_of bytes) (contents_of lists letter bytes)).what ≡ named
    by_head (Ok _) e = by_rows (rows_read bytes).verdict e
    by_head (Err fault) e = cc
