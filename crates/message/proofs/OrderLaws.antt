-- The fault that is answered is the first broken rule's, in document 01's order.
use Prim.Native.Nat.{ℕ, suc}
use Rattle.layout.specs.declared.read.BadRow.TheVariants as bad_row
use Rattle.decimal.specs.declared.FieldFault.TheVariants.{Malformed, OutOfRange}
use Rattle.layout.specs.Answers.{RowRead, Verdict}
use Rattle.std.specs.Prelude.{◌≡◌, refl, ◌↔◌, List, [], ◌∷◌, take, drop, Ok, Err, Result}
use Rattle.std.proofs.Math.Path.{ap, ap₂, sym}
use Rattle.std.proofs.Common.{◌∙◌}
use Rattle.std.proofs.Math.Option.{Option, none, some}
use Rattle.laws.specs.Rules.{Broken}
use Rattle.forms.specs.declared.forms.Form.{Form}
use Rattle.forms.specs.declared.forms.Item.{Item}
use Rattle.forms.specs.declared.forms.Named.{Named}
use Rattle.forms.specs.declared.forms.Named.TheVariants as is
use Rattle.forms.specs.declared.forms.Subject.{Subject}
use Rattle.forms.specs.declared.forms.Subject.TheVariants.{Nothing, Of}
use Rattle.forms.specs.declared.rows.Row.{Row}
use Rattle.layout.specs.Read.{read_row, read_rows}
use Rattle.forms.specs.Rows.{width_of}
use Rattle.message.specs.declared.body.What.{What}
use Rattle.head.specs.declared.head.Fault.{Fault}
use Rattle.head.specs.declared.head.Fault.TheVariants.{Field, Range, Contract}
use Rattle.head.specs.Faults.{Head}
use Rattle.lookup.specs.Lookup.{segment_of}
use Rattle.pairs.specs.Lists.{Lists}
use Rattle.forms.specs.Forms.{subject_of}
use Rattle.head.specs.Fields.{length_of, number_of, data_of, form_in}
use Rattle.head.specs.Head.{head_rules}
use Rattle.head.specs.Rules.{head_of, first_fault}
use Rattle.message.specs.Message.{message_place, acts_as, rows_in, of_place, of_subject, of_named}
use Rattle.message.specs.Reads.{rows_read, of_verdict, of_head, contents_by, contents_of, message_of}
use Rattle.message.specs.Numbers.{verdict_of}
use Rattle.head.specs.Tests.{is_some}
use Rattle.message.specs.Order.{row_rules, subject_rules, key_rules, body_rules, message_rules}
use Rattle.head.specs.RulesLaws.{and_then, first_append, bad_broken, broken_bad}

-- a verdict on rows as one on a message
abbrev as_head : Verdict → Head
as_head (Ok good) = Ok tt
as_head (Err (bad_row.Field row)) = Err (Field row)
as_head (Err (bad_row.Range row)) = Err (Range row)

-- 11 and 12
rows_first : (i : ℕ) (rows : List Row) (bytes : List ℕ) → as_head (read_rows i rows bytes).verdict ≡ first_fault (row_rules i rows bytes)
rows_first i [] bytes = refl
rows_first i (row ∷ rows) bytes =
    go (read_row row (take (width_of row) bytes)) refl (rows_first (suc i) rows (drop (width_of row) bytes))
  where
    go : (answer : RowRead) → read_row row (take (width_of row) bytes) ≡ answer
        → as_head (read_rows (suc i) rows (drop (width_of row) bytes)).verdict ≡ first_fault (row_rules (suc i) rows (drop (width_of row) bytes))
        → as_head (read_rows i (row ∷ rows) bytes).verdict ≡ first_fault (row_rules i (row ∷ rows) bytes)
    go (Ok cell) e rest = rw e rest
    go (Err Malformed) e rest = rw e
    go (Err OutOfRange) e rest = rw e

verdict_then : (v : Verdict) (good : Result What Fault) → verdict_of (of_verdict v good) ≡ and_then (as_head v) (verdict_of good)
verdict_then (Ok read) good = refl
verdict_then (Err (bad_row.Field row)) good = refl
verdict_then (Err (bad_row.Range row)) good = refl

-- 13
subject_first : (subject : Subject) (number : ℕ) (form : Form) (place : Item → Option ℕ) → verdict_of (of_subject subject number form place) ≡ first_fault (subject_rules subject place)
subject_first Nothing number form place = refl
subject_first (Of item level) number form place = go (place item)
  where
    go : (found : Option ℕ) → verdict_of (of_place number form found) ≡ first_fault (record { holds = is_some found; refusal = Contract } ∷ [])
    go none = refl
    go (some k) = refl

key_first : (named : Named) (number : ℕ) (place : Item → Option ℕ) → verdict_of (of_named named number place) ≡ first_fault (key_rules named place)
key_first (is.Form form) number place = subject_first (subject_of form) number form place
key_first is.NoLength number place = refl
key_first is.PassedOver number place = refl

module _ (lists : Lists) (letter : ℕ) (bytes : List ℕ) where
  body_first : verdict_of (contents_of lists letter bytes).what ≡ first_fault (body_rules lists letter bytes)
  unfolding contents_by
  body_first =
      let place : Item → Option ℕ = message_place lists letter bytes in
      verdict_then (rows_read bytes).verdict (of_named (acts_as bytes) (number_of bytes) place)
      ∙ ap₂ and_then (rows_first 0 (rows_in (form_in bytes)) (data_of bytes)) (key_first (acts_as bytes) (number_of bytes) place)
      ∙ sym (first_append (row_rules 0 (rows_in (form_in bytes)) (data_of bytes)) (key_rules (acts_as bytes) place))

  abbrev head_here : Head
  head_here = head_of letter (segment_of lists.contracts letter) bytes

  head_then : (h : Head) → verdict_of (of_head h (length_of bytes) (contents_of lists letter bytes)).what ≡ and_then h (verdict_of (contents_of lists letter bytes).what)
  head_then (Ok _) = refl
  head_then (Err fault) = refl

  -- 5 to 13: the first broken rule decides
  pub message_first : verdict_of (message_of lists letter bytes).what ≡ first_fault (message_rules lists letter bytes)
  unfolding message_of head_of
  message_first =
      head_then head_here ∙ ap (and_then head_here) body_first ∙ sym (first_append (head_rules letter (segment_of lists.contracts letter) bytes) (body_rules lists letter bytes))

  -- a fault is answered exactly when its rule is broken and all rules before it hold
  pub fault_exact : (fault : Fault) → (message_of lists letter bytes).what ≡ Err fault ↔ Broken (message_rules lists letter bytes) fault
  fault_exact fault = (
    (λ e. bad_broken (message_rules lists letter bytes) fault (sym message_first ∙ ap verdict_of e)),
    (λ b. bad_is (message_of lists letter bytes).what (message_first ∙ broken_bad (message_rules lists letter bytes) fault b)),
  )
    where
      bad_is : (w : Result What Fault) → verdict_of w ≡ Err fault → w ≡ Err fault
      bad_is (Ok _) e = cc
      bad_is (Err other) e = cc

  pub head_exact : (fault : Fault) → head_here ≡ Err fault ↔ Broken (head_rules letter (segment_of lists.contracts letter) bytes) fault
  unfolding head_of
  head_exact fault = (bad_broken (head_rules letter (segment_of lists.contracts letter) bytes) fault, broken_bad (head_rules letter (segment_of lists.contracts letter) bytes) fault)
