-- What a caller may rely on where a message has no fault.
use Rattle.std.specs.Prelude.{ℕ, ◌≡◌, refl, Bool, true, false, cond, List, Ok, Result, Err}
use Rattle.layout.specs.declared.read.BadRow.TheVariants as bad_row
use Rattle.layout.specs.Answers.{Verdict}
use Rattle.std.proofs.Math.Path.{ap}
use Rattle.std.proofs.Common.{sym, ◌∙◌, arith}
use Rattle.std.proofs.Math.Option.{Option, none, some}
use Rattle.laws.specs.Choice.{never}
use Rattle.forms.specs.declared.forms.Form.{Form}
use Rattle.forms.specs.declared.forms.Item.{Item}
use Rattle.forms.specs.declared.forms.Named.{Named}
use Rattle.forms.specs.declared.forms.Named.TheVariants as is
use Rattle.forms.specs.declared.forms.Subject.{Subject}
use Rattle.forms.specs.declared.forms.Subject.TheVariants.{Nothing, Of}
use Rattle.pairs.specs.Lists.{Lists}
use Rattle.layout.specs.Cells.{zeros_behind}
use Rattle.layout.specs.Read.{read_rows}
use Rattle.forms.specs.Rows.{message_length}
use Rattle.forms.specs.Forms.{rows_of, subject_of, forms_of, form_of}
use Rattle.forms.specs.FormsLaws.{told_form}
use Rattle.message.specs.declared.body.What.{What}
use Rattle.message.specs.declared.body.What.TheVariants as what
use Rattle.head.specs.declared.head.Fault.{Fault}
use Rattle.message.specs.Good.{PlaceFor, HasContract}
use Rattle.head.specs.GoodHead.{NumberFor, HasNumber}
use Rattle.head.specs.Fields.{letter_of, segment_letter_of, second_of, form_in, length_of, number_of, data_of}
use Rattle.message.specs.Message.{TellsOf, message_place, market_in, updates, acting_for, acting, acts_as, of_place, of_subject, of_named}
use Rattle.message.specs.Reads.{of_verdict, message_of}
use Rattle.message.specs.Numbers.{verdict_of, number_in}
use Rattle.head.specs.RulesLaws.{unlike}

-- what an update with no fault is, in the terms of its bytes
pub record IsUpdate (lists : Lists) (letter : ℕ) (bytes : List ℕ) (number : ℕ) (form : Form) (place : ℕ) : Type 0 where
  pub form_is : form_in bytes ≡ is.Form form
  pub segment_is : segment_letter_of bytes ≡ letter
  pub item : Item
  pub tells : TellsOf item form
  pub number_is : number_of bytes ≡ number
  pub length_is : length_of bytes ≡ message_length (rows_of form)
  pub place_is : message_place lists letter bytes item ≡ some place
  pub rows_good : (read_rows 0 (rows_of form) (data_of bytes)).verdict ≡ Ok tt
  pub cells_are : (message_of lists letter bytes).cells ≡ zeros_behind (read_rows 0 (rows_of form) (data_of bytes)).cells

-- a message is as long as the form that it has
pub form_length : (bytes : List ℕ) (form : Form) → form_in bytes ≡ is.Form form → length_of bytes ≡ message_length (rows_of form)
unfolding form_in form_of
form_length bytes form e = (told_form (forms_of (letter_of bytes) (second_of bytes)) (length_of bytes) form e).1

-- a verdict that leaves no fault is good
pub rows_pass : (v : Verdict) (w : Result What Fault) → verdict_of (of_verdict v w) ≡ Ok tt → v ≡ Ok tt
rows_pass (Ok good) w e = refl
rows_pass (Err (bad_row.Field row)) w e = absurd (unlike e)
rows_pass (Err (bad_row.Range row)) w e = absurd (unlike e)

-- a message counts in the sequence by its number field
subject_number : (subject : Subject) (number : ℕ) (form : Form) (place : Item → Option ℕ) → NumberFor subject number → PlaceFor subject place
    → number_in (of_subject subject number form place) ≡ number
subject_number Nothing number form place h k = sym h
subject_number (Of item level) number form place h k = go (place item) k.1
  where
    go : (found : Option ℕ) → found ≡ some k.0 → number_in (of_place number form found) ≡ number
    go none e = absurd (never e)
    go (some p) e = refl

pub named_number : (named : Named) (number : ℕ) (place : Item → Option ℕ) → HasNumber named number → HasContract named place → number_in (of_named named number place) ≡ number
named_number (is.Form form) number place h k = subject_number (subject_of form) number form place h k
named_number is.NoLength number place h k = refl
named_number is.PassedOver number place h k = refl

-- only an update with its key listed is answered as one
pub record ToldUpdate (named : Named) (n : ℕ) (found : Item → Option ℕ) (number : ℕ) (form : Form) (place : ℕ) : Type 0 where
  pub named_is : named ≡ is.Form form
  pub item : Item
  pub tells : TellsOf item form
  pub number_is : n ≡ number
  pub found_is : found item ≡ some place

subject_update : (subject : Subject) (own : Form) → subject_of own ≡ subject → (n : ℕ) (found : Item → Option ℕ) {number : ℕ} {form : Form} {place : ℕ}
    → of_subject subject n own found ≡ Ok (what.Update number form place) → ToldUpdate (is.Form own) n found number form place
subject_update Nothing own s n found e = absurd (let z : ◌≡◌ {A = ℕ} 0 1 = cc in omega arith)
subject_update (Of item level) own s n found {number} {form} {place} e = go (found item) refl e
  where
    go : (o : Option ℕ) → found item ≡ o → of_place n own o ≡ Ok (what.Update number form place) → ToldUpdate (is.Form own) n found number form place
    go none f e = absurd (let z : ◌≡◌ {A = ℕ} 0 1 = cc in omega arith)
    go (some k) f e =
        let same : own ≡ form = cc in
        let here : some k ≡ some place = cc in
        record { named_is = ap is.Form same; item = item; tells = (level, rw (← same) s); number_is = cc; found_is = f ∙ here }

pub named_update : (named : Named) (n : ℕ) (found : Item → Option ℕ) {number : ℕ} {form : Form} {place : ℕ}
    → of_named named n found ≡ Ok (what.Update number form place) → ToldUpdate named n found number form place
named_update (is.Form own) n found e = subject_update (subject_of own) own refl n found e
named_update is.NoLength n found e = absurd (let z : ◌≡◌ {A = ℕ} 0 1 = cc in omega arith)
named_update is.PassedOver n found e = absurd (let z : ◌≡◌ {A = ℕ} 0 1 = cc in omega arith)

-- what acts as a form has that form, and what is passed over by its market type has a number as before
subject_acts : (subject : Subject) (own : Form) (market : ℕ) (form : Form) → acting_for subject own market ≡ is.Form form → is.Form own ≡ is.Form form
subject_acts Nothing own market form e = e
subject_acts (Of item level) own market form e = go (updates item market) e
  where
    go : (t : Bool) → cond t (is.Form own) is.PassedOver ≡ is.Form form → is.Form own ≡ is.Form form
    go true e = e
    go false e = absurd (let z : ◌≡◌ {A = ℕ} 0 1 = cc in omega arith)

acts_form : (named : Named) (market : ℕ) (form : Form) → acting named market ≡ is.Form form → named ≡ is.Form form
acts_form (is.Form own) market form e = subject_acts (subject_of own) own market form e
acts_form is.NoLength market form e = e
acts_form is.PassedOver market form e = e

pub acts_as_lem : (bytes : List ℕ) (form : Form) → acts_as bytes ≡ is.Form form → form_in bytes ≡ is.Form form
unfolding acts_as
acts_as_lem bytes form e = acts_form (form_in bytes) (market_in (data_of bytes)) form e

subject_acts_number : (subject : Subject) (own : Form) → subject_of own ≡ subject → (market number : ℕ) → NumberFor subject number → HasNumber (acting_for subject own market) number
subject_acts_number Nothing own s market number h = rw s h
subject_acts_number (Of item level) own s market number h = go (updates item market)
  where
    go : (t : Bool) → HasNumber (cond t (is.Form own) is.PassedOver) number
    go true = rw s h
    go false = h

pub acts_number : (named : Named) (market number : ℕ) → HasNumber named number → HasNumber (acting named market) number
acts_number (is.Form own) market number h = subject_acts_number (subject_of own) own refl market number h
acts_number is.NoLength market number h = h
acts_number is.PassedOver market number h = h
