-- Laws of what a message is.
use Rattle.std.specs.Prelude.{ℕ, ◌≡◌, List, Bool, true, false, cond, Ok, Err, Result}
use Rattle.layout.specs.Answers.{Verdict}
use Rattle.std.proofs.Math.Path.{refl, sym}
use Rattle.std.proofs.Common.{◌∙◌}
use Rattle.std.proofs.Math.Option.{Option, none, some}
use Rattle.laws.specs.Choice.{never}
use Rattle.lookup.specs.Lookup.{segment_of}
use Rattle.pairs.specs.Lists.{Lists}
use Rattle.layout.specs.AnswersLaws.{verdict_told}
use Rattle.layout.specs.Cells.{zeros_behind}
use Rattle.forms.specs.declared.forms.Form.{Form}
use Rattle.forms.specs.declared.forms.Item.{Item}
use Rattle.forms.specs.declared.forms.Named.TheVariants as is
use Rattle.forms.specs.declared.forms.Subject.TheVariants.{Nothing}
use Rattle.forms.specs.AnswersLaws.{tells}
use Rattle.forms.specs.Forms.{rows_of, subject_of}
use Rattle.forms.specs.FormsLaws.{nothing_rows}
use Rattle.layout.specs.Read.{Outcome, read_rows, ReadsRows}
use Rattle.message.specs.declared.body.What.{What}
use Rattle.message.specs.declared.body.What.TheVariants as what
use Rattle.message.specs.declared.body.Outline.{Outline}
use Rattle.head.specs.declared.head.Fault.{Fault}
use Rattle.head.specs.Faults.{Head, head_numbers}
use Rattle.head.specs.Fields.{form_in, length_of, number_of, data_of}
use Rattle.head.proofs.FaultsTold.{head_told}
use Rattle.head.specs.Head.{form_rules}
use Rattle.head.specs.Rules.{head_of, first_fault}
use Rattle.message.specs.NumbersLaws.{what_told}
use Rattle.message.specs.Message.{Message, TellsOf, place_in, place_there, places_there, message_key, message_place, key_place, updates, acting, acts_as, of_place, of_named}
use Rattle.message.specs.Compared.{keys_there, compared_as, message_compared, so_far}
use Rattle.message.specs.Reads.{Outlines, rows_read, of_verdict, bare, contents_by, contents_of, message_of, ReadsMessage, ReadsFormed}

module _ (item : Item) (lists : Lists) (letter : ℕ) where
  -- a key is looked up in the segment of its letter, where there is one
  pub key_in : (key : List ℕ) {segment : ℕ} → segment_of lists.contracts letter ≡ some segment → key_place item lists letter key ≡ place_in item lists segment key
  unfolding key_place
  key_in key e = rw e

  pub key_nowhere : (key : List ℕ) → segment_of lists.contracts letter ≡ none → key_place item lists letter key ≡ none
  unfolding key_place
  key_nowhere key e = rw e

  pub key_found : (key : List ℕ) (place : ℕ) → key_place item lists letter key ≡ some place
      → (segment : ℕ) × (segment_of lists.contracts letter ≡ some segment) × (place_in item lists segment key ≡ some place)
  key_found key place e = go (segment_of lists.contracts letter) refl
    where
      go : (found : Option ℕ) → segment_of lists.contracts letter ≡ found → (segment : ℕ) × (segment_of lists.contracts letter ≡ some segment) × (place_in item lists segment key ≡ some place)
      go none f = absurd (never (sym (key_nowhere key f) ∙ e))
      go (some segment) f = (segment, f, sym (key_in key f) ∙ e)

-- the segment of the letter, found before
pub places_by_segment : (lists : Lists) (letter : ℕ) (bytes : List ℕ) {segment : Option ℕ} → segment ≡ segment_of lists.contracts letter
    → places_there lists bytes segment ≡ message_place lists letter bytes
unfolding key_place
places_by_segment lists letter bytes e = λ i item. place_there item lists (message_key item bytes) (e i)

-- and the keys compared there
pub keys_by_segment : (lists : Lists) (letter : ℕ) (bytes : List ℕ) {segment : Option ℕ} → segment ≡ segment_of lists.contracts letter
    → compared_as (acts_as bytes) (keys_there lists bytes segment) ≡ message_compared lists letter bytes
unfolding message_compared
keys_by_segment lists letter bytes e = λ i. compared_as (acts_as bytes) (keys_there lists bytes (e i))

-- a message's outline
abbrev pub outline_of : Message → ℕ → Outline
outline_of message compared = record { what = message.what; length = message.length; compared = so_far message.what compared }

pub outlined : {message : Message} {compared : ℕ} {answer : Outline} → answer ≡ outline_of message compared → Outlines message compared answer
outlined e = rw e (record { tells = tells refl; long = refl; steps = refl })

pub outline_told : {message : Message} {compared : ℕ} {answer : Outline} → Outlines message compared answer → answer ≡ outline_of message compared
outline_told o = λ i. record { what = what_told o.tells i; length = o.long i; compared = o.steps i }

-- an update that has come to 13, listed or not
pub sought_outlined : (number : ℕ) (form : Form) (whole : ℕ) (found : Option ℕ) {compared steps : ℕ} → steps ≡ compared
    → Outlines (bare (of_place number form found) whole) compared (record { what = of_place number form found; length = whole; compared = steps })
sought_outlined number form whole none e = record { tells = tells refl; long = refl; steps = e }
sought_outlined number form whole (some place) e = record { tells = tells refl; long = refl; steps = e }

-- an update acts as its form where its market type updates, and else is passed over
module _ (form : Form) (item : Item) (s : TellsOf item form) (market : ℕ) where
  pub acts : (t : Bool) → updates item market ≡ t → acting (is.Form form) market ≡ cond t (is.Form form) is.PassedOver
  acts t e = rw (s.1, e)

  pub acts_outlined : updates item market ≡ true → (number whole : ℕ) (place : Item → Option ℕ) (keys : Item → ℕ) {answer : Outline}
      → Outlines (bare (of_place number form (place item)) whole) (keys item) answer
      → Outlines (bare (of_named (acting (is.Form form) market) number place) whole) (compared_as (acting (is.Form form) market) keys) answer
  acts_outlined e number whole place keys o = rw (acts true e, s.1) o

  pub passed_outlined : updates item market ≡ false → (number whole : ℕ) (place : Item → Option ℕ) (keys : Item → ℕ)
      → Outlines (bare (of_named (acting (is.Form form) market) number place) whole) (compared_as (acting (is.Form form) market) keys) (record { what = Ok (what.PassedOver number); length = whole; compared = 0 })
  passed_outlined e number whole place keys = rw (acts false e) (outlined refl)

-- a message with a good head, by the place of its key and the keys compared with it
module _ (place : Item → Option ℕ) (keys : Item → ℕ) (bytes : List ℕ) (whole : ℕ) (long : whole ≡ length_of bytes) where
  -- one with no rows leaves the lent cells as they are
  module _ (cells : List ℕ) where
    pub heartbeat_reads : (form : Form) → form_in bytes ≡ is.Form form → subject_of form ≡ Nothing
        → ReadsMessage (contents_by place bytes) (compared_as (acts_as bytes) keys) (rows_read bytes).cells cells (record { what = Ok what.Heartbeat; length = whole; compared = 0 }) cells
    unfolding contents_by acts_as
    heartbeat_reads form e s = rw (long, e, s, nothing_rows form s) (rw s (record { told = outlined refl; stored = refl }))

    pub passed_over_reads : form_in bytes ≡ is.PassedOver
        → ReadsMessage (contents_by place bytes) (compared_as (acts_as bytes) keys) (rows_read bytes).cells cells (record { what = Ok (what.PassedOver (number_of bytes)); length = whole; compared = 0 }) cells
    unfolding contents_by acts_as
    passed_over_reads e = rw (long, e) (record { told = outlined refl; stored = refl })

    pub no_length_reads : form_in bytes ≡ is.NoLength
        → ReadsMessage (contents_by place bytes) (compared_as (acts_as bytes) keys) (rows_read bytes).cells cells (record { what = Ok (what.PassedOver (number_of bytes)); length = whole; compared = 0 }) cells
    unfolding contents_by acts_as
    no_length_reads e = rw (long, e) (record { told = outlined refl; stored = refl })

  module _ (form : Form) (e : form_in bytes ≡ is.Form form) where
    -- the rows of a form are read, and then it acts by its market type
    pub update_reads : (verdict other : Verdict) → verdict ≡ other → (cells cells' : List ℕ) → ReadsRows (rows_of form) (data_of bytes) cells verdict cells'
        → (answer : Outline) → Outlines (bare (of_verdict other (of_named (acts_as bytes) (number_of bytes) place)) whole) (compared_as (acts_as bytes) keys) answer
        → ReadsMessage (contents_by place bytes) (compared_as (acts_as bytes) keys) (rows_read bytes).cells cells answer cells'
    unfolding contents_by
    update_reads verdict other same cells cells' read answer o =
        let v : other ≡ (read_rows 0 (rows_of form) (data_of bytes)).verdict = sym same ∙ verdict_told verdict (read_rows 0 (rows_of form) (data_of bytes)).verdict read.answers in
        record { told = outlined (outline_told o ∙ rw (long, e, ← v)); stored = rw e read.cells_stored }

    pub update_is : (w : Result What Fault) (read : Outcome) → read_rows 0 (rows_of form) (data_of bytes) ≡ read → w ≡ of_verdict read.verdict (of_named (acts_as bytes) (number_of bytes) place)
        → contents_by place bytes ≡ record { what = w; length = whole; cells = zeros_behind read.cells }
    unfolding contents_by
    update_is w read same what_is = rw (long, e, same, what_is)

-- a message with a good frame, by what the rest of its head was judged
module _ (place : Item → Option ℕ) (keys : Item → ℕ) (bytes cells : List ℕ) (judged : Head) (told : head_numbers judged ≡ head_numbers (first_fault (form_rules bytes))) where
  form_is : {h : Head} → judged ≡ h → first_fault (form_rules bytes) ≡ h
  form_is e = sym (head_told judged (first_fault (form_rules bytes)) told) ∙ e

  pub good_form : {answer : Outline} {cells' : List ℕ} → judged ≡ Ok tt → ReadsMessage (contents_by place bytes) (compared_as (acts_as bytes) keys) (rows_read bytes).cells cells answer cells'
      → ReadsFormed place keys bytes cells answer cells'
  good_form e reads = rw (form_is e) reads

  pub bad_form : {answer : Outline} {f : Fault} → judged ≡ Err f → ((compared : ℕ) → Outlines (bare (Err f) (length_of bytes)) compared answer)
      → ReadsFormed place keys bytes cells answer cells
  bad_form e outlines = rw (form_is e) (record { told = outlines _; stored = refl })

module _ (lists : Lists) (letter : ℕ) (bytes : List ℕ) where
  abbrev head_here : Head
  head_here = head_of letter (segment_of lists.contracts letter) bytes

  -- a good head leaves the message to its contents
  pub good_head : head_here ≡ Ok tt → message_of lists letter bytes ≡ contents_of lists letter bytes
  unfolding message_of
  good_head e = rw e

  pub bad_head : (fault : Fault) → head_here ≡ Err fault → message_of lists letter bytes ≡ bare (Err fault) (length_of bytes)
  unfolding message_of
  bad_head fault e = rw e

  -- whatever it is, its length is its length field
  pub length_is : (message_of lists letter bytes).length ≡ length_of bytes
  unfolding message_of contents_by
  length_is = go (head_here) refl
    where
      go : (h : Head) → head_here ≡ h → (message_of lists letter bytes).length ≡ length_of bytes
      go (Ok _) e = rw e
      go (Err fault) e = rw e
