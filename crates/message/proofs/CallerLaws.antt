-- What a caller may rely on where a message has no fault.
use Rattle.std.specs.Prelude.{ℕ, ◌≤◌, ◌≡◌, refl, List, length, take, Ok, Err}
use Rattle.std.proofs.Math.Path.{ap}
use Rattle.std.proofs.Common.{sym, ◌∙◌, arith}
use Rattle.std.proofs.lemmas.List.Edits.{sets}
use Rattle.std.proofs.Math.Seq.{length-sets}
use Rattle.forms.specs.declared.forms.Form.{Form}
use Rattle.forms.specs.declared.forms.Named.TheVariants as is
use Rattle.lookup.specs.Lookup.{segment_of}
use Rattle.pairs.specs.Lists.{Lists}
use Rattle.layout.specs.ReadLaws.{front_stored}
use Rattle.forms.specs.Sizes.{most_rows}
use Rattle.forms.specs.Forms.{rows_of}
use Rattle.forms.specs.FormsLaws.{fits}
use Rattle.message.specs.declared.body.What.TheVariants as what
use Rattle.head.specs.Faults.{Head}
use Rattle.message.specs.Good.{GoodMessage}
use Rattle.head.specs.Fields.{form_in, number_of, data_of}
use Rattle.head.specs.Rules.{head_of}
use Rattle.message.specs.Message.{message_place, market_in, acts_as, of_named}
use Rattle.message.specs.Reads.{rows_read, contents_by, contents_of, message_of}
use Rattle.message.specs.MessageLaws.{good_head, bad_head, length_is}
use Rattle.message.specs.Numbers.{verdict_of, number_in}
use Rattle.message.proofs.GoodLaws.{good_exact}
use Rattle.head.specs.RulesLaws.{unlike}
use Rattle.message.specs.CallerLaws.{IsUpdate, form_length, rows_pass, named_number, named_update, acts_as_lem, acts_number}

module _ (lists : Lists) (letter : ℕ) (bytes : List ℕ) (good : verdict_of (message_of lists letter bytes).what ≡ Ok tt) where
  rules : GoodMessage lists letter bytes
  rules = (good_exact lists letter bytes).0 good

  -- its head is good, so that it is its contents
  pub head_good : head_of letter (segment_of lists.contracts letter) bytes ≡ Ok tt
  head_good = go (head_of letter (segment_of lists.contracts letter) bytes) refl
    where
      go : (h : Head) → head_of letter (segment_of lists.contracts letter) bytes ≡ h → head_of letter (segment_of lists.contracts letter) bytes ≡ Ok tt
      go (Ok _) e = e
      go (Err fault) e = absurd (unlike (sym (ap (λ m. verdict_of m.what) (bad_head lists letter bytes fault e)) ∙ good))

  pub contents_good : message_of lists letter bytes ≡ contents_of lists letter bytes
  contents_good = good_head lists letter bytes head_good

  -- so the next message doesn't begin behind the end
  pub all_there : (message_of lists letter bytes).length ≤ length bytes
  all_there = rw (length_is lists letter bytes) rules.frame.within

  rows_good : (rows_read bytes).verdict ≡ Ok tt
  unfolding contents_by
  rows_good = rows_pass (rows_read bytes).verdict _ (sym (ap (λ m. verdict_of m.what) contents_good) ∙ good)

  what_is : (message_of lists letter bytes).what ≡ of_named (acts_as bytes) (number_of bytes) (message_place lists letter bytes)
  unfolding contents_by
  what_is = ap (λ m. m.what) contents_good ∙ rw rows_good

  -- its number is the number field
  pub number_is : number_in (message_of lists letter bytes).what ≡ number_of bytes
  unfolding acts_as
  number_is =
      ap number_in what_is ∙ named_number (acts_as bytes) (number_of bytes) (message_place lists letter bytes) (acts_number (form_in bytes) (market_in (data_of bytes)) (number_of bytes) rules.numbering) rules.contract

  pub update_told : (number : ℕ) (form : Form) (place : ℕ) → (message_of lists letter bytes).what ≡ Ok (what.Update number form place)
      → IsUpdate lists letter bytes number form place
  unfolding contents_by
  update_told number form place e =
      let p = named_update (acts_as bytes) (number_of bytes) (message_place lists letter bytes) (sym what_is ∙ e) in
      let named : form_in bytes ≡ is.Form form = acts_as_lem bytes form p.named_is in
      record {
        form_is = named;
        segment_is = rules.code.same_segment;
        item = p.item;
        tells = p.tells;
        number_is = p.number_is;
        length_is = form_length bytes form named;
        place_is = p.found_is;
        rows_good = rw named at rows_good;
        cells_are = rw named at (ap (λ m. m.cells) contents_good);
      }

  -- lent cells in which its rows are stored have its cells in front
  pub cells_stored : (cells cells' : List ℕ) → cells' ≡ sets cells 0 (rows_read bytes).cells → length cells' ≡ most_rows → (number : ℕ) (form : Form) (place : ℕ)
      → (message_of lists letter bytes).what ≡ Ok (what.Update number form place)
      → take (length (rows_of form)) cells' ≡ take (length (rows_of form)) (message_of lists letter bytes).cells
  cells_stored cells cells' stored long number form place e =
      let u = update_told number form place e in
      let same : length cells' ≡ length cells = ap length stored ∙ length-sets cells 0 (rows_read bytes).cells in
      rw (stored, u.cells_are, u.form_is) (front_stored (rows_of form) (data_of bytes) cells (omega (arith, (fits form).rows_fit)) u.rows_good)
