-- A row's field is read as each answer exactly where what that answer says of the field is so: demand 2 for one row.
use Rattle.std.specs.Prelude.{ℕ, ◌≡◌, refl, Bool, true, false, cond, List, ◌↔◌, Ok, Err}
use Rattle.layout.specs.Answers.{RowRead}
use Rattle.std.proofs.Common.{sym, ap, subst, ◌∙◌, ⊎_elim}
use Rattle.std.proofs.lemmas.Bool.{false≢true}
use Rattle.laws.specs.Choice.{clash, either}
use Rattle.laws.specs.Tests.{eqb_is, or_is}
use Rattle.decimal.specs.declared.Kind.{Kind}
use Rattle.decimal.specs.Kinds.{price, quantity, turnover, difference}
use Rattle.decimal.specs.declared.FieldFault.TheVariants.{Malformed, OutOfRange}
use Rattle.scan.specs.Answers.{Number, Says}
use Rattle.scan.specs.Read.{read_as}
use Rattle.scan.specs.ReadLaws.{reads_exactly}
use Rattle.forms.specs.declared.rows.Markets.{Markets}
use Rattle.forms.specs.declared.rows.Markets.TheVariants.{Normal, Any}
use Rattle.forms.specs.declared.rows.Row.{Row}
use Rattle.forms.specs.declared.rows.Row.TheVariants.{Key, MarketType, Status, Price, Quantity, Turnover, Difference}
use Rattle.decimal.specs.declared.Held.{Held}
use Rattle.decimal.specs.declared.Held.TheVariants.{Nothing, Units, Below}
use Rattle.layout.specs.Cells.{cell_of}
use Rattle.layout.specs.Read.{of_number, is_market_type, is_status, letter_cell, number_cell, read_row}
use Rattle.layout.specs.Says.{letter_in, LetterSays, IsMarketType, IsStatus, HeldSays, NumberSays, RowSays}

-- ---- a letter

module _ (taken : ℕ → Bool) (Takes : ℕ → Type 0) (is : (letter : ℕ) → taken letter ≡ true ↔ Takes letter) (letter : ℕ) where
  letter_says : (t : Bool) → taken letter ≡ t → LetterSays Takes letter (cond t (Ok letter) (Err Malformed))
  letter_says true e = ((is letter).0 e, refl)
  letter_says false e = λ h. false≢true (sym e ∙ (is letter).1 h)

  letter_said : (answer : RowRead) → LetterSays Takes letter answer → letter_cell taken letter ≡ answer
  letter_said (Ok cell) h = rw ((is letter).1 h.0) (ap Ok (sym h.1))
  letter_said (Err Malformed) h = ⊎_elim (λ e. absurd (h ((is letter).0 e))) (λ e. rw e) (either (taken letter))
  letter_said (Err OutOfRange) h = absurd h

  letter_exactly : (answer : RowRead) → letter_cell taken letter ≡ answer ↔ LetterSays Takes letter answer
  letter_exactly answer = (λ e. subst (LetterSays Takes letter) e (letter_says (taken letter) refl), letter_said answer)

-- ---- a number

module _ (kind : Kind) (field : List ℕ) where
  number_says : (r : Number) → Says kind field r → NumberSays kind field (of_number r)
  number_says (Ok Nothing) h = (Nothing, h, refl)
  number_says (Ok (Units n)) h = (Units n, h, refl)
  number_says (Ok (Below n)) h = (Below n, h, refl)
  number_says (Err Malformed) h = h
  number_says (Err OutOfRange) h = h

  held_said : (held : Held) → HeldSays kind field held → number_cell kind field ≡ Ok (cell_of held)
  held_said Nothing h = ap of_number ((reads_exactly kind field (Ok Nothing)).1 h)
  held_said (Units n) h = ap of_number ((reads_exactly kind field (Ok (Units n))).1 h)
  held_said (Below n) h = ap of_number ((reads_exactly kind field (Ok (Below n))).1 h)

  number_said : (answer : RowRead) → NumberSays kind field answer → number_cell kind field ≡ answer
  number_said (Ok cell) h = held_said h.0 h.1 ∙ ap Ok (sym h.2)
  number_said (Err Malformed) h = ap of_number ((reads_exactly kind field (Err Malformed)).1 h)
  number_said (Err OutOfRange) h = ap of_number ((reads_exactly kind field (Err OutOfRange)).1 h)

  number_exactly : (answer : RowRead) → number_cell kind field ≡ answer ↔ NumberSays kind field answer
  number_exactly answer =
      (λ e. subst (NumberSays kind field) e (number_says (read_as kind field) ((reads_exactly kind field (read_as kind field)).0 refl)), number_said answer)

-- ---- any row

market_is : (markets : Markets) (b : ℕ) → is_market_type markets b ≡ true ↔ IsMarketType markets b
market_is Normal b = eqb_is b 78
market_is Any b = or_is (eqb_is b 78) (or_is (eqb_is b 79) (or_is (eqb_is b 83) (eqb_is b 65)))

key_exactly : (width : ℕ) (field : List ℕ) (answer : RowRead) → Ok 0 ≡ answer ↔ RowSays (Key width) field answer
key_exactly width field (Ok cell) = ((λ e. cc), (λ h. ap Ok (sym h)))
key_exactly width field (Err Malformed) = ((λ e. clash (cc)), (λ h. absurd h))
key_exactly width field (Err OutOfRange) = ((λ e. clash (cc)), (λ h. absurd h))

pub row_exactly : (row : Row) (field : List ℕ) (answer : RowRead) → read_row row field ≡ answer ↔ RowSays row field answer
unfolding read_row
row_exactly (Key width) field answer = key_exactly width field answer
row_exactly (MarketType markets) field answer = letter_exactly (is_market_type markets) (IsMarketType markets) (market_is markets) (letter_in field) answer
row_exactly Status field answer = letter_exactly is_status IsStatus (λ b. or_is (eqb_is b 83) (eqb_is b 32)) (letter_in field) answer
row_exactly (Price width) field answer = number_exactly price field answer
row_exactly (Quantity width) field answer = number_exactly quantity field answer
row_exactly (Turnover width) field answer = number_exactly turnover field answer
row_exactly (Difference width) field answer = number_exactly difference field answer
