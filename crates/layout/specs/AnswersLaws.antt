-- An answer's numbers tell the answer.
use Rattle.std.specs.Prelude.{ℕ, ◌≡◌, refl, cond, List, eqb, get_or, Ok, Err}
use Rattle.layout.specs.declared.read.BadRow.TheVariants.{Field as FieldAt, Range as RangeAt}
use Rattle.decimal.specs.declared.FieldFault.TheVariants.{Malformed, OutOfRange}
use Rattle.laws.specs.Refused.{field_no, range_no}
use Rattle.laws.specs.Told.{told}
use Rattle.layout.specs.Answers.{row_numbers, verdict_numbers, RowRead, Verdict}

-- by the refusal's number, if there is one
abbrev refused_by : {A : Type 0} → List ℕ → A → A → A → A
refused_by ns accepted malformed beyond = cond (eqb (get_or ns 0 0) field_no) malformed (cond (eqb (get_or ns 0 0) range_no) beyond accepted)

row_back : (r : RowRead) → refused_by (row_numbers r) (Ok (get_or (row_numbers r) 1 0)) (Err Malformed) (Err OutOfRange) ≡ r
row_back (Ok cell) = refl
row_back (Err Malformed) = refl
row_back (Err OutOfRange) = refl

pub row_told : (r s : RowRead) → row_numbers r ≡ row_numbers s → r ≡ s
row_told = told row_numbers (λ ns. refused_by ns (Ok (get_or ns 1 0)) (Err Malformed) (Err OutOfRange)) row_back

verdict_back : (v : Verdict) → refused_by (verdict_numbers v) (Ok tt) (Err (FieldAt (get_or (verdict_numbers v) 1 0))) (Err (RangeAt (get_or (verdict_numbers v) 1 0))) ≡ v
verdict_back (Ok good) = refl
verdict_back (Err (FieldAt row)) = refl
verdict_back (Err (RangeAt row)) = refl

pub verdict_told : (v w : Verdict) → verdict_numbers v ≡ verdict_numbers w → v ≡ w
verdict_told = told verdict_numbers (λ ns. refused_by ns (Ok tt) (Err (FieldAt (get_or ns 1 0))) (Err (RangeAt (get_or ns 1 0)))) verdict_back
