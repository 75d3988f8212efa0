-- An answer's numbers tell the answer.
use Rattle.std.specs.Prelude.{◌≡◌, ℕ, cond, List, length, ◌==◌, slice_index, refl, Ok, Err}
use Rattle.laws.specs.Refused.{field_no, range_no}
use Rattle.laws.specs.Told.{told}
use Rattle.decimal.specs.declared.FieldFault.TheVariants.{Malformed, OutOfRange}
use Rattle.decimal.specs.declared.Held.TheVariants.{Nothing, Units, Below}
use Rattle.scan.specs.Answers.{Number, number_numbers}

abbrev number_of : List ℕ → Number
number_of ns =
    cond (slice_index ns 0 == field_no) (Err Malformed)
    (cond (slice_index ns 0 == range_no) (Err OutOfRange)
    (Ok (cond (length ns == 1) Nothing (cond (length ns == 2) (Units (slice_index ns 1)) (Below (slice_index ns 1))))))

number_back : (r : Number) → number_of (number_numbers r) ≡ r
number_back (Ok Nothing) = refl
number_back (Ok (Units n)) = refl
number_back (Ok (Below n)) = refl
number_back (Err Malformed) = refl
number_back (Err OutOfRange) = refl

pub number_told : (r s : Number) → number_numbers r ≡ number_numbers s → r ≡ s
number_told = told number_numbers number_of number_back
